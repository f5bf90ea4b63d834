-- Decided steps, one after another, are what the definition gives.
use Rattle.std.proofs.Common.{◌≡◌, ℕ, ◌+◌, ◌<◌, Bool, true, false, cond, List, [], ◌∷◌, ◌++◌, length, map, take, get_or, refl, ap, sym, ◌∙◌}
use Rattle.std.proofs.Math.ListN.{set}
use Rattle.std.proofs.lemmas.List.{take_more, take_more_set, map-append}
use Rattle.glass_base.specs.Problem.{Problem}
use Rattle.plan_trace.specs.declared.level.Level.{Level}
use Rattle.plan_trace.specs.Marks.{Draw, Place, begins, place_of, marks}
use Rattle.plan_box.specs.declared.packed.Packed.{Packed}
use Rattle.plan_box.specs.Decisions.{decided, draw_at, is_drawn}
use Rattle.plan_box.specs.Leasts.{Known, Fixed, fixed, known, known_so_far, next_known, no_known, last_known, settle}
use Rattle.plan_box.specs.Packed.{unpacked}
use Rattle.plan_box.specs.Ranges.{Ranges}
use Rattle.plan_box.specs.Follows.{draws_of, follow, next_fixed}
use Rattle.plan_box.proofs.Draws.{draws_pushed, pushed}
use Rattle.plan_box.proofs.Probe.{place_known}

follows_from : (b : Problem) (before : List Draw) (k : Known) (rs : List Ranges) →
    known_so_far b k (marks b before k.place (decided rs)) rs ≡ follow b before k (take (length (decided rs)) rs)
follows_from b before k [] = refl
follows_from b before k (r ∷ rs) =
    let l : Level = begins before r.kind.low in
    let p : Place = place_of b before k.place (draw_at r) in
    let n : Known = next_known b l p k r in
    by (is_drawn r)
    (ap (λ (ks : List Fixed). fixed l n ∷ ks)
    (ap (λ (q : Place). known_so_far b n (marks b (draw_at r ∷ before) q (decided rs)) rs) (sym (place_known b l p k r)) ∙ follows_from b (draw_at r ∷ before) n rs))
  where
    by : (v : Bool) → known_so_far b k (marks b before k.place (draw_at r ∷ decided rs)) (r ∷ rs) ≡ follow b before k (r ∷ take (length (decided rs)) rs) →
        known_so_far b k (marks b before k.place (cond v (draw_at r ∷ decided rs) [])) (r ∷ rs) ≡ follow b before k (take (length (cond v (draw_at r ∷ decided rs) [])) (r ∷ rs))
    by false h = refl
    by true h = h

-- the values of the decided steps as they and the earlier ones give them
pub known_follows : (b : Problem) (rs : List Ranges) → known b rs ≡ settle (follow b [] no_known (take (length (decided rs)) rs))
known_follows b rs = ap settle (follows_from b [] no_known rs)

follow_more : (b : Problem) (before : List Draw) (k : Known) (rs : List Ranges) (r : Ranges) →
    follow b before k (rs ++ r ∷ []) ≡ follow b before k rs ++ next_fixed b (pushed rs before) (last_known k (follow b before k rs)) r ∷ []
follow_more b before k [] r = refl
follow_more b before k (x ∷ rs) r =
    let l : Level = begins before x.kind.low in
    let n : Known = next_known b l (place_of b before k.place (draw_at x)) k x in
    ap (λ (ks : List Fixed). fixed l n ∷ ks) (follow_more b (draw_at x ∷ before) n rs r)

-- the first steps of these ranges, all decided
abbrev pub followed : Problem → List Packed → ℕ → List Fixed
followed b ranges i = follow b [] no_known (map unpacked (take i ranges))

-- one more of them
one_more : (b : Problem) (ranges : List Packed) (i : ℕ) (d : Packed) (z : Fixed) (k : Known) → i < length ranges → k ≡ last_known no_known (followed b ranges i) →
    z ≡ next_fixed b (draws_of (take i ranges)) k (unpacked (get_or ranges i d)) → followed b ranges (i + 1) ≡ followed b ranges i ++ z ∷ []
one_more b ranges i d z k lt last value =
    let rs : List Ranges = map unpacked (take i ranges) in
    let r : Ranges = unpacked (get_or ranges i d) in
    let here : z ≡ next_fixed b (pushed rs []) (last_known no_known (follow b [] no_known rs)) r =
    value ∙ ap (λ (ds : List Draw). next_fixed b ds k r) (draws_pushed (take i ranges) []) ∙ ap (λ (j : Known). next_fixed b (pushed rs []) j r) last in
    ap (λ (ps : List Packed). follow b [] no_known (map unpacked ps)) (take_more ranges i d lt)
    ∙ ap (follow b [] no_known) (map-append unpacked (take i ranges) (get_or ranges i d ∷ []))
    ∙ follow_more b [] no_known rs r
    ∙ ap (λ (x : Fixed). follow b [] no_known rs ++ x ∷ []) (sym here)

-- steps that code keeps are these, with one more
pub followed_more : {X : Type 0} (f : X → Fixed) (b : Problem) (xs : List X) (ranges : List Packed) (i : ℕ) (y : X) (k : Known) (d : Packed) → i < length xs → i < length ranges →
    map f (take i xs) ≡ follow b [] no_known (map unpacked (take i ranges)) → k ≡ last_known no_known (follow b [] no_known (map unpacked (take i ranges))) →
    f y ≡ next_fixed b (draws_of (take i ranges)) k (unpacked (get_or ranges i d)) → map f (take (i + 1) (set xs i y)) ≡ follow b [] no_known (map unpacked (take (i + 1) ranges))
followed_more f b xs ranges i y k d lt within steps last value =
    ap (map f) (take_more_set xs i y lt) ∙ map-append f (take i xs) (y ∷ []) ∙ ap (λ (ks : List Fixed). ks ++ f y ∷ []) steps ∙ sym (one_more b ranges i d (f y) k within last value)

pub last_push : (k : Known) (ks : List Fixed) (l : Level) (n : Known) → last_known k (ks ++ fixed l n ∷ []) ≡ n
last_push k [] l n = refl
last_push k (fixed m j ∷ ks) l n = last_push j ks l n

-- the next step is the last one of one more
pub followed_last : (b : Problem) (ranges : List Packed) (i : ℕ) (d : Packed) (l : Level) (n k : Known) → i < length ranges → k ≡ last_known no_known (follow b [] no_known (map unpacked (take i ranges))) →
    fixed l n ≡ next_fixed b (draws_of (take i ranges)) k (unpacked (get_or ranges i d)) → n ≡ last_known no_known (follow b [] no_known (map unpacked (take (i + 1) ranges)))
followed_last b ranges i d l n k lt last value = sym (ap (last_known no_known) (one_more b ranges i d (fixed l n) k lt last value) ∙ last_push no_known (followed b ranges i) l n)
