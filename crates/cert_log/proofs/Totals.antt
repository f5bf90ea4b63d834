-- The certificates of all start boxes: each is right, and together they have a node for each note and each left box.
use Rattle.std.proofs.Common.{◌≡◌, ℕ, zero, suc, ◌+◌, ◌*◌, ◌<◌, ◌≤◌, inl, inr, List, [], ◌∷◌, ◌++◌, length, map, max, refl, sym, ap, ◌∙◌, subst, arith}
use Rattle.std.specs.Prelude.{All, sum_by}
use Rattle.std.specs.List.{Contains, AllZip}
use Rattle.std.proofs.lemmas.List.{length-append, length-map}
use Rattle.std.proofs.lemmas.List.Sums.{sum_by-cons, sum_by-append}
use Rattle.std.proofs.lemmas.Bool.{cases_eq}
use Rattle.glass_base.specs.Problem.{Problem}
use Rattle.plan_box.specs.Ranges.{PlainBox}
use Rattle.cert_log.specs.declared.history.Note.{Note}
use Rattle.cert_log.specs.declared.history.Left.{Left}
use Rattle.cert_log.specs.declared.history.History.{History}
use Rattle.cert_log.specs.declared.certificate.Certificate.{Certificate}
use Rattle.cert_log.specs.Good.{least_of, version_for, IsFloor, IsGood, AreGood, IsVersionFor}
use Rattle.cert_log.specs.Splits.{IsSearched, AreSearched}
use Rattle.std.proofs.lemmas.List.Elements.{All-cons, All-nil, All-same}
use Rattle.cert_log.specs.Trees.{nodes_of, FitsVersion}
use Rattle.cert_log.proofs.Naming.{grown_fits}
use Rattle.cert_log.specs.Levels.{lower_id, upper_id}
use Rattle.cert_log.specs.Lawful.{Course, times, loss_of, numbered, ids_of, IsLawful, HasCourse}
use Rattle.cert_log.specs.inner.Growth.{Twig, forks, ends, waits, bare, kept_bounds, Grows, IsMade, AreDifferent, IsRooted, AreMade}
use Rattle.cert_log.proofs.Members.{is_first, is_later, counted, times-append}
use Rattle.cert_log.proofs.Standing.{grown_stands, grown_splits, grown_bounds}
use Rattle.cert_log.proofs.Walked.{Stands, open_bounds, good_of, splits_all}
use Rattle.cert_log.proofs.Growing.{has_twig}
use Rattle.cert_log.proofs.Versions.{none_before}
use Rattle.cert_log.proofs.Counting.{AreOf, weigh, weigh_all, not_left}
use Rattle.cert_log.proofs.Indexing.{count_ids}
use Rattle.cert_log.proofs.Identities.{ids_below}

-- one for each identity
abbrev one : ℕ → ℕ
one x = 1

-- how often it is that of a left box
abbrev in_left : History → ℕ → ℕ
in_left h x = times x (map (λ (l : Left). l.bx.id) h.left.items)

pub weigh_one : (t : Twig) → weigh one t ≡ length (nodes_of (bare t))
weigh_one (forks n step v lower upper) =
    let l = weigh_one lower in let u = weigh_one upper in let a = length-append (nodes_of (bare lower)) (nodes_of (bare upper)) in omega arith
weigh_one (ends n threshold cause) = refl
weigh_one (waits l) = refl

once_left : (h : History) (once : AreDifferent h) (l : Left) → Contains h.left.items l → in_left h l.bx.id ≡ 1
once_left h once l at =
    let a = times-append l.bx.id (map (λ (n : Note). n.id) h.log.items) (map (λ (k : Left). k.bx.id) h.left.items) in
    let o = once l.bx.id in let c = counted (λ (k : Left). k.bx.id) h.left.items l at in omega arith

weigh_left : (h : History) (once : AreDifferent h) (x : ℕ) (t : Twig) → Grows h x t → weigh (in_left h) t ≡ length (kept_bounds t)
weigh_left h once x (forks n step v lower upper) g =
    let z = not_left h once n g.0 in let l = weigh_left h once (lower_id h.starts n.ticket) lower g.3 in let u = weigh_left h once (upper_id h.starts n.ticket) upper g.4 in
    let a = length-append (kept_bounds lower) (kept_bounds upper) in omega arith
weigh_left h once x (ends n threshold cause) g = not_left h once n g.0
weigh_left h once x (waits l) g = once_left h once l g.0

sum_one : (ids : List ℕ) → sum_by one ids ≡ length ids
sum_one [] = refl
sum_one (x ∷ xs) = let c = sum_by-cons one x xs in let r = sum_one xs in omega arith

sum_map_one : {X : Type 0} (g : ℕ → ℕ) (key : X → ℕ) (k : ℕ) (xs : List X) → ((x : X) → Contains xs x → g (key x) ≡ k) → sum_by g (map key xs) ≡ length xs * k
sum_map_one g key k [] each = omega arith
sum_map_one g key k (x ∷ xs) each =
    let c = sum_by-cons g (key x) (map key xs) in let e = each x (is_first x xs) in
    let r = sum_map_one g key k xs (λ y at. each y (is_later x xs y at)) in grind arith

-- of all identities, those of left boxes
left_of_all : (h : History) (once : AreDifferent h) → sum_by (in_left h) (ids_of h) ≡ length h.left.items
left_of_all h once =
    let a = sum_by-append (in_left h) (map (λ (n : Note). n.id) h.log.items) (map (λ (l : Left). l.bx.id) h.left.items) in
    let n = sum_map_one (in_left h) (λ (n : Note). n.id) 0 h.log.items (λ n at. not_left h once n at) in
    let l = sum_map_one (in_left h) (λ (l : Left). l.bx.id) 1 h.left.items (λ l at. once_left h once l at) in omega arith

-- the trees that certificates tell
abbrev twigs_of : (h : History) (n : ℕ) (cs : List Certificate) → AreMade h n cs → List Twig
twigs_of h n [] m = []
twigs_of h n (c ∷ cs) m = m.0.twig ∷ twigs_of h (n + 1) cs m.1

made_of_boxes : (h : History) (n : ℕ) (xs : List PlainBox) (cs : List Certificate) (m : AreMade h n cs) → numbered n xs → length xs ≡ length cs → AreOf h xs (twigs_of h n cs m)
made_of_boxes h n [] [] m num same = tt
made_of_boxes h n [] (c ∷ cs) m num same = absurd (omega arith)
made_of_boxes h n (x ∷ xs) [] m num same = absurd (omega arith)
made_of_boxes h n (x ∷ xs) (c ∷ cs) m num same =
    (subst (λ (i : ℕ). Grows h i m.0.twig) (sym num.0) m.0.grows, made_of_boxes h (n + 1) xs cs m.1 num.1 (omega arith))

nodes_total : (h : History) (n : ℕ) (cs : List Certificate) (m : AreMade h n cs) → sum_by (λ c. length c.nodes.items) cs ≡ sum_by (weigh one) (twigs_of h n cs m)
nodes_total h n [] m = refl
nodes_total h n (c ∷ cs) m =
    let a = sum_by-cons (λ (c : Certificate). length c.nodes.items) c cs in let d = sum_by-cons (weigh one) m.0.twig (twigs_of h (n + 1) cs m.1) in
    let e = ap length m.0.nodes_are in let w = weigh_one m.0.twig in let r = nodes_total h (n + 1) cs m.1 in omega arith

left_total : (h : History) (once : AreDifferent h) (n : ℕ) (cs : List Certificate) (m : AreMade h n cs) → sum_by (λ c. c.left) cs ≡ sum_by (weigh (in_left h)) (twigs_of h n cs m)
left_total h once n [] m = refl
left_total h once n (c ∷ cs) m =
    let a = sum_by-cons (λ (c : Certificate). c.left) c cs in let d = sum_by-cons (weigh (in_left h)) m.0.twig (twigs_of h (n + 1) cs m.1) in
    let e = m.0.left_is in let w = weigh_left h once n m.0.twig m.0.grows in let r = left_total h once (n + 1) cs m.1 in omega arith

module _ (b : Problem) (s : Course) (h : History) (lawful : IsLawful b s h) where
  -- a certificate is right for its box
  made_good : (x : PlainBox) (c : Certificate) → Contains s.boxes x → IsMade h x.id c → IsGood b x.ranges (loss_of h.best) c
  made_good x c at m =
      let e = grown_bounds b s h lawful zero x m.twig at m.grows in
      let t = bare m.twig in let floor = sym m.floor_is in
      let stands = grown_stands b s h lawful zero x m.twig at m.grows in
      let left = m.left_is ∙ sym (length-map (kept_bounds m.twig) (max h.floor)) ∙ ap length (sym e) in
      let least = m.bound_is ∙ ap (least_of (loss_of h.best)) (sym e) in
      good_of b x.ranges (loss_of h.best) c t m.nodes_are m.loss_is (subst (IsFloor b) floor lawful.least_is)
      (subst (λ (n : ℕ). Stands b n (loss_of h.best) x.ranges t) floor stands)
      (left ∙ ap (λ (n : ℕ). length (open_bounds b n x.ranges t)) floor)
      (least ∙ ap (λ (n : ℕ). least_of (loss_of h.best) (open_bounds b n x.ranges t)) floor)

  -- it splits no other boxes than those that had to be searched
  made_searched : (x : PlainBox) (c : Certificate) → Contains s.boxes x → IsMade h x.id c → IsSearched b s.first x.ranges c
  made_searched x c at m =
      let t = bare m.twig in let splits = grown_splits b s h lawful zero x m.twig at m.grows in
      record { tree = t; nodes_are = m.nodes_are; splits = splits_all b s.first t x.ranges splits }

  -- what holds of each certificate that tells the tree of a box, box by box
  each_from : (P : PlainBox → Certificate → Type 0) → ((x : PlainBox) (c : Certificate) → Contains s.boxes x → IsMade h x.id c → P x c)
      → (n : ℕ) (xs : List PlainBox) (cs : List Certificate) → AreMade h n cs → numbered n xs → length xs ≡ length cs → ((x : PlainBox) → Contains xs x → Contains s.boxes x) → AllZip P xs cs
  each_from P each n [] [] m num same among = tt
  each_from P each n [] (c ∷ cs) m num same among = absurd (omega arith)
  each_from P each n (x ∷ xs) [] m num same among = absurd (omega arith)
  each_from P each n (x ∷ xs) (c ∷ cs) m num same among = (
    each x c (among x (is_first x xs)) (subst (λ (i : ℕ). IsMade h i c) (sym num.0) m.0),
    each_from P each (n + 1) xs cs m.1 num.1 (omega arith) (λ y at. among y (is_later x xs y at)),
  )

  made_version : (x : PlainBox) (c : Certificate) → Contains s.boxes x → IsMade h x.id c → IsVersionFor h.floor c
  made_version x c at m = (
    (m.version_is, All-same (FitsVersion (version_for h.floor)) c.nodes.items (nodes_of (bare m.twig)) m.nodes_are (grown_fits b s h lawful zero x m.twig at m.grows), λ low. m.floor_is ∙ none_before h.floor low),
    m.floor_is,
  )

  version_from : (n : ℕ) (xs : List PlainBox) (cs : List Certificate) → AreMade h n cs → numbered n xs → length xs ≡ length cs → ((x : PlainBox) → Contains xs x → Contains s.boxes x) → All (IsVersionFor h.floor) cs
  version_from n xs [] m num same among = All-nil (IsVersionFor h.floor)
  version_from n [] (c ∷ cs) m num same among = absurd (omega arith)
  version_from n (x ∷ xs) (c ∷ cs) m num same among =
      All-cons (IsVersionFor h.floor) c cs
      (made_version x c (among x (is_first x xs)) (subst (λ (i : ℕ). IsMade h i c) (sym num.0) m.0))
      (version_from (n + 1) xs cs m.1 num.1 (omega arith) (λ y at. among y (is_later x xs y at)))

  pub all_version : (cs : List Certificate) → AreMade h 0 cs → length cs ≡ h.starts → All (IsVersionFor h.floor) cs
  all_version cs m whole = version_from 0 s.boxes cs m lawful.start_ids (let e = lawful.starts_are in omega arith) (λ x at. at)

  pub all_good : (cs : List Certificate) → AreMade h 0 cs → length cs ≡ h.starts → AreGood b (loss_of h.best) s.boxes cs
  all_good cs m whole = each_from (λ x c. IsGood b x.ranges (loss_of h.best) c) made_good 0 s.boxes cs m lawful.start_ids (let e = lawful.starts_are in omega arith) (λ x at. at)

  pub all_searched : (cs : List Certificate) → AreMade h 0 cs → length cs ≡ h.starts → AreSearched b s.first s.boxes cs
  all_searched cs m whole = each_from (λ x c. IsSearched b s.first x.ranges c) made_searched 0 s.boxes cs m lawful.start_ids (let e = lawful.starts_are in omega arith) (λ x at. at)

  pub all_nodes : (cs : List Certificate) → AreMade h 0 cs → length cs ≡ h.starts → sum_by (λ c. length c.nodes.items) cs ≡ length h.log.items + length h.left.items
  all_nodes cs m whole =
      let a = made_of_boxes h 0 s.boxes cs m lawful.start_ids (let e = lawful.starts_are in omega arith) in
      let w = weigh_all b s h lawful (twigs_of h 0 cs m) a one in let n = nodes_total h 0 cs m in let o = sum_one (ids_of h) in let c = count_ids h in omega arith

  pub all_left : (cs : List Certificate) → AreMade h 0 cs → length cs ≡ h.starts → sum_by (λ c. c.left) cs ≡ length h.left.items
  all_left cs m whole =
      let a = made_of_boxes h 0 s.boxes cs m lawful.start_ids (let e = lawful.starts_are in omega arith) in
      let w = weigh_all b s h lawful (twigs_of h 0 cs m) a (in_left h) in let n = left_total h lawful.each_once 0 cs m in let l = left_of_all h lawful.each_once in omega arith

  -- a tree for each start box
  trees_of : (xs : List PlainBox) → ((x : PlainBox) → Contains xs x → Contains s.boxes x) → (ts : List Twig) × AreOf h xs ts
  trees_of [] among = ([], tt)
  trees_of (x ∷ xs) among =
      let t = has_twig b s h lawful x (among x (is_first x xs)) in let r = trees_of xs (λ y at. among y (is_later x xs y at)) in (t.0 ∷ r.0, (t.1, r.1))

  rooted_in : (most n id : ℕ) (xs : List PlainBox) (ts : List Twig) → AreOf h xs ts → numbered n xs → n ≤ id → id < n + length xs → sum_by (weigh one) ts ≤ most → (t : Twig) × Grows h id t × (weigh one t ≤ most)
  rooted_in most n id [] ts of num from upto few = absurd (omega arith)
  rooted_in most n id (x ∷ xs) [] of num from upto few = absurd of
  rooted_in most n id (x ∷ xs) (t ∷ ts) of num from upto few =
      let c = sum_by-cons (weigh one) t ts in
      elim (cases_eq n id) [
        | inl here ↦ (t, subst (λ (i : ℕ). Grows h i t) (num.0 ∙ here) of.0, omega arith)
        | inr later ↦ rooted_in most (n + 1) id xs ts of.1 num.1 (omega arith) (omega arith) (omega arith)
      ]

  pub start_rooted : (id : ℕ) → id < h.starts → IsRooted h id
  start_rooted id within =
      let f = trees_of s.boxes (λ x at. at) in
      let w = weigh_all b s h lawful f.0 f.1 one in let o = sum_one (ids_of h) in let c = count_ids h in
      let r = rooted_in (length h.log.items + length h.left.items) 0 id s.boxes f.0 f.1 lawful.start_ids (omega arith) (let e = lawful.starts_are in omega arith) (omega arith) in
      let n = weigh_one r.0 in record { twig = r.0; grows = r.1; few = omega arith }

pub made_push : (h : History) (n : ℕ) (cs : List Certificate) (c : Certificate) → AreMade h n cs → IsMade h (n + length cs) c → AreMade h n (cs ++ c ∷ [])
made_push h n [] c m a = (subst (λ (i : ℕ). IsMade h i c) (let e : n + 0 ≡ n = omega arith in e) a, tt)
made_push h n (d ∷ ds) c m a = (m.0, made_push h (n + 1) ds c m.1 (subst (λ (i : ℕ). IsMade h i c) (let e : n + suc (length ds) ≡ (n + 1) + length ds = omega arith in e) a))

-- the identities lie below this number of them
pub ids_within : (b : Problem) (h : History) (room : ℕ) → HasCourse b h → room ≡ h.starts + 2 * length h.log.items → All (λ id. id < room) (ids_of h)
ids_within b h room l is k d within = let i = ids_below b l.0 h l.1 k d within in omega arith
