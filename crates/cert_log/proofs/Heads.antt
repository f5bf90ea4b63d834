-- The first line, field by field.
use Rattle.std.proofs.Common.{◌≡◌, ℕ, ◌<◌, inl, inr, Bool, true, false, cond, ltb, List, [], ◌∷◌, ◌++◌, codes, refl, sym, ap, ◌∙◌, subst, arith, Option, Some, None}
use Rattle.std.proofs.lemmas.Bool.{false_from_ne_true, lt-ltb, ltb-true}
use Rattle.std.specs.Fmt.{decimal}
use Rattle.std.proofs.lemmas.Fmt.{decimal_injective}
use Rattle.std.proofs.lemmas.List.{append_assoc, append_cancel_left}
use Rattle.cert_log.specs.declared.head.Head.{Head}
use Rattle.cert_log.specs.Texts.{loss_text, first_line, floor_text}
use Rattle.cert_log.specs.Values.{IsFloorOf, IsLoss, IsNumber, IsVersionNumber}
use Rattle.cert_log.specs.Outcomes.{IsHead}
use Rattle.cert_log.specs.inner.Fields.{Lacks}
use Rattle.cert_log.proofs.Spelling.{AreDigits, ends_alike, decimal_digits, decimal_lacks}
use Rattle.cert_log.proofs.Marks.{version_small}

pub loss_lacks : (loss : Option ℕ) → IsLoss loss → Lacks 59 (loss_text loss)
loss_lacks None fits = ((λ e. omega arith), ((λ e. omega arith), ((λ e. omega arith), ((λ e. omega arith), tt))))
loss_lacks (Some n) fits = decimal_lacks 59 n (inr (omega arith)) fits

losses_alike : (k j : Option ℕ) → IsLoss k → IsLoss j → loss_text k ≡ loss_text j → k ≡ j
losses_alike None None a b e = refl
losses_alike None (Some n) a b e = absurd (let d = subst AreDigits (sym e) (decimal_digits n b) in let u = d.0.1 in omega arith)
losses_alike (Some n) None a b e = absurd (let d = subst AreDigits e (decimal_digits n a) in let u = d.0.1 in omega arith)
losses_alike (Some n) (Some m) a b e = ap Some (decimal_injective n m a b e)

-- the number of open nodes, the floor and what follows the first line
abbrev pub counts_text : Head → List ℕ → List ℕ
counts_text h rest = decimal h.left ++ (floor_text h.version h.floor ++ 10 ∷ rest)

-- the first line, field by field
head_flat : (h : Head) (rest : List ℕ)
    → first_line h ++ rest ≡ codes "glasscert" ++ 59 ∷ (decimal h.version ++ 59 ∷ (loss_text h.loss ++ 59 ∷ (loss_text h.bound ++ 59 ∷ counts_text h rest)))
head_flat h rest = simp append_assoc

pub other_word : (text front rest : List ℕ) → text ≡ front ++ 59 ∷ rest → Lacks 59 front → (front ≡ codes "glasscert" → ⊥) → (more : List ℕ) → text ≡ codes "glasscert" ++ 59 ∷ more → ⊥
other_word text front rest e lack not more f =
    not (ends_alike 59 front (codes "glasscert") rest more lack ((λ e. omega arith), ((λ e. omega arith), ((λ e. omega arith), ((λ e. omega arith), ((λ e. omega arith), ((λ e. omega arith), ((λ e. omega arith), ((λ e. omega arith), ((λ e. omega arith), tt))))))))) (sym e ∙ f)).front

-- the version of a first line is the one that was read, and behind it stand the other fields
pub record IsBehindVersion (r1 : List ℕ) (v : ℕ) (h : Head) (rest : List ℕ) : Type 0 where
  pub same : v ≡ h.version
  pub back : r1 ≡ loss_text h.loss ++ 59 ∷ (loss_text h.bound ++ 59 ∷ counts_text h rest)

pub behind_version : (text r0 r1 : List ℕ) (v : ℕ) → text ≡ codes "glasscert" ++ 59 ∷ r0 → r0 ≡ decimal v ++ 59 ∷ r1 → IsVersionNumber v → (h : Head) (rest : List ℕ) → IsHead h → text ≡ first_line h ++ rest
    → IsBehindVersion r1 v h rest
behind_version text r0 r1 v e d is h rest head f =
    let more = loss_text h.loss ++ 59 ∷ (loss_text h.bound ++ 59 ∷ counts_text h rest) in
    let small_v = version_small v is in let small_h = version_small h.version head.version in
    let g = append_cancel_left (codes "glasscert;") r0 (decimal h.version ++ 59 ∷ more) (sym e ∙ f ∙ head_flat h rest) in
    let ends = ends_alike 59 (decimal v) (decimal h.version) r1 more (decimal_lacks 59 v (inr (omega arith)) small_v) (decimal_lacks 59 h.version (inr (omega arith)) small_h) (sym d ∙ g) in
    record { same = decimal_injective v h.version small_v small_h ends.front; back = ends.back }

pub behind_loss : (r1 r2 more : List ℕ) (l k : Option ℕ) → IsLoss l → IsLoss k → r1 ≡ loss_text l ++ 59 ∷ r2 → r1 ≡ loss_text k ++ 59 ∷ more → r2 ≡ more
behind_loss r1 r2 more l k a b e f = (ends_alike 59 (loss_text l) (loss_text k) r2 more (loss_lacks l a) (loss_lacks k b) (sym e ∙ f)).back

-- before version 3 no floor is said
pub no_floor_said : (version floor : ℕ) → version < 3 → floor_text version floor ≡ []
no_floor_said version floor low = ap (λ (b : Bool). cond b [] (59 ∷ decimal floor)) (lt-ltb version 3 low)

-- from version 3 on it is
pub floor_said : (version floor : ℕ) → (version < 3 → ⊥) → floor_text version floor ≡ 59 ∷ decimal floor
floor_said version floor high = ap (λ (b : Bool). cond b [] (59 ∷ decimal floor)) (false_from_ne_true (ltb version 3) (λ is. high (ltb-true version 3 is)))

-- behind the number of open nodes and a semicolon stands the floor
pub later_floor : (version found left floor : ℕ) (text behind rest : List ℕ) → IsNumber found → IsNumber left → (version < 3 → ⊥) → text ≡ decimal found ++ 59 ∷ behind
    → text ≡ decimal left ++ (floor_text version floor ++ 10 ∷ rest) → behind ≡ decimal floor ++ 10 ∷ rest
later_floor version found left floor text behind rest small_found small_left high is e =
    let said = ap (λ (t : List ℕ). decimal left ++ (t ++ 10 ∷ rest)) (floor_said version floor high) in
    (ends_alike 59 (decimal found) (decimal left) behind (decimal floor ++ 10 ∷ rest) (decimal_lacks 59 found (inr (omega arith)) small_found) (decimal_lacks 59 left (inr (omega arith)) small_left) (sym is ∙ e ∙ said)).back

pub record CountsAlike (m n f g : ℕ) (s t : List ℕ) : Type 0 where
  pub left : m ≡ n
  pub floor : f ≡ g
  pub back : s ≡ t

-- a text begins with one number of open nodes and one floor
pub counts_alike : (version m n f g : ℕ) (s t : List ℕ) → IsNumber m → IsNumber n → IsFloorOf version f → IsFloorOf version g
    → decimal m ++ (floor_text version f ++ 10 ∷ s) ≡ decimal n ++ (floor_text version g ++ 10 ∷ t) → CountsAlike m n f g s t
counts_alike version m n f g s t small_m small_n floor_f floor_g = by (ltb version 3) refl
  where
    by : (b : Bool) → ltb version 3 ≡ b → decimal m ++ (cond b [] (59 ∷ decimal f) ++ 10 ∷ s) ≡ decimal n ++ (cond b [] (59 ∷ decimal g) ++ 10 ∷ t) → CountsAlike m n f g s t
    by true is e =
        let low = ltb-true version 3 is in
        let r = ends_alike 10 (decimal m) (decimal n) s t (decimal_lacks 10 m (inl (omega arith)) small_m) (decimal_lacks 10 n (inl (omega arith)) small_n) e in
        record { left = decimal_injective m n small_m small_n r.front; floor = floor_f.1 low ∙ sym (floor_g.1 low); back = r.back }
    by false is e =
        let r = ends_alike 59 (decimal m) (decimal n) (decimal f ++ 10 ∷ s) (decimal g ++ 10 ∷ t) (decimal_lacks 59 m (inr (omega arith)) small_m) (decimal_lacks 59 n (inr (omega arith)) small_n) e in
        let q = ends_alike 10 (decimal f) (decimal g) s t (decimal_lacks 10 f (inl (omega arith)) floor_f.0) (decimal_lacks 10 g (inl (omega arith)) floor_g.0) r.back in
        record { left = decimal_injective m n small_m small_n r.front; floor = decimal_injective f g floor_f.0 floor_g.0 q.front; back = q.back }

pub record HeadsAlike (h k : Head) (s t : List ℕ) : Type 0 where
  pub version : h.version ≡ k.version
  pub loss : h.loss ≡ k.loss
  pub bound : h.bound ≡ k.bound
  pub left : h.left ≡ k.left
  pub floor : h.floor ≡ k.floor
  pub back : s ≡ t

-- a text begins with one first line
pub heads_alike : (h k : Head) (s t : List ℕ) → IsHead h → IsHead k → first_line h ++ s ≡ first_line k ++ t → HeadsAlike h k s t
heads_alike h k s t x y e =
    let left_h = counts_text h s in let left_k = counts_text k t in
    let bound_h = loss_text h.bound ++ 59 ∷ left_h in let bound_k = loss_text k.bound ++ 59 ∷ left_k in
    let loss_h = loss_text h.loss ++ 59 ∷ bound_h in let loss_k = loss_text k.loss ++ 59 ∷ bound_k in
    let f = append_cancel_left (codes "glasscert;") (decimal h.version ++ 59 ∷ loss_h) (decimal k.version ++ 59 ∷ loss_k) (sym (head_flat h s) ∙ e ∙ head_flat k t) in
    let small_h = version_small h.version x.version in let small_k = version_small k.version y.version in
    let v = ends_alike 59 (decimal h.version) (decimal k.version) loss_h loss_k (decimal_lacks 59 h.version (inr (omega arith)) small_h) (decimal_lacks 59 k.version (inr (omega arith)) small_k) f in
    let l = ends_alike 59 (loss_text h.loss) (loss_text k.loss) bound_h bound_k (loss_lacks h.loss x.loss) (loss_lacks k.loss y.loss) v.back in
    let b = ends_alike 59 (loss_text h.bound) (loss_text k.bound) left_h left_k (loss_lacks h.bound x.bound) (loss_lacks k.bound y.bound) l.back in
    let same = decimal_injective h.version k.version small_h small_k v.front in
    let n = counts_alike h.version h.left k.left h.floor k.floor s t x.left y.left x.floor (subst (λ (u : ℕ). IsFloorOf u k.floor) (sym same) y.floor)
    (subst (λ (u : ℕ). left_h ≡ decimal k.left ++ (floor_text u k.floor ++ 10 ∷ t)) (sym same) b.back) in
    record {
      version = same;
      loss = losses_alike h.loss k.loss x.loss y.loss l.front;
      bound = losses_alike h.bound k.bound x.bound y.bound b.front;
      left = n.left;
      floor = n.floor;
      back = n.back;
    }
