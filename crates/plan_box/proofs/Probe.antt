-- The least values of a point that no least value refutes are its own numbers.
use Rattle.std.proofs.Common.{◌≡◌, ℕ, suc, ◌<◌, ◌≤◌, ◌⊎◌, inl, inr, List, [], ◌∷◌, Bool, true, false, cond, refl, arith, sym, ap, ◌∙◌, subst, eqb-true}
use Rattle.glass_base.specs.Problem.{Problem}
use Rattle.cut_model.specs.declared.steps.Step.{Step}
use Rattle.plan_trace.specs.declared.level.Level.{Level}
use Rattle.plan_trace.specs.declared.level.Level.TheVariants.{NewPlate, NewStrip, NewBand, NewCell, Over}
use Rattle.plan_trace.specs.Marks.{Draw, Place, Mark, mark, marks, place_of, begins, no_place, draw_of}
use Rattle.plan_box.specs.declared.var.Var.{Var}
use Rattle.plan_box.specs.Ranges.{Ranges, span_of}
use Rattle.plan_box.specs.Decisions.{is_single, is_drawn, draw_at, decided, opens, is_discrete, is_free_from, IsPoint, low_step, low_steps, no_step, numbers_of}
use Rattle.plan_box.specs.Leasts.{Known, no_known, Fixed, next_known, known_so_far, settled, settle_at, settle, known, least_step, least_steps}
use Rattle.plan_box.specs.Reasons.{SomeFixed, StepR1}
use Rattle.plan_box.proofs.Points.{is_decided, opened_single}

-- what settling leaves of a step's values
pub record Copies (n N : Known) : Type 0 where
  pub place : N.place ≡ n.place
  pub a : (N.least_a ≡ n.least_a) × (N.high_a ≡ n.high_a)
  pub b : (n.least_b ≤ N.least_b) × (N.high_b ≡ n.high_b)
  pub c : (N.least_c ≡ n.least_c) × (N.high_c ≡ n.high_c)
  pub d : (n.least_d ≤ N.least_d) × (N.high_d ≡ n.high_d)
  pub e : (N.least_e ≡ n.least_e) × (N.high_e ≡ n.high_e)

copies_settled : (b : Problem) (l : Level) (p : Place) (r : Ranges) (k N : Known) → Copies (next_known b l p k r) N → Copies k (settled l k N)
copies_settled b NewPlate p r k N h = record { place = refl; a = (refl, refl); b = (omega arith, refl); c = (refl, refl); d = (omega arith, refl); e = (refl, refl) }
copies_settled b NewStrip p r k N h = record { place = refl; a = (refl, refl); b = (omega arith, refl); c = (refl, refl); d = (omega arith, refl); e = (refl, refl) }
copies_settled b NewBand p r k N h = record { place = refl; a = (refl, refl); b = (omega (arith, h.b), refl); c = (refl, refl); d = (omega arith, refl); e = (refl, refl) }
copies_settled b NewCell p r k N h = record { place = refl; a = (refl, refl); b = (omega (arith, h.b), refl); c = (refl, refl); d = (omega (arith, h.d), refl); e = (refl, refl) }
copies_settled b Over p r k N h = record { place = refl; a = (refl, refl); b = (omega (arith, h.b), refl); c = (refl, refl); d = (omega (arith, h.d), refl); e = (refl, refl) }

pub copies : (b : Problem) (k : Known) (ms : List Mark) (rs : List Ranges) → Copies k (settle_at k (settle (known_so_far b k ms rs)))
copies b k [] rs = record { place = refl; a = (refl, refl); b = (omega arith, refl); c = (refl, refl); d = (omega arith, refl); e = (refl, refl) }
copies b k (m ∷ ms) [] = record { place = refl; a = (refl, refl); b = (omega arith, refl); c = (refl, refl); d = (omega arith, refl); e = (refl, refl) }
copies b k (mark l p ∷ ms) (r ∷ rs) = copies_settled b l p r k _ (copies b (next_known b l p k r) ms rs)

-- a step's least values are those of a low step
record Low (K : Known) (t : Step) : Type 0 where
  a : K.least_a ≡ t.a
  b : K.least_b ≡ t.b
  c : K.least_c ≡ t.c
  d : K.least_d ≡ t.d
  e : K.least_e ≡ t.e

at_most : (a b : ℕ) → (b < a → ⊥) → a ≤ b
at_most a b h = omega arith

in_order : (N : Known) (l : Level) → (StepR1 NewPlate no_known l N [] → ⊥) → (N.least_a ≤ N.high_a) × (N.least_b ≤ N.high_b) × (N.least_c ≤ N.high_c) × (N.least_d ≤ N.high_d) × (N.least_e ≤ N.high_e)
in_order N l f =
    (at_most _ _ (λ h. f (inl h)), at_most _ _ (λ h. f (inr (inl h))), at_most _ _ (λ h. f (inr (inr (inl h)))), at_most _ _ (λ h. f (inr (inr (inr (inl h))))), at_most _ _ (λ h. f (inr (inr (inr (inr h))))))

module _ (b : Problem) (p : Place) (r : Ranges) (k N : Known) (t : Step) where
  low_here : (l : Level) → Copies (next_known b l p k r) N → Low (settled l k N) t → (StepR1 NewPlate no_known l N [] → ⊥) → ((v : Var) → opens l v ≡ true → is_single (span_of v r) ≡ true) → Low N (low_step l t r)
  low_here NewPlate h K fits single =
      let a = eqb-true r.a.low r.a.high (single Var.A refl) in let b = eqb-true r.b.low r.b.high (single Var.B refl) in let c = eqb-true r.c.low r.c.high (single Var.C refl) in let d = eqb-true r.d.low r.d.high (single Var.D refl) in let e = eqb-true r.e.low r.e.high (single Var.E refl) in
      let ok : (N.least_a ≤ N.high_a) × (N.least_b ≤ N.high_b) × (N.least_c ≤ N.high_c) × (N.least_d ≤ N.high_d) × (N.least_e ≤ N.high_e) = in_order N NewPlate fits in
      record { a = omega (arith, ok, h.a, a); b = omega (arith, ok, h.b, b); c = omega (arith, ok, h.c, c); d = omega (arith, ok, h.d, d); e = omega (arith, ok, h.e, e) }
  low_here NewStrip h K fits single =
      let a = eqb-true r.a.low r.a.high (single Var.A refl) in let b = eqb-true r.b.low r.b.high (single Var.B refl) in let c = eqb-true r.c.low r.c.high (single Var.C refl) in let d = eqb-true r.d.low r.d.high (single Var.D refl) in let e = eqb-true r.e.low r.e.high (single Var.E refl) in
      let ok : (N.least_a ≤ N.high_a) × (N.least_b ≤ N.high_b) × (N.least_c ≤ N.high_c) × (N.least_d ≤ N.high_d) × (N.least_e ≤ N.high_e) = in_order N NewStrip fits in
      record { a = omega (arith, ok, h.a, a); b = omega (arith, ok, h.b, b); c = omega (arith, ok, h.c, c); d = omega (arith, ok, h.d, d); e = omega (arith, ok, h.e, e) }
  low_here NewBand h K fits single =
      let c = eqb-true r.c.low r.c.high (single Var.C refl) in let d = eqb-true r.d.low r.d.high (single Var.D refl) in let e = eqb-true r.e.low r.e.high (single Var.E refl) in
      let ok : (N.least_a ≤ N.high_a) × (N.least_b ≤ N.high_b) × (N.least_c ≤ N.high_c) × (N.least_d ≤ N.high_d) × (N.least_e ≤ N.high_e) = in_order N NewBand fits in
      record { a = omega (arith, h.a, K.a); b = omega (arith, K.b); c = omega (arith, ok, h.c, c); d = omega (arith, ok, h.d, d); e = omega (arith, ok, h.e, e) }
  low_here NewCell h K fits single =
      let e = eqb-true r.e.low r.e.high (single Var.E refl) in
      let ok : (N.least_a ≤ N.high_a) × (N.least_b ≤ N.high_b) × (N.least_c ≤ N.high_c) × (N.least_d ≤ N.high_d) × (N.least_e ≤ N.high_e) = in_order N NewCell fits in
      record { a = omega (arith, h.a, K.a); b = omega (arith, K.b); c = omega (arith, h.c, K.c); d = omega (arith, K.d); e = omega (arith, ok, h.e, e) }
  low_here Over h K fits single = record { a = omega (arith, h.a, K.a); b = omega (arith, K.b); c = omega (arith, h.c, K.c); d = omega (arith, K.d); e = omega (arith, h.e, K.e) }

pub place_known : (b : Problem) (l : Level) (p : Place) (k : Known) (r : Ranges) → (next_known b l p k r).place ≡ p
place_known b NewPlate p k r = refl
place_known b NewStrip p k r = refl
place_known b NewBand p k r = refl
place_known b NewCell p k r = refl
place_known b Over p k r = refl

draw_low : (l : Level) (t : Step) (r : Ranges) → draw_at r ≡ draw_of (low_step l t r)
draw_low NewPlate t r = refl
draw_low NewStrip t r = refl
draw_low NewBand t r = refl
draw_low NewCell t r = refl
draw_low Over t r = refl

same_step : (N : Known) (s : Step) → N.place.draw ≡ draw_of s → Low N s → least_step N ≡ s
same_step N s p h = λ i. record { stack = (p i).stack; turn = (p i).turn; kind = (p i).kind; lift = (p i).lift; a = h.a i; b = h.b i; c = h.c i; d = h.d i; e = h.e i }

pub later_point : {a : Bool} (d : Bool) → d ≡ true → cond d a false ≡ false → a ≡ false
later_point true e h = h
later_point false e h = absurd (cc)

-- the first step opens all, so it needs no step before
low_first : (b : Problem) (before : List Draw) (k N : Known) (t : Step) (r : Ranges) (place : Place) →
    Low (settled (begins before r.kind.low) k N) t ⊎ (before ≡ []) → Copies (next_known b (begins before r.kind.low) (place_of b before place (draw_at r)) k r) N →
    (StepR1 NewPlate no_known (begins before r.kind.low) N [] → ⊥) → ((v : Var) → opens (begins before r.kind.low) v ≡ true → is_single (span_of v r) ≡ true) →
    Low N (low_step (begins before r.kind.low) t r)
low_first b before k N t r place (inl low) c fits single = low_here b (place_of b before place (draw_at r)) r k N t (begins before r.kind.low) c low fits single
low_first b [] k N t r place (inr e) c fits single =
    low_here b (place_of b [] place (draw_at r)) r k N (least_step k) NewPlate c (record { a = refl; b = refl; c = refl; d = refl; e = refl }) fits single
low_first b (x ∷ before) k N t r place (inr e) c fits single = absurd (cc)

least_low : (b : Problem) (before : List Draw) (place : Place) (m : Level) (j k : Known) (t : Step) (rs : List Ranges) →
    ((step : ℕ) (v : Var) → is_free_from before rs step v ≡ false) →
    (SomeFixed StepR1 m j (settle (known_so_far b k (marks b before place (decided rs)) rs)) → ⊥) →
    Low (settle_at k (settle (known_so_far b k (marks b before place (decided rs)) rs))) t ⊎ (before ≡ []) →
    least_steps (settle (known_so_far b k (marks b before place (decided rs)) rs)) ≡ low_steps before t rs
least_low b before place m j k t [] point fits low = refl
least_low b before place m j k t (r ∷ rs) point fits low =
    let drawn : is_drawn r ≡ true = is_decided before r rs point (is_drawn r) refl in
    (subst (λ yes.
    (SomeFixed StepR1 m j (settle (known_so_far b k (marks b before place (cond yes (draw_at r ∷ decided rs) [])) (r ∷ rs))) → ⊥) →
    Low (settle_at k (settle (known_so_far b k (marks b before place (cond yes (draw_at r ∷ decided rs) [])) (r ∷ rs)))) t ⊎ (before ≡ []) →
    least_steps (settle (known_so_far b k (marks b before place (cond yes (draw_at r ∷ decided rs) [])) (r ∷ rs))) ≡ low_steps before t (r ∷ rs))
    (sym drawn)
    (λ fits low.
    let l : Level = begins before r.kind.low in
    let p : Place = place_of b before place (draw_at r) in
    let n : Known = next_known b l p k r in
    let rest : List Fixed = settle (known_so_far b n (marks b (draw_at r ∷ before) p (decided rs)) rs) in
    let N : Known = settle_at n rest in
    let c : Copies n N = copies b n (marks b (draw_at r ∷ before) p (decided rs)) rs in
    let single : (v : Var) → opens l v ≡ true → is_single (span_of v r) ≡ true =
    λ v o. opened_single (is_drawn r) (is_single (span_of v r)) (opens l v) (is_discrete v) drawn o (point 0 v) in
    let here : Low N (low_step l t r) = low_first b before k N t r place low c (λ x. fits (inl x)) single in
    ap (λ s. s ∷ least_steps rest) (same_step N (low_step l t r) (ap (λ q. q.draw) (c.place ∙ place_known b l p k r) ∙ draw_low l t r) here)
    ∙ ap (λ x. low_step l t r ∷ x)
    (least_low b (draw_at r ∷ before) p l N n (low_step l t r) rs (λ step v. later_point (is_drawn r) drawn (point (suc step) v)) (λ x. fits (inr x)) (inl here))))
    fits low

-- the least values of a point that R1 does not refute are its own numbers
pub point_least : (b : Problem) (rs : List Ranges) → IsPoint rs → (SomeFixed StepR1 NewPlate no_known (known b rs) → ⊥) → least_steps (known b rs) ≡ numbers_of rs
point_least b rs point fits = least_low b [] no_place NewPlate no_known no_known no_step rs point fits (inr refl)
