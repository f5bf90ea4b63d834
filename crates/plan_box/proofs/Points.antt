-- A box that is a point holds one trace at most: its low ends, with the numbers that a step does not open taken over.
use Rattle.std.proofs.Common.{◌≡◌, ℕ, suc, List, [], ◌∷◌, Bool, true, false, cond, refl, arith, map, sym, ap, ◌∙◌, subst}
use Rattle.glass_base.specs.Problem.{Problem}
use Rattle.cut_model.specs.declared.steps.Step.{Step}
use Rattle.plan_trace.specs.declared.level.Level.{Level}
use Rattle.plan_trace.specs.declared.level.Level.TheVariants.{NewPlate, NewStrip, NewBand, NewCell, Over}
use Rattle.plan_trace.specs.Marks.{Draw, Place, marks, attach, draw_of, place_of, begins, no_place, Cut, cut}
use Rattle.plan_trace.specs.TraceRules.{Rules, EachStep, Meets, Inherits}
use Rattle.plan_box.specs.declared.var.Var.{Var}
use Rattle.plan_box.specs.Ranges.{Ranges, StepIn, InBox, span_of}
use Rattle.plan_box.specs.Decisions.{is_single, is_drawn, draw_at, opens, is_discrete, is_free_from, low_step, low_steps, no_step}
use Rattle.plan_box.specs.Reasons.{R7}
use Rattle.plan_box.proofs.Law.{single_of, same_draw}

-- the first step of a point is decided
all_four : (r : Ranges) → is_single r.stack ≡ true → is_single r.turn ≡ true → is_single r.kind ≡ true → is_single r.lift ≡ true → is_drawn r ≡ true
all_four r a b c d = rw (a, b, c, d) refl

single_if : (d : Bool) (one o disc : Bool) → d ≡ false → disc ≡ true → cond one false (cond d o disc) ≡ false → one ≡ true
single_if d true o disc e f h = refl
single_if d false o disc e f h = absurd (go d disc e f h)
  where
    go : (d disc : Bool) → d ≡ false → disc ≡ true → cond d o disc ≡ false → ⊥
    go true disc e f h = cc
    go false true e f h = cc
    go false false e f h = cc

pub is_decided : (before : List Draw) (r : Ranges) (rs : List Ranges) → ((step : ℕ) (v : Var) → is_free_from before (r ∷ rs) step v ≡ false) → (d : Bool) → is_drawn r ≡ d → is_drawn r ≡ true
is_decided before r rs h true e = e
is_decided before r rs h false e =
    all_four r (single_if (is_drawn r) (is_single r.stack) _ true e refl (h 0 Var.Stack)) (single_if (is_drawn r) (is_single r.turn) _ true e refl (h 0 Var.Turn))
    (single_if (is_drawn r) (is_single r.kind) _ true e refl (h 0 Var.Kind)) (single_if (is_drawn r) (is_single r.lift) _ true e refl (h 0 Var.Lift))

pub opened_single : (d one o disc : Bool) → d ≡ true → o ≡ true → cond one false (cond d o disc) ≡ false → one ≡ true
opened_single d true o disc e f h = refl
opened_single true false true disc e f h = absurd (cc)
opened_single true false false disc e f h = absurd (cc)
opened_single false false o disc e f h = absurd (cc)

-- the low ends of a step's range are its numbers, where they are single
module _ (s : Step) (r : Ranges) (t : Step) (is_in : StepIn s r) (drawn : is_drawn r ≡ true) where
  low_is : (l : Level) → ((v : Var) → opens l v ≡ true → is_single (span_of v r) ≡ true) →
      (c d : Cut) → Inherits l c d → (c.a ≡ t.a) → (c.b ≡ t.b) → (c.c ≡ t.c) → (c.d ≡ t.d) → (c.e ≡ t.e) → (d.a ≡ s.a) → (d.b ≡ s.b) → (d.c ≡ s.c) → (d.d ≡ s.d) → (d.e ≡ s.e) → s ≡ low_step l t r
  low_is NewPlate single c d inh ta tb tc td te sa sb sc sd se =
      let p = sym (same_draw s r is_in drawn) in
      let a = single_of s.a r.a is_in.a (single Var.A refl) in
      let b = single_of s.b r.b is_in.b (single Var.B refl) in
      let c' = single_of s.c r.c is_in.c (single Var.C refl) in
      let d' = single_of s.d r.d is_in.d (single Var.D refl) in
      let e = single_of s.e r.e is_in.e (single Var.E refl) in
      λ i. record { stack = (p i).stack; turn = (p i).turn; kind = (p i).kind; lift = (p i).lift; a = a i; b = b i; c = c' i; d = d' i; e = e i }
  low_is NewStrip single c d inh ta tb tc td te sa sb sc sd se =
      let p = sym (same_draw s r is_in drawn) in
      let a = single_of s.a r.a is_in.a (single Var.A refl) in
      let b = single_of s.b r.b is_in.b (single Var.B refl) in
      let c' = single_of s.c r.c is_in.c (single Var.C refl) in
      let d' = single_of s.d r.d is_in.d (single Var.D refl) in
      let e = single_of s.e r.e is_in.e (single Var.E refl) in
      λ i. record { stack = (p i).stack; turn = (p i).turn; kind = (p i).kind; lift = (p i).lift; a = a i; b = b i; c = c' i; d = d' i; e = e i }
  low_is NewBand single c d inh ta tb tc td te sa sb sc sd se =
      let p = sym (same_draw s r is_in drawn) in
      let a : s.a ≡ t.a = omega (arith, inh) in
      let b : s.b ≡ t.b = omega (arith, inh) in
      let c' = single_of s.c r.c is_in.c (single Var.C refl) in
      let d' = single_of s.d r.d is_in.d (single Var.D refl) in
      let e = single_of s.e r.e is_in.e (single Var.E refl) in
      λ i. record { stack = (p i).stack; turn = (p i).turn; kind = (p i).kind; lift = (p i).lift; a = a i; b = b i; c = c' i; d = d' i; e = e i }
  low_is NewCell single c d inh ta tb tc td te sa sb sc sd se =
      let p = sym (same_draw s r is_in drawn) in
      let a : s.a ≡ t.a = omega (arith, inh) in
      let b : s.b ≡ t.b = omega (arith, inh) in
      let c' : s.c ≡ t.c = omega (arith, inh) in
      let d' : s.d ≡ t.d = omega (arith, inh) in
      let e = single_of s.e r.e is_in.e (single Var.E refl) in
      λ i. record { stack = (p i).stack; turn = (p i).turn; kind = (p i).kind; lift = (p i).lift; a = a i; b = b i; c = c' i; d = d' i; e = e i }
  low_is Over single c d inh ta tb tc td te sa sb sc sd se =
      let p = sym (same_draw s r is_in drawn) in
      let a : s.a ≡ t.a = omega (arith, inh) in
      let b : s.b ≡ t.b = omega (arith, inh) in
      let c' : s.c ≡ t.c = omega (arith, inh) in
      let d' : s.d ≡ t.d = omega (arith, inh) in
      let e : s.e ≡ t.e = omega (arith, inh) in
      λ i. record { stack = (p i).stack; turn = (p i).turn; kind = (p i).kind; lift = (p i).lift; a = a i; b = b i; c = c' i; d = d' i; e = e i }

is_low : (b : Problem) (before : List Draw) (m : Level) (place : Place) (t : Step) (rs : List Ranges) (ss : List Step) → InBox ss rs →
    ((step : ℕ) (v : Var) → is_free_from before rs step v ≡ false) →
    EachStep (Rules b) m (cut place t) (attach (marks b before place (map draw_of ss)) ss) → ss ≡ low_steps before t rs
is_low b before m place t [] [] is_in point r = refl
is_low b before m place t [] (s ∷ ss) is_in point r = elim is_in [ ]
is_low b before m place t (x ∷ rs) [] is_in point r = elim is_in [ ]
is_low b before m place t (x ∷ rs) (s ∷ ss) is_in point r =
    let drawn : is_drawn x ≡ true = is_decided before x rs point (is_drawn x) refl in
    let same : draw_of s ≡ draw_at x = sym (same_draw s x is_in.0 drawn) in
    let kind : s.kind ≡ x.kind.low = ap (λ d. d.kind) same in
    let p : Place = place_of b before place (draw_of s) in
    let here : s ≡ low_step (begins before x.kind.low) t x =
    low_is s x t is_in.0 drawn (begins before x.kind.low) (λ v o. opened_single (is_drawn x) (is_single (span_of v x)) (opens (begins before x.kind.low) v) (is_discrete v) drawn o (point 0 v))
    (cut place t) (cut p s) (subst (λ k. Inherits (begins before k) (cut place t) (cut p s)) kind r.0.tr3.3) refl refl refl refl refl refl refl refl refl refl in
    let rest : ss ≡ low_steps (draw_of s ∷ before) s rs =
    is_low b (draw_of s ∷ before) (begins before s.kind) p s rs ss is_in.1
    (λ step v. subst (λ d. is_free_from (d ∷ before) rs step v ≡ false) (sym same) (later_point (is_drawn x) drawn (point (suc step) v))) r.1 in
    ap (λ l. s ∷ l) (rest ∙ ap (λ d. low_steps (d ∷ before) s rs) same) ∙ ap (λ v. v ∷ low_steps (draw_at x ∷ before) v rs) here
  where
    later_point : {a : Bool} (d : Bool) → d ≡ true → cond d a false ≡ false → a ≡ false
    later_point true e h = h
    later_point false e h = absurd (cc)

-- a point that breaks a rule holds no trace that meets them
pub r7_sound : (b : Problem) (rs : List Ranges) (ss : List Step) → InBox ss rs → Meets b ss → ¬ R7 b rs
r7_sound b rs ss is_in m r = r.2 (subst (λ x. Meets b x) (is_low b [] NewPlate no_place no_step rs ss is_in r.0 m) m)
