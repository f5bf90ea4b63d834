-- A box is a point where no step is open.
use Rattle.std.proofs.Common.{◌≡◌, ℕ, ◌<◌, ◌≤◌, ◌||◌, List, length, inl, inr, Bool, true, false, refl, arith}
use Rattle.std.proofs.lemmas.Bool.{cases_lt}
use Rattle.plan_box.specs.declared.var.Var.{Var}
use Rattle.plan_box.specs.Decisions.{is_free, IsPoint}
use Rattle.plan_box.specs.inner.Openings.{is_open}
use Rattle.plan_box.specs.Ranges.{Ranges}
use Rattle.plan_box.proofs.Freed.{past_free}

neither : (x y : Bool) → (x || y) ≡ false → (x ≡ false) × (y ≡ false)
neither false y e = (refl, e)
neither true y e = absurd (cc e)

-- where a step is not open none of its variables is free
pub closed_all : (rs : List Ranges) (step : ℕ) → is_open rs step ≡ false → (v : Var) → is_free rs step v ≡ false
closed_all rs step e v =
    let stack = neither (is_free rs step Var.Stack) _ e in
    let turn = neither (is_free rs step Var.Turn) _ stack.1 in
    let kind = neither (is_free rs step Var.Kind) _ turn.1 in
    let lift = neither (is_free rs step Var.Lift) _ kind.1 in
    let a = neither (is_free rs step Var.A) _ lift.1 in
    let b = neither (is_free rs step Var.B) _ a.1 in
    let c = neither (is_free rs step Var.C) _ b.1 in
    let d = neither (is_free rs step Var.D) (is_free rs step Var.E) c.1 in
    by v stack.0 turn.0 kind.0 lift.0 a.0 b.0 c.0 d.0 d.1
  where
    by : (v : Var) → is_free rs step Var.Stack ≡ false → is_free rs step Var.Turn ≡ false → is_free rs step Var.Kind ≡ false → is_free rs step Var.Lift ≡ false → is_free rs step Var.A ≡ false →
        is_free rs step Var.B ≡ false → is_free rs step Var.C ≡ false → is_free rs step Var.D ≡ false → is_free rs step Var.E ≡ false → is_free rs step v ≡ false
    by Var.Stack s t k l a b c d e = s
    by Var.Turn s t k l a b c d e = t
    by Var.Kind s t k l a b c d e = k
    by Var.Lift s t k l a b c d e = l
    by Var.A s t k l a b c d e = a
    by Var.B s t k l a b c d e = b
    by Var.C s t k l a b c d e = c
    by Var.D s t k l a b c d e = d
    by Var.E s t k l a b c d e = e

both_none : (x y : Bool) → x ≡ false → y ≡ false → (x || y) ≡ false
both_none x y e f = rw (e, f) refl

-- and only there
pub closed_from : (rs : List Ranges) (step : ℕ) → ((v : Var) → is_free rs step v ≡ false) → is_open rs step ≡ false
closed_from rs step h =
    both_none _ _ (h Var.Stack)
    (both_none _ _ (h Var.Turn)
    (both_none _ _ (h Var.Kind)
    (both_none _ _ (h Var.Lift) (both_none _ _ (h Var.A) (both_none _ _ (h Var.B) (both_none _ _ (h Var.C) (both_none _ _ (h Var.D) (h Var.E))))))))

-- no step of the box is open
pub point_from : (rs : List Ranges) (n : ℕ) → length rs ≤ n → ((step : ℕ) → step < n → is_open rs step ≡ false) → IsPoint rs
point_from rs n le closed step v =
    elim (cases_lt step n) [
      | inl there ↦ closed_all rs step (closed step there) v
      | inr past ↦ past_free rs step v (omega (arith, le, past))
    ]
