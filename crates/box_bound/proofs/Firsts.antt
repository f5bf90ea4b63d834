-- From the first reason at the decided steps to the first reason of a box.
use Rattle.std.proofs.Common.{◌≡◌, ℕ, sym, subst, ◌<◌, ◌↔◌, Bool, true, false, IsTrue, List, [], ◌∷◌, refl, inl, inr, arith, Option, Some, None}
use Rattle.glass_base.specs.Plates.{Before}
use Rattle.glass_base.specs.Problem.{Problem}
use Rattle.plan_trace.specs.declared.level.Level.{Level}
use Rattle.plan_box.specs.Bounds.{least_length}
use Rattle.plan_box.specs.Decisions.{all_decided}
use Rattle.plan_box.specs.declared.reason.Reason.{Reason}
use Rattle.plan_box.specs.Leasts.{Fixed, fixed, Known}
use Rattle.plan_box.specs.Ranges.{Ranges}
use Rattle.plan_box.specs.Reasons.{Applies, AtSome, IsFirstReason, IsRefuted, R7, SomeFixed, reason_number}
use Rattle.box_bound.specs.Seen.{AppliesEarly, IsFirstIfAny}
use Rattle.plan_box.specs.Facts.{FactOf}
use Rattle.box_bound.proofs.Seeing.{first_same}

none_at : (m : Level) (j : Known) (ks : List Fixed) → SomeFixed (λ _ _ _ _ _. ⊥) m j ks → ⊥
none_at m j [] h = h
none_at m j (fixed l k ∷ ks) h =
    elim h [
      | inl now ↦ now
      | inr later ↦ none_at l k ks later
    ]

-- where no more glass is needed than there is
short_same : (b : Problem) (rs : List Ranges) → ¬ (Before b b.params.plates < least_length b rs) → (r : Reason) → AtSome (FactOf b (all_decided rs) r) b rs ↔ AppliesEarly b rs r
short_same b rs short Reason.R1 = (
  (λ h. inl h),
  (λ h. elim h [
    | inl at ↦ at
    | inr long ↦ absurd (short long)
  ]),
)
short_same b rs short Reason.R2 = ((λ h. h), (λ h. h))
short_same b rs short Reason.R3 = ((λ h. h), (λ h. h))
short_same b rs short Reason.R4 = ((λ h. h), (λ h. h))
short_same b rs short Reason.R5 = ((λ h. h), (λ h. h))
short_same b rs short Reason.R6 = ((λ h. h), (λ h. h))
short_same b rs short Reason.R7 = ((λ h. absurd (none_at _ _ _ h)), (λ h. absurd h))

none_less : (P : Reason → Type 0) (other : Reason) → reason_number other < 1 → ¬ P other
none_less P Reason.R1 lt = absurd (omega (arith, lt))
none_less P Reason.R2 lt = absurd (omega (arith, lt))
none_less P Reason.R3 lt = absurd (omega (arith, lt))
none_less P Reason.R4 lt = absurd (omega (arith, lt))
none_less P Reason.R5 lt = absurd (omega (arith, lt))
none_less P Reason.R6 lt = absurd (omega (arith, lt))
none_less P Reason.R7 lt = absurd (omega (arith, lt))

-- the first reason before R7, by what was seen at the steps and by the length
pub early_first : (b : Problem) (rs : List Ranges) (seen result : Option Reason) (length : ℕ) (long : Bool) → IsFirstIfAny (λ r. AtSome (FactOf b (all_decided rs) r) b rs) seen → length ≡ least_length b rs →
    (IsTrue long ↔ (Before b b.params.plates < length)) → (long ≡ true → result ≡ Some Reason.R1) → (long ≡ false → result ≡ seen) → IsFirstIfAny (AppliesEarly b rs) result
early_first b rs seen result length true h same test is_long is_short =
    rw (is_long refl) (inr (subst (λ (n : ℕ). Before b b.params.plates < n) same (test.0 refl)), λ other lt. none_less (AppliesEarly b rs) other lt)
early_first b rs seen result length false h same test is_long is_short =
    let short : ¬ (Before b b.params.plates < least_length b rs) = λ more. absurd (cc (test.1 (subst (λ (n : ℕ). Before b b.params.plates < n) (sym same) more))) in
    rw (is_short refl) (first_same (λ r. AtSome (FactOf b (all_decided rs) r) b rs) (AppliesEarly b rs) seen (short_same b rs short) h)

early_other : (b : Problem) (rs : List Ranges) (r : Reason) → reason_number r < 7 → Applies r b rs → AppliesEarly b rs r
early_other b rs Reason.R1 lt h = h
early_other b rs Reason.R2 lt h = h
early_other b rs Reason.R3 lt h = h
early_other b rs Reason.R4 lt h = h
early_other b rs Reason.R5 lt h = h
early_other b rs Reason.R6 lt h = h
early_other b rs Reason.R7 lt h = absurd (omega (arith, lt))

early_applies : (b : Problem) (rs : List Ranges) (r : Reason) → AppliesEarly b rs r → Applies r b rs × (reason_number r < 7)
early_applies b rs Reason.R1 h = (h, omega arith)
early_applies b rs Reason.R2 h = (h, omega arith)
early_applies b rs Reason.R3 h = (h, omega arith)
early_applies b rs Reason.R4 h = (h, omega arith)
early_applies b rs Reason.R5 h = (h, omega arith)
early_applies b rs Reason.R6 h = (h, omega arith)
early_applies b rs Reason.R7 h = absurd h

pub first_seventh : (b : Problem) (rs : List Ranges) → IsFirstIfAny (AppliesEarly b rs) None → R7 b rs → IsFirstReason b rs Reason.R7
first_seventh b rs h broken = record { applies = broken; none_before = λ other lt applied. h other (early_other b rs other lt applied) }

pub none_refuted : (b : Problem) (rs : List Ranges) → IsFirstIfAny (AppliesEarly b rs) None → ¬ R7 b rs → ¬ IsRefuted b rs
none_refuted b rs h whole w = by w.0 w.1
  where
    by : (r : Reason) → Applies r b rs → ⊥
    by Reason.R1 a = h Reason.R1 a
    by Reason.R2 a = h Reason.R2 a
    by Reason.R3 a = h Reason.R3 a
    by Reason.R4 a = h Reason.R4 a
    by Reason.R5 a = h Reason.R5 a
    by Reason.R6 a = h Reason.R6 a
    by Reason.R7 a = whole a
