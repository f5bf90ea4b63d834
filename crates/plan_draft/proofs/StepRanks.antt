-- The first place gives the first step.
use Rattle.std.proofs.Common.{ℕ, ◌-◌, ◌<◌, ◌≤◌, inl, inr, refl, arith}
use Rattle.glass_base.specs.declared.item.Item.{Item}
use Rattle.glass_base.specs.Problem.{Problem}
use Rattle.cut_model.specs.declared.steps.Step.{Step}
use Rattle.plan_draft.specs.declared.place.ItemPlace.{ItemPlace}
use Rattle.plan_draft.specs.Drafts.{NotAfter, StandsAlone, rank}
use Rattle.plan_draft.specs.inner.Places.{HasNoPlace, IsFirstOf, IsPlace}
use Rattle.plan_draft.specs.inner.Steps.{HasNoStep, IsFirstStep, IsPlaced, place_in}

abbrev pub step_of : ℕ → ℕ → ItemPlace → Step
step_of stack kind p = record { stack = stack; turn = p.turn; kind = kind; lift = 0; a = p.a; b = p.b; c = p.c; d = p.d; e = p.a }

alone : (stack kind : ℕ) (p : ItemPlace) → kind ≤ 1 → StandsAlone stack (step_of stack kind p)
alone stack kind p le = record { from_stack = refl; begins = le; unlifted = refl; left = refl }

-- on the plate in use
pub first_beside : (b : Problem) (plates right stack : ℕ) (item : Item) (p : ItemPlace) → 1 ≤ plates → IsFirstOf (IsPlace b (plates - 1) right item) p → IsFirstStep b plates right stack item (step_of stack 1 p)
first_beside b plates right stack item p some first = record {
  may = record { alone = alone stack 1 p (omega arith); placed = inl (refl, some, first.0) };
  first = λ t m. by t m.placed;
}
  where
    by : (t : Step) → IsPlaced b plates right item t → NotAfter (rank (step_of stack 1 p)) (rank t)
    by t (inl h) = inr (omega (arith, h.0), first.1 (place_in t) h.2)
    by t (inr h) = inl (omega (arith, h.0))

-- on the next plate, where there is none on the plate in use
pub first_on_next : (b : Problem) (plates right stack : ℕ) (item : Item) (p : ItemPlace) → (1 ≤ plates → HasNoPlace (IsPlace b (plates - 1) right item)) → plates < b.params.plates → IsFirstOf (IsPlace b plates 0 item) p →
    IsFirstStep b plates right stack item (step_of stack 0 p)
first_on_next b plates right stack item p none few first = record {
  may = record { alone = alone stack 0 p (omega arith); placed = inr (refl, few, first.0) };
  first = λ t m. by t m.placed;
}
  where
    by : (t : Step) → IsPlaced b plates right item t → NotAfter (rank (step_of stack 0 p)) (rank t)
    by t (inl h) = absurd (none h.1 (place_in t) h.2)
    by t (inr h) = inr (omega (arith, h.0), first.1 (place_in t) h.2)

-- on neither
pub no_step : (b : Problem) (plates right stack : ℕ) (item : Item) → (1 ≤ plates → HasNoPlace (IsPlace b (plates - 1) right item)) → (plates < b.params.plates → HasNoPlace (IsPlace b plates 0 item)) → HasNoStep b plates right stack item
no_step b plates right stack item none after s m = by m.placed
  where
    by : IsPlaced b plates right item s → ⊥
    by (inl h) = none h.1 (place_in s) h.2
    by (inr h) = after h.1 (place_in s) h.2
