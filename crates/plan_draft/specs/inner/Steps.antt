-- Steps of items that stand alone, by their places.
use Rattle.std.specs.Prelude.{◌≡◌, ℕ, ◌-◌, ◌<◌, ◌≤◌, ◌⊎◌}
use Rattle.glass_base.specs.declared.item.Item.{Item}
use Rattle.glass_base.specs.Problem.{Problem}
use Rattle.cut_model.specs.declared.steps.Step.{Step}
use Rattle.plan_draft.specs.declared.place.ItemPlace.{ItemPlace}
use Rattle.plan_draft.specs.Drafts.{NotAfter, StandsAlone, rank}
use Rattle.plan_draft.specs.inner.Places.{IsPlace}

-- the place of a step
abbrev pub place_in : Step → ItemPlace
place_in s = record { a = s.a; b = s.b; c = s.c; d = s.d; turn = s.turn }

-- on the last of the plates begun, behind what ends at `right`, or on the next plate
abbrev pub IsPlaced : Problem → ℕ → ℕ → Item → Step → Type 0
IsPlaced b plates right item s =
    ((s.kind ≡ 1) × (1 ≤ plates) × IsPlace b (plates - 1) right item (place_in s))
    ⊎ ((s.kind ≡ 0) × (plates < b.params.plates) × IsPlace b plates 0 item (place_in s))

-- a step that the item may have
pub record MayStand (b : Problem) (plates right stack : ℕ) (item : Item) (s : Step) : Type 0 where
  pub alone : StandsAlone stack s
  pub placed : IsPlaced b plates right item s

-- the first one
pub record IsFirstStep (b : Problem) (plates right stack : ℕ) (item : Item) (s : Step) : Type 0 where
  pub may : MayStand b plates right stack item s
  pub first : (t : Step) → MayStand b plates right stack item t → NotAfter (rank s) (rank t)

abbrev pub HasNoStep : Problem → ℕ → ℕ → ℕ → Item → Type 0
HasNoStep b plates right stack item = (s : Step) → ¬ MayStand b plates right stack item s
