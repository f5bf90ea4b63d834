-- The draft: item by item the least step with which the steps so far meet the rules.
use Rattle.std.specs.Prelude.{◌≡◌, ℕ, ◌-◌, ◌<◌, ◌≤◌, ◌==◌, ◌⊎◌, List, [], ◌∷◌, ◌++◌, length, replicate, Some}
use Rattle.std.specs.List.{count_by, flat_map}
use Rattle.glass_base.specs.declared.item.Item.{Item}
use Rattle.glass_base.specs.Problem.{Problem, item_at, stack_at}
use Rattle.cut_model.specs.declared.steps.Step.{Step}
use Rattle.cut_model.specs.Numbers.{numbers_from}
use Rattle.cut_model.specs.Tree.{Forest}
use Rattle.plan_trace.specs.Canonical.{canonical}
use Rattle.plan_trace.specs.TraceRules.{Meets}

-- a step of an item from this stack that stands unlifted at the left end of a strip of its own, on the plate in use or the next one
pub record StandsAlone (stack : ℕ) (s : Step) : Type 0 where
  pub from_stack : s.stack ≡ stack
  pub begins : s.kind ≤ 1
  pub unlifted : s.lift ≡ 0
  pub left : s.e ≡ s.a

-- such a step with which the steps so far meet the rules
pub record MayFollow (b : Problem) (steps : List Step) (stack : ℕ) (s : Step) : Type 0 where
  pub alone : StandsAlone stack s
  pub meets : Meets b (steps ++ s ∷ [])

-- the numbers by which such steps are compared, the first that differs deciding: the plate, where the one in use (kind 1) comes
-- first, and then b, a, c, d and the turn
abbrev pub rank : Step → List ℕ
rank s = (1 - s.kind) ∷ s.b ∷ s.a ∷ s.c ∷ s.d ∷ s.turn ∷ []

abbrev pub NotAfter : List ℕ → List ℕ → Type 0
NotAfter [] others = Unit {0}
NotAfter (n ∷ numbers) [] = ⊥
NotAfter (n ∷ numbers) (m ∷ others) = (n < m) ⊎ ((n ≡ m) × NotAfter numbers others)

-- the least step that may follow
pub record IsNext (b : Problem) (steps : List Step) (stack : ℕ) (s : Step) : Type 0 where
  pub may : MayFollow b steps stack s
  pub least : (t : Step) → MayFollow b steps stack t → NotAfter (rank s) (rank t)

-- no step may follow
abbrev pub HasNoNext : Problem → List Step → ℕ → Type 0
HasNoNext b steps stack = (s : Step) → ¬ MayFollow b steps stack s

-- the stacks in which the steps draw: each stack by number, as often as it has items
abbrev pub drawing_order : Problem → List ℕ
drawing_order b = flat_map (λ stack. replicate (length (stack_at b stack)) stack) (numbers_from 0 (length b.stacks))

-- behind the steps so far these steps draw from these stacks, each the least one
abbrev pub AreDrafted : Problem → List Step → List ℕ → List Step → Type 0
AreDrafted b done [] steps = steps ≡ done
AreDrafted b done (stack ∷ later) steps = (s : Step) × IsNext b done stack s × AreDrafted b (done ++ s ∷ []) later steps

-- the draft
abbrev pub IsDraft : Problem → List Step → Type 0
IsDraft b steps = AreDrafted b [] (drawing_order b) steps

-- the item that these steps would draw next from this stack has this number
abbrev pub IsDueItem : Problem → List Step → ℕ → ℕ → Type 0
IsDueItem b done stack number = (item : Item) × (item_at b stack (count_by (λ s. s.stack == stack) done) ≡ Some item) × (item.id ≡ number)

-- the first item that has no step has this number
abbrev pub StopsAt : Problem → List Step → List ℕ → ℕ → Type 0
StopsAt b done [] number = ⊥
StopsAt b done (stack ∷ later) number =
    (HasNoNext b done stack × IsDueItem b done stack number)
    ⊎ ((s : Step) × IsNext b done stack s × StopsAt b (done ++ s ∷ []) later number)

abbrev pub HasNoDraft : Problem → ℕ → Type 0
HasNoDraft b number = StopsAt b [] (drawing_order b) number

-- the plan of the draft: the canonical plan of its steps
abbrev pub IsDraftPlan : Problem → Forest → Type 0
IsDraftPlan b plan = (steps : List Step) × IsDraft b steps × (plan ≡ canonical b steps)
