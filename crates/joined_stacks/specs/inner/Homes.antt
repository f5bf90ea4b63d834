-- The same items in other stacks: each stack has a home, a stack of the other instance in which its items are.
use Rattle.std.specs.Prelude.{◌≡◌, ℕ, zero, suc, ◌+◌, ◌<◌, ◌≤◌, ◌==◌, cond, List, length, slice_index, Option, Some}
use Rattle.glass_base.specs.declared.item.Item.{Item}
use Rattle.glass_base.specs.Problem.{Problem, stack_at, item_at}

-- how many items a stack has
abbrev pub items_in : Problem → ℕ → ℕ
items_in b stack = length (stack_at b stack)

-- the home of a stack
abbrev pub home_of : List ℕ → ℕ → ℕ
home_of homes stack = slice_index homes stack

-- each stack has a number: the sum of those of the first stacks that have this home
abbrev pub at_home : List ℕ → (ℕ → ℕ) → ℕ → ℕ → ℕ
at_home homes number home zero = 0
at_home homes number home (suc stack) = at_home homes number home stack + cond (home_of homes stack == home) (number stack) 0

-- there are two items, of the same sides
abbrev pub AreAlike : Option Item → Option Item → Type 0
AreAlike (Some a) (Some c) = (a.length ≡ c.length) × (a.width ≡ c.width)
AreAlike _ _ = ⊥

-- an item is like each one that can come off its home when its turn has come: behind as many more as there are besides its stack's
abbrev pub FitsIn : Problem → Problem → ℕ → ℕ → Type 0
FitsIn b other stack home =
    (place more : ℕ) → place < items_in b stack → items_in b stack + more ≤ items_in other home → AreAlike (item_at b stack place) (item_at other home (place + more))

-- each stack has a home, and its items fit in there
abbrev pub AreAtHome : Problem → Problem → List ℕ → Type 0
AreAtHome b other homes =
    (stack : ℕ) → stack < length b.stacks → (home_of homes stack < length other.stacks) × FitsIn b other stack (home_of homes stack)

-- each home has as many items as the stacks whose home it is
abbrev pub AreWhole : Problem → Problem → List ℕ → Type 0
AreWhole b other homes =
    (home : ℕ) → home < length other.stacks → at_home homes (items_in b) home (length b.stacks) ≡ items_in other home

-- the items of each stack are in its home, and nothing else is
pub record AreHomes (b other : Problem) (homes : List ℕ) : Type 0 where
  pub whole : AreWhole b other homes
  pub fit : AreAtHome b other homes

-- the plates and their defects are the same
pub record SamePlates (b other : Problem) : Type 0 where
  pub params_are : other.params ≡ b.params
  pub defects_are : other.defects ≡ b.defects
  pub widths_are : other.widths ≡ b.widths
