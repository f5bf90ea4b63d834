-- Where a strip can end, as seen from a row: how much area lies before that, and what is to go from there.
use Rattle.std.specs.Prelude.{◌≡◌, ℕ, ◌+◌, ◌<◌, ◌≤◌, List, [], ◌∷◌, map, length, IsSome, All, Contains, slice_index_or}
use Rattle.glass_base.specs.Problem.{Problem}
use Rattle.front_course.specs.Fronts.{Front, next, next_item}
use Rattle.front_table.specs.declared.ends.End.{End}
use Rattle.front_table.specs.declared.rows.FrontRow.{FrontRow}
use Rattle.front_table.specs.Lattice.{At, area_at, links_at}

-- one of the ends has no more before it, and no more to go
unfoldable pub Ended : List End → ℕ → ℕ → Type 0
Ended ends area to_go = (e : End) × Contains ends e × (e.area ≤ area) × (e.to_go ≤ to_go)

abbrev pub area_of : List End → ℕ → ℕ
area_of ends i = slice_index_or (map (λ e. e.area) ends) i 0

abbrev pub to_go_of : List End → ℕ → ℕ
to_go_of ends i = slice_index_or (map (λ e. e.to_go) ends) i 0

-- the ends with more before them have less to go
unfoldable pub Falls : List End → Type 0
Falls ends = (i j : ℕ) → i ≤ j → j < length ends → (area_of ends i ≤ area_of ends j) × (to_go_of ends j ≤ to_go_of ends i)

-- items are taken off these stacks in turn
abbrev pub Takes : Problem → Front → List ℕ → Type 0
Takes b f [] = Unit {0}
Takes b f (stack ∷ stacks) = IsSome (next_item b f stack) × Takes b (next f stack) stacks

abbrev pub after_items : Front → List ℕ → Front
after_items f [] = f
after_items f (stack ∷ stacks) = after_items (next f stack) stacks

-- each row that items lead to from here, with no more area between than this, is one of the ends
abbrev pub EndsFrom : Problem → List FrontRow → ℕ → (ℕ → ℕ) → ℕ → List End → Type 0
EndsFrom b rows most to_go n ends =
    (f : Front) → At b rows n f → (stacks : List ℕ) → Takes b f stacks → (m : ℕ) → At b rows m (after_items f stacks) → (area : ℕ) → area_at rows n ≡ area_at rows m + area → area ≤ most
    → Ended ends area (to_go m)

-- the same, where at least one item is taken
abbrev pub EndsBehind : Problem → List FrontRow → ℕ → (ℕ → ℕ) → ℕ → List End → Type 0
EndsBehind b rows most to_go n ends =
    (f : Front) → At b rows n f → (stacks : List ℕ) → 1 ≤ length stacks → Takes b f stacks → (m : ℕ) → At b rows m (after_items f stacks) → (area : ℕ)
    → area_at rows n ≡ area_at rows m + area → area ≤ most → Ended ends area (to_go m)

-- wherever items are taken to from a row, the row there is below this one
abbrev pub LeadsBelow : Problem → List FrontRow → ℕ → ℕ → Type 0
LeadsBelow b rows n below = (f : Front) → At b rows n f → (stacks : List ℕ) → 1 ≤ length stacks → Takes b f stacks → (m : ℕ) → At b rows m (after_items f stacks) → m < below

-- so do the links of the row
abbrev pub LinksBelow : List FrontRow → ℕ → ℕ → Type 0
LinksBelow rows n below = All (λ to. to < below) (links_at rows n)
