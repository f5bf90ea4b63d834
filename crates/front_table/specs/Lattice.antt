-- Fronts as rows of a table.
use Rattle.std.specs.Prelude.{◌≡◌, ℕ, suc, ◌+◌, ◌-◌, ◌*◌, ◌<◌, ◌≤◌, ◌==◌, cond, List, [], ◌∷◌, map, length, Some, IsSome, All, Contains, slice_index_or}
use Rattle.glass_base.specs.declared.item.Item.{Item}
use Rattle.glass_base.specs.Problem.{Problem, item_at}
use Rattle.plan_trace.specs.Marks.{item_width, item_height}
use Rattle.front_course.specs.Fronts.{Front}
use Rattle.front_course.specs.Cells.{Stands}
use Rattle.front_table.specs.declared.moves.Move.{Move}
use Rattle.front_table.specs.declared.rows.FrontRow.{FrontRow}
use Rattle.front_table.specs.Sets.{Fits}

-- what a row has
abbrev pub taken_at : List FrontRow → ℕ → List ℕ
taken_at rows n = slice_index_or (map (λ r. r.taken.items) rows) n []

abbrev pub area_at : List FrontRow → ℕ → ℕ
area_at rows n = slice_index_or (map (λ r. r.area) rows) n 0

abbrev pub links_at : List FrontRow → ℕ → List ℕ
links_at rows n = slice_index_or (map (λ r. r.links.items) rows) n []

abbrev pub moves_at : List FrontRow → ℕ → List Move
moves_at rows n = slice_index_or (map (λ r. r.moves.items) rows) n []

-- how many items of a stack are taken there
abbrev pub count_at : List FrontRow → ℕ → ℕ → ℕ
count_at rows n stack = slice_index_or (taken_at rows n) stack 0

-- the row is that of a front
pub record At (b : Problem) (rows : List FrontRow) (n : ℕ) (f : Front) : Type 0 where
  pub within : n < length rows
  pub counts : (stack : ℕ) → stack < length b.stacks → count_at rows n stack ≡ f stack

-- the counts of a row, weighted, from a stack on
abbrev pub weight_from : List ℕ → ℕ → (ℕ → ℕ) → ℕ
weight_from [] stack counts = 0
weight_from (w ∷ ws) stack counts = w * counts stack + weight_from ws (suc stack) counts

-- what is taken at a row weighs less than at the row before it
unfoldable pub IsLighter : List ℕ → List FrontRow → ℕ → Type 0
IsLighter weights rows n = 1 ≤ n → weight_from weights 0 (count_at rows n) < weight_from weights 0 (count_at rows (n - 1))

-- of this stack one item more is taken at the other row, and of the other stacks as many
unfoldable pub IsOneMore : List FrontRow → ℕ → ℕ → ℕ → ℕ → Type 0
IsOneMore rows n stack to other = count_at rows to other ≡ cond (stack == other) (suc (count_at rows n other)) (count_at rows n other)

-- at the other row this item of a stack is taken too
pub record IsLink (b : Problem) (rows : List FrontRow) (n stack : ℕ) (item : Item) (to : ℕ) : Type 0 where
  pub down : to < n
  pub more : (other : ℕ) → other < length b.stacks → IsOneMore rows n stack to other
  pub area : area_at rows n ≡ area_at rows to + item.length * item.width

-- one of the links
unfoldable pub HasLink : Problem → List FrontRow → ℕ → ℕ → Item → Type 0
HasLink b rows n stack item = (to : ℕ) × Contains (links_at rows n) to × IsLink b rows n stack item to

-- a move of these leads there with these sizes
unfoldable pub Led : List Move → ℕ → ℕ → ℕ → Type 0
Led moves to wide high = (m : Move) × Contains moves m × (m.to ≡ to) × Fits m.label wide high

-- one move of these leads there with this width and each of these heights
unfoldable pub LedBy : List Move → ℕ → ℕ → (ℕ → Type 0) → Type 0
LedBy moves to wide Stand = (m : Move) × Contains moves m × (m.to ≡ to) × ((high : ℕ) → Stand high → Fits m.label wide high)

-- the item alone, in this turn
unfoldable pub AloneLed : ℕ → List Move → ℕ → Item → ℕ → Type 0
AloneLed waste moves to item turn =
    LedBy moves to (item_width turn (Some item)) (λ high. Stands waste (item_width turn (Some item)) (item_height turn (Some item)) high)

-- both items, one over the other, where these are of one width in these turns
unfoldable pub PairLed : List Move → ℕ → Item → Item → ℕ → ℕ → Type 0
PairLed moves to item other turn over =
    item_width over (Some other) ≡ item_width turn (Some item)
    → LedBy moves to (item_width turn (Some item)) (λ high. high ≡ item_height turn (Some item) + item_height over (Some other))

-- each pair of this item and the next one of a stack, at the row behind the item
pub record PairsLed (b : Problem) (rows : List FrontRow) (moves : List Move) (item : Item) (mid stack : ℕ) (other : Item) : Type 0 where
  pub to : ℕ
  pub link : IsLink b rows mid stack other to
  pub lying : PairLed moves to item other 0 0
  pub over_turned : PairLed moves to item other 0 1
  pub turned : PairLed moves to item other 1 0
  pub both_turned : PairLed moves to item other 1 1

unfoldable pub AllPairsLed : Problem → List FrontRow → List Move → Item → ℕ → ℕ → Type 0
AllPairsLed b rows moves item mid stack = (other : Item) → item_at b stack (count_at rows mid stack) ≡ Some other → PairsLed b rows moves item mid stack other

-- each cell whose first item is this one
pub record ItemLed (b : Problem) (rows : List FrontRow) (n stack : ℕ) (item : Item) : Type 0 where
  pub to : ℕ
  pub has : Contains (links_at rows n) to
  pub link : IsLink b rows n stack item to
  pub lying : AloneLed b.params.waste (moves_at rows n) to item 0
  pub turned : AloneLed b.params.waste (moves_at rows n) to item 1
  pub pairs : (other : ℕ) → other < length b.stacks → AllPairsLed b rows (moves_at rows n) item to other

-- each cell whose first item is the next one of a stack
unfoldable pub StackLed : Problem → List FrontRow → ℕ → ℕ → Type 0
StackLed b rows n stack = (item : Item) → item_at b stack (count_at rows n stack) ≡ Some item → ItemLed b rows n stack item

-- a stack has an item left
unfoldable pub HasLeft : Problem → List FrontRow → ℕ → Type 0
HasLeft b rows n = (stack : ℕ) × (stack < length b.stacks) × IsSome (item_at b stack (count_at rows n stack))

-- all that is asked of a row
pub record IsRow (b : Problem) (weights : List ℕ) (rows : List FrontRow) (n : ℕ) : Type 0 where
  pub lighter : IsLighter weights rows n
  pub left : 1 ≤ n → HasLeft b rows n
  pub down : All (λ m. m.to < n) (moves_at rows n)
  pub stacks : (stack : ℕ) → stack < length b.stacks → StackLed b rows n stack

-- the table has a row for each front that items can be taken to
pub record IsLattice (b : Problem) (rows : List FrontRow) : Type 0 where
  pub weights : List ℕ
  pub few : length weights ≤ length b.stacks
  pub some : 1 ≤ length rows
  pub first : (stack : ℕ) → stack < length b.stacks → count_at rows (length rows - 1) stack ≡ 0
  pub each : (n : ℕ) → n < length rows → IsRow b weights rows n

-- moves lead to rows of smaller numbers
unfoldable pub LeadDown : List FrontRow → Type 0
LeadDown rows = (n : ℕ) → n < length rows → All (λ m. m.to < n) (moves_at rows n)
