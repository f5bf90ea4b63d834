-- What is kept of the rows that were read so far, and what may be taken for granted of them.
use Rattle.std.specs.Prelude.{◌≡◌, ◌≢◌, ◌≤◌, ◌+◌, ◌==◌, ◌++◌, ℕ, zero, suc, true, false, List, [], ◌∷◌, find, Option, Some, None, All, Result, Ok, Err}
use Rattle.std.specs.BTreeMap.{get}
use Rattle.std.specs.Ordering.{nat_cmp}
use Rattle.cut_model.specs.declared.family.Row.{Row}
use Rattle.cut_model.specs.declared.family.Sort.{Sort}
use Rattle.cut_model.specs.Families.{side_along}
use Rattle.cut_model.specs.Lawful.{plate_rows}
use Rattle.cut_model.specs.Loss.{names_residual}
use Rattle.cut_model.specs.Parents.{rows_in}
use Rattle.cut_model.specs.Tree.{Forest, IsRowType, nothing, sort_named}
use Rattle.glass_base.specs.Problem.{Problem}
use Rattle.plan_csv.specs.declared.bad_plan.BadPlan.{BadPlan}
use Rattle.plan_csv.specs.declared.bad_plan.BadPlan.TheVariants as bad
use Rattle.csv_table.specs.Readings.{◌>>=◌}
use Rattle.plan_csv.specs.PlanRows.{row_in}
use Rattle.plan_csv.specs.PlanTexts.{cell_refusal, filled_by, grown, lies, names_branch, or_refusal, row_refusal}
use Rattle.plan_csv.specs.declared.nodes.KeptRow.{KeptRow}
use Rattle.plan_csv.specs.declared.nodes.Nodes.{Nodes}
use Rattle.glass_base.specs.declared.limits.TheConstants.{MOST_SIDE}

-- the row of this node number
abbrev pub row_with : ℕ → List Row → Option Row
row_with number rows = find (λ e. e.node == number) rows

-- the side of a row by which it fills its parent
abbrev pub side_filled : Row → ℕ
side_filled r = side_along (lies r.cut) r

-- a row that goes with the row of its parent
pub record GoesWith (e r : Row) : Type 0 where
  pub cut : r.cut ≡ e.cut + 1
  pub branch : names_branch e.kind ≡ true
  pub residual : names_residual r.kind ≡ true → r.cut ≡ 1
  pub leaf : names_branch r.kind ≡ true → r.cut ≢ 4

-- one of these rows that is a child of the row `e`
pub record IsChild (rows : List Row) (e r : Row) : Type 0 where
  pub known : row_with r.node rows ≡ Some r
  pub with : GoesWith e r
  pub typed : IsRowType r.kind

-- one of these rows that is a plate
pub record IsRoot (rows : List Row) (r : Row) : Type 0 where
  pub known : row_with r.node rows ≡ Some r
  pub cut : r.cut ≡ 0
  pub branch : names_branch r.kind ≡ true

-- what is kept of the row of this number: the row, its children, and the sum of their sizes
pub record IsNode (rows : List Row) (number : ℕ) (n : KeptRow) : Type 0 where
  pub found : row_with number rows ≡ Some n.row
  pub number_is : n.row.node ≡ number
  pub children_are : n.children.items ≡ rows_in number rows
  pub sound : All (IsChild rows n.row) (rows_in number rows)
  pub filled_is : n.filled ≡ filled_by (n.row.cut + 1) rows number
  pub low : n.filled ≤ MOST_SIDE

-- what is kept of a number: nothing, where no row has it
abbrev pub IsNamed : List Row → ℕ → Option KeptRow → Type 0
IsNamed rows number None = (row_with number rows ≡ None) × (rows_in number rows ≡ [])
IsNamed rows number (Some n) = IsNode rows number n

-- what is kept of the rows
pub record AreNodes (nodes : Nodes) : Type 0 where
  pub named : (number : ℕ) → IsNamed nodes.rows.items number (get nat_cmp nodes.named number)
  pub plates_are : nodes.plates.items ≡ plate_rows nodes.rows.items
  pub roots : All (IsRoot nodes.rows.items) (plate_rows nodes.rows.items)

-- a row below the row of this number, which has room for it
pub record IsUnder (rows : List Row) (r : Row) (parent : ℕ) : Type 0 where
  pub above : Row
  pub found : row_with parent rows ≡ Some above
  pub with : GoesWith above r
  pub room : filled_by r.cut rows parent + side_filled r ≤ MOST_SIDE

-- a row that fits behind these rows, by its level and its parent
abbrev pub IsPlaced : List Row → Row → ℕ → Option ℕ → Type 0
IsPlaced rows r zero None = names_branch r.kind ≡ true
IsPlaced rows r zero (Some _) = ⊥
IsPlaced rows r (suc _) None = ⊥
IsPlaced rows r (suc _) (Some parent) = IsUnder rows r parent

-- a row that may stand behind these rows
pub record MayFollow (rows : List Row) (r : Row) : Type 0 where
  pub new : row_with r.node rows ≡ None
  pub typed : IsRowType r.kind
  pub placed : IsPlaced rows r r.cut r.parent

-- a node has one child more
pub record HasGained (r : Row) (n m : KeptRow) : Type 0 where
  pub row_is : m.row ≡ n.row
  pub children_are : m.children.items ≡ n.children.items ++ r ∷ []
  pub filled_is : m.filled ≡ n.filled + side_filled r

-- this of a node, which there is
abbrev pub Gained : Row → Option KeptRow → Option KeptRow → Type 0
Gained r None m = ⊥
Gained r (Some n) None = ⊥
Gained r (Some n) (Some m) = HasGained r n m

-- the node of this number has one child more, and the others are as before
pub record HasNewChild (r : Row) (parent : ℕ) (old new : ℕ → Option KeptRow) : Type 0 where
  pub child : Gained r (old parent) (new parent)
  pub others : (number : ℕ) → number ≢ parent → new number ≡ old number

-- a row is among the plates, or among the children of its parent
abbrev pub IsAttached : Row → Option ℕ → Nodes → Nodes → Type 0
IsAttached r None old new =
    (new.plates.items ≡ old.plates.items ++ r ∷ []) × ((number : ℕ) → get nat_cmp new.named number ≡ get nat_cmp old.named number)
IsAttached r (Some parent) old new =
    (new.plates.items ≡ old.plates.items) × HasNewChild r parent (get nat_cmp old.named) (get nat_cmp new.named)

-- there is a node, with room for a row
abbrev pub HasSpace : Row → Option KeptRow → Type 0
HasSpace r None = ⊥
HasSpace r (Some n) = n.filled + side_filled r ≤ MOST_SIDE

-- one of these rows that is a piece made by a cut of this level
pub record IsPiece (rows : List Row) (level : ℕ) (r : Row) : Type 0 where
  pub known : row_with r.node rows ≡ Some r
  pub cut : r.cut ≡ level
  pub residual : names_residual r.kind ≡ true → r.cut ≡ 1
  pub leaf : names_branch r.kind ≡ true → r.cut ≢ 4
  pub typed : IsRowType r.kind

-- a row that is neither cut nor a residual
pub record IsLeaf (r : Row) : Type 0 where
  pub typed : IsRowType r.kind
  pub branch : names_branch r.kind ≡ false
  pub residual : names_residual r.kind ≡ false

-- what is cut from a row among these rows, down to this depth
abbrev pub below : ℕ → List Row → Row → Forest
below zero rows r = nothing
below (suc depth) rows r = grown depth rows (rows_in r.node rows)

-- each piece of a 3-cut that is cut has two children
abbrev pub HaveTwo : List Row → Type 0
HaveTwo rows = cell_refusal rows 2 rows ≡ None

-- a piece of this size and sort, with this inside it, is that of a row
pub record IsGrown (below_row : Row → Forest) (r : Row) (size : ℕ) (sort : Sort) (inner : Forest) : Type 0 where
  pub size_is : size ≡ side_filled r
  pub sort_is : sort ≡ sort_named r.kind
  pub inner_is : inner ≡ below_row r

-- this refusal is the one that is said, or memory ran out
abbrev pub Refused : {A : Type 0} → BadPlan → Result A BadPlan → Type 0
Refused bad.Memory said = Unit {0}
Refused (bad.Record row fields) said = said ≡ Err (bad.Record row fields)
Refused (bad.Number row column) said = said ≡ Err (bad.Number row column)
Refused (bad.Parent row) said = said ≡ Err (bad.Parent row)
Refused (bad.Level row cut) said = said ≡ Err (bad.Level row cut)
Refused (bad.Size row column) said = said ≡ Err (bad.Size row column)
Refused (bad.Kind row) said = said ≡ Err (bad.Kind row)

-- these rows and the row of these fields, or the row's refusal
abbrev pub rows_with : Problem → ℕ → List Row → List (List ℕ) → Result (List Row) BadPlan
rows_with b row before fields = row_in row fields >>= λ r. or_refusal (before ++ r ∷ []) (row_refusal b row before r)

-- the rows that were read are those that are said
pub record HasRead (said : Result (List Row) BadPlan) (nodes : Nodes) : Type 0 where
  pub said_is : said ≡ Ok nodes.rows.items
  pub nodes_are : AreNodes nodes
