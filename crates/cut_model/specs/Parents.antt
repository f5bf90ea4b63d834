-- The rows that name a piece as their parent, and what they say of it.
use Rattle.cut_model.specs.declared.family.Family.{Family}
use Rattle.std.specs.Prelude.{◌≡◌, ℕ, ◌+◌, ◌==◌, ◌||◌, List, [], ◌∷◌, Bool, true, false, filter, Option, Some, None, ℤ, pos, negsuc}
use Rattle.cut_model.specs.declared.family.Row.{Row}
use Rattle.cut_model.specs.declared.family.Along.{Along}
use Rattle.cut_model.specs.declared.family.Area.{Area}
use Rattle.cut_model.specs.declared.family.Children.{Children}
use Rattle.cut_model.specs.Tree.{Forest, nothing, piece, count, is_nothing, children_in}
use Rattle.cut_model.specs.Families.{family_with, behind, turned, side_along}

-- whether the parent has this node number
abbrev pub is_number : ℕ → Option ℕ → Bool
is_number n None = false
is_number n (Some m) = m == n

-- the rows whose parent has this node number
abbrev pub rows_in : ℕ → List Row → List Row
rows_in n rows = filter (λ r. is_number n r.parent) rows

-- the rows of neighbours, without those of the pieces inside them
unfoldable pub tops : Area → Bool → ℕ → Forest → List Row
tops at first node nothing = []
tops at first node (piece size sort inner later) =
    (family_with at first (is_nothing later) node size sort (children_in inner)).row ∷ tops (behind at size) false (node + 1 + count inner) later

-- whether a row of this type is that of an item
abbrev pub is_item_kind : ℤ → Bool
is_item_kind (pos _) = true
is_item_kind (negsuc _) = false

-- the sum of the sides of rows that lie so
abbrev pub sum_along : Along → List Row → ℕ
sum_along along [] = 0
sum_along along (r ∷ rows) = side_along along r + sum_along along rows

-- whether one of the rows is that of an item
abbrev pub any_item : List Row → Bool
any_item [] = false
any_item (r ∷ rows) = is_item_kind r.kind || any_item rows

-- whether there is no row
abbrev pub is_empty : List Row → Bool
is_empty [] = true
is_empty (_ ∷ _) = false

-- what rows that lie so say of the piece that they are cut from
abbrev pub children_of_rows : Along → List Row → Children
children_of_rows along rows = record { empty = is_empty rows; total = sum_along along rows; has_item = any_item rows }

-- what a family says of its children is what the rows say that name it as their parent
abbrev pub NamedByChildren : List Row → Family → Type 0
NamedByChildren rows f = f.children ≡ children_of_rows (turned f.along) (rows_in f.row.node rows)
