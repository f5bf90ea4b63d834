-- The pieces of a plan in cutting order, each as a family: its row with what its rules need of its neighbours and children.
use Rattle.std.specs.Prelude.{ℕ, ◌+◌, List, [], ◌∷◌, ◌++◌, map, Bool, true, false, ◌&&◌, Some, None}
use Rattle.glass_base.specs.Problem.{Problem}
use Rattle.cut_model.specs.declared.family.Row.{Row}
use Rattle.cut_model.specs.declared.family.Sort.{Sort}
use Rattle.cut_model.specs.declared.family.Along.{Along}
use Rattle.cut_model.specs.declared.family.Children.{Children}
use Rattle.cut_model.specs.declared.family.Area.{Area}
use Rattle.cut_model.specs.declared.family.Family.{Family}
use Rattle.cut_model.specs.Sized.{on_plates}
use Rattle.cut_model.specs.Tree.{Forest, nothing, piece, is_nothing, children_in, count, type_number}

-- the sides of a piece of this size: along the neighbours its size, else those of the piece that it is cut from. A plate's size
-- is its width
abbrev pub width_at : Along → ℕ → ℕ → ℕ
width_at Along.Plates size width = size
width_at Along.X size width = size
width_at Along.Y size width = width

abbrev pub height_at : Along → ℕ → ℕ → ℕ
height_at Along.Plates size height = height
height_at Along.X size height = height
height_at Along.Y size height = size

-- the row of a piece at this place
abbrev pub row_at : Area → ℕ → ℕ → Sort → Row
row_at at node size sort = record {
  plate = at.plate;
  node = node;
  x = at.x;
  y = at.y;
  width = width_at at.along size at.width;
  height = height_at at.along size at.height;
  kind = type_number sort;
  cut = at.cut;
  parent = at.parent;
}

-- the family of a piece at this place: whether no neighbour stands before it, whether none stands behind it, and its children
abbrev pub family_with : Area → Bool → Bool → ℕ → ℕ → Sort → Children → Family
family_with at first ends node size sort below = record {
  row = row_at at node size sort;
  sort = sort;
  along = at.along;
  first = first;
  ends = at.last && ends;
  children = below;
}

-- how the pieces of a piece lie
abbrev pub turned : Along → Along
turned Along.Plates = Along.X
turned Along.X = Along.Y
turned Along.Y = Along.X

-- the place of the first piece inside a piece
abbrev pub inside : Family → Area
inside f = record {
  plate = f.row.plate;
  cut = f.row.cut + 1;
  along = turned f.along;
  parent = Some f.row.node;
  x = f.row.x;
  y = f.row.y;
  width = f.row.width;
  height = f.row.height;
  last = f.ends;
}

-- the side of a row along which pieces that lie so are set side by side
abbrev pub side_along : Along → Row → ℕ
side_along Along.Plates row = 0
side_along Along.X row = row.width
side_along Along.Y row = row.height

-- the place behind a piece of this size: the next plate, or further along x or y
abbrev pub moved : Along → Area → ℕ → Area
moved Along.Plates at size = record at { plate = at.plate + 1 }
moved Along.X at size = record at { x = at.x + size }
moved Along.Y at size = record at { y = at.y + size }

-- the place behind a piece of this size, as the pieces there lie
abbrev pub behind : Area → ℕ → Area
behind at size = moved at.along at size

-- in cutting order: each piece, then the pieces inside it, then those behind it
unfoldable pub families : Area → Bool → ℕ → Forest → List Family
families at first node nothing = []
families at first node (piece size sort inner later) =
    let f : Family = family_with at first (is_nothing later) node size sort (children_in inner) in
    f ∷ (families (inside f) true (node + 1) inner ++ families (behind at size) false (node + 1 + count inner) later)

-- the place of the first plate; plates are cut from nothing, and all of one height
abbrev pub first_plate : Problem → Area
first_plate b = record {
  plate = 0;
  cut = 0;
  along = Along.Plates;
  parent = None;
  x = 0;
  y = 0;
  width = 0;
  height = b.params.height;
  last = true;
}

-- the families of a plan, plates included
abbrev pub families_of : Problem → Forest → List Family
families_of b plan = families (first_plate b) true 0 (on_plates b plan)

-- the rows of a plan
abbrev pub rows_of : Problem → Forest → List Row
rows_of b plan = map (λ f. f.row) (families_of b plan)
