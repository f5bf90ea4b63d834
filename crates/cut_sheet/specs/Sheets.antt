-- The sheet of a plan, and the pieces that it is to make.
use Rattle.std.specs.Prelude.{ℕ, ℤ, ◌+◌, ◌<◌, ◌≤◌, List, [], ◌∷◌, ◌++◌, map, filter, All, Bool, true, false, not}
use Rattle.glass_base.specs.Problem.{Problem}
use Rattle.cut_model.specs.declared.family.Family.{Family}
use Rattle.cut_model.specs.declared.family.Row.{Row}
use Rattle.cut_model.specs.declared.family.Sort.{Sort}
use Rattle.cut_model.specs.Families.{families_of, rows_of}
use Rattle.cut_model.specs.Rules.{AddsUp}
use Rattle.cut_model.specs.Tree.{Forest, nothing, piece, is_branch, is_nothing, neighbour_count, sort_named, type_number}
use Rattle.cut_sheet.specs.declared.instr.Instr.{Instr}
use Rattle.cut_sheet.specs.declared.instr.Made.{Made}

-- a piece is cut off the one that it is in; the last one is what is left
abbrev pub parted : Bool → ℕ → Instr
parted true size = Instr.Whole
parted false size = Instr.Off size

-- a piece that is not cut leaves the table; one that is cut is followed by what its own pieces ask for
abbrev pub finished : Sort → List Instr → List Instr
finished Sort.Branch inside = inside
finished (Sort.Item number) inside = Instr.Done (type_number (Sort.Item number)) ∷ []
finished Sort.Waste inside = Instr.Done (type_number Sort.Waste) ∷ []
finished Sort.Residual inside = Instr.Done (type_number Sort.Residual) ∷ []

-- neighbours that a piece is cut into, one after the other
abbrev pub parts_sheet : Forest → List Instr
parts_sheet nothing = []
parts_sheet (piece size sort inner later) = parted (is_nothing later) size ∷ (finished sort (parts_sheet inner) ++ parts_sheet later)

-- the plates from this number on
abbrev pub plates_sheet : ℕ → Forest → List Instr
plates_sheet plate nothing = []
plates_sheet plate (piece _ _ strips later) = Instr.Load plate ∷ (parts_sheet strips ++ plates_sheet (plate + 1) later)

-- the sheet of a plan
abbrev pub sheet_in : Forest → List Instr
sheet_in plan = plates_sheet 0 plan

-- a row as a piece that left the table
abbrev pub made_of : Row → Made
made_of r = record { plate = r.plate; x = r.x; y = r.y; width = r.width; height = r.height; kind = r.kind; cut = r.cut }

-- whether a row is neither a plate nor a piece that is cut: its type is not -2
abbrev pub is_uncut : Row → Bool
is_uncut r = not (is_branch (sort_named r.kind))

-- such rows, as pieces that left the table
abbrev pub pieces_in : List Row → List Made
pieces_in rows = map made_of (filter is_uncut rows)

-- the pieces of a plan that are not cut any further, in cutting order
abbrev pub pieces_of : Problem → Forest → List Made
pieces_of b plan = pieces_in (rows_of b plan)

-- whatever is cut is cut up wholly, and has two sides
pub record CanBeCut (f : Family) : Type 0 where
  pub sums : AddsUp f f.sort
  pub width : 0 < f.row.width
  pub height : 0 < f.row.height

-- a plan that a table can follow: it has its plates, and each of its pieces can be cut
pub record IsCuttable (b : Problem) (plan : Forest) : Type 0 where
  pub few : neighbour_count plan ≤ b.params.plates
  pub pieces : All CanBeCut (families_of b plan)
