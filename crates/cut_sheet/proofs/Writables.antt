-- The sheet of a plan that fits has numbers that a text may have.
use Rattle.std.proofs.Common.{◌≡◌, ℕ, ◌+◌, ◌≤◌, inl, inr, List, [], ◌∷◌, ◌++◌, Bool, true, false, refl, arith, All}
use Rattle.std.proofs.lemmas.List.Elements.{All-append, All-cons, All-nil}
use Rattle.cut_model.specs.declared.family.Sort.{Sort}
use Rattle.cut_model.specs.Fits.{InRange, IsNumbered}
use Rattle.cut_model.specs.Tree.{Forest, nothing, piece, is_nothing, neighbour_count}
use Rattle.cut_sheet.specs.declared.instr.Instr.{Instr}
use Rattle.cut_sheet.specs.Sheets.{finished, parted, parts_sheet, plates_sheet}
use Rattle.cut_sheet.specs.Texts.{IsWritable}
use Rattle.glass_base.specs.declared.limits.TheConstants.{MOST_PLATES, MOST_SIDE}

parted_writable : (last : Bool) (size : ℕ) → size ≤ MOST_SIDE → IsWritable (parted last size)
parted_writable true size few = tt
parted_writable false size few = few

finished_writable : (sort : Sort) (inside : List Instr) → IsNumbered sort → All IsWritable inside → All IsWritable (finished sort inside)
finished_writable (Sort.Item number) inside numbered all = All-cons IsWritable (Instr.Done _) [] numbered (All-nil IsWritable)
finished_writable Sort.Waste inside numbered all = All-cons IsWritable (Instr.Done _) [] (inl refl) (All-nil IsWritable)
finished_writable Sort.Residual inside numbered all = All-cons IsWritable (Instr.Done _) [] (inr refl) (All-nil IsWritable)
finished_writable Sort.Branch inside numbered all = all

parts_writable : (forest : Forest) → InRange forest → All IsWritable (parts_sheet forest)
parts_writable nothing range = All-nil IsWritable
parts_writable (piece size sort inner later) range =
    let inside = finished_writable sort (parts_sheet inner) range.1 (parts_writable inner range.3) in
    All-cons IsWritable (parted (is_nothing later) size) (finished sort (parts_sheet inner) ++ parts_sheet later) (parted_writable (is_nothing later) size range.0)
    (All-append IsWritable (finished sort (parts_sheet inner)) (parts_sheet later) inside (parts_writable later range.4))

pub plates_writable : (plate : ℕ) (plan : Forest) → plate + neighbour_count plan ≤ MOST_PLATES → InRange plan → All IsWritable (plates_sheet plate plan)
plates_writable plate nothing few range = All-nil IsWritable
plates_writable plate (piece size sort strips later) few range =
    All-cons IsWritable (Instr.Load plate) (parts_sheet strips ++ plates_sheet (plate + 1) later) (omega arith)
    (All-append IsWritable (parts_sheet strips) (plates_sheet (plate + 1) later) (parts_writable strips range.3) (plates_writable (plate + 1) later (omega arith) range.4))
