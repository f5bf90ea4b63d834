-- The rows of the plates among those of a plan.
use Rattle.std.proofs.Common.{◌≡◌, ◌≤◌, ℕ, ◌+◌, ◌==◌, List, [], ◌∷◌, ◌++◌, Bool, true, false, refl, ap, arith}
use Rattle.std.proofs.lemmas.Bool.Decides.{nat_tests}
use Rattle.std.proofs.lemmas.List.Elements.{filter-append}
use Rattle.cut_model.specs.declared.family.Row.{Row}
use Rattle.cut_model.specs.declared.family.Area.{Area}
use Rattle.cut_model.specs.Tree.{Forest, nothing, piece, count}
use Rattle.cut_model.specs.Families.{behind, row_at}
use Rattle.cut_model.specs.Lawful.{plate_rows}
use Rattle.cut_model.specs.Parents.{tops}
use Rattle.plan_csv.proofs.Told.{rows_at, place_in, rows_below, rows_past, rows_nothing, rows_piece, behind_next}

-- the plates of two lists
pub plate_rows-append : (xs ys : List Row) → plate_rows (xs ++ ys) ≡ plate_rows xs ++ plate_rows ys
plate_rows-append xs ys = filter-append (λ (row : Row). row.cut == 0) xs ys

-- no piece that a cut makes is a plate
pub no_plates : (at : Area) (first : Bool) (node : ℕ) (forest : Forest) → 1 ≤ at.cut → plate_rows (rows_at at first node forest) ≡ []
no_plates at first node nothing h = rw (rows_nothing at first node) refl
no_plates at first node (piece size sort inner later) h =
    let place : Area = place_in at first node size sort inner later in
    let below : List Row = rows_below at first node size sort inner later in
    let past : List Row = rows_past at node size inner later in
    let other : (at.cut == 0) ≡ false = grind (arith, nat_tests) in
    rw (
      rows_piece at first node size sort inner later,
      other,
      plate_rows-append below past,
      no_plates place true (node + 1) inner (omega arith),
      no_plates (behind at size) false (node + 1 + count inner) later (omega (arith, h, (behind_next at size).cut)),
    ) refl

-- the plates of a list of plates are the rows of the list itself
pub own_plates : (at : Area) (first : Bool) (node : ℕ) (forest : Forest) → at.cut ≡ 0 → plate_rows (rows_at at first node forest) ≡ tops at first node forest
unfolding tops
own_plates at first node nothing h = rw (rows_nothing at first node) refl
own_plates at first node (piece size sort inner later) h =
    let place : Area = place_in at first node size sort inner later in
    let below : List Row = rows_below at first node size sort inner later in
    let past : List Row = rows_past at node size inner later in
    let is_plate : (at.cut == 0) ≡ true = grind (arith, nat_tests) in
    rw (
      rows_piece at first node size sort inner later,
      is_plate,
      plate_rows-append below past,
      no_plates place true (node + 1) inner (omega arith),
    )
    (ap (λ (l : List Row). row_at at node size sort ∷ l)
    (own_plates (behind at size) false (node + 1 + count inner) later (omega (arith, h, (behind_next at size).cut))))
