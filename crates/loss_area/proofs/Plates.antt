-- Wastes, items and the residual make up the plates.
use Rattle.std.proofs.Common.{◌≡◌, ◌≤◌, ℕ, ◌+◌, ◌*◌, List, [], ◌++◌, Bool, true, false, ◌&&◌, refl, ap, subst, ◌∙◌, arith, Option, None, All}
use Rattle.std.specs.Option.{option_map_or}
use Rattle.std.proofs.lemmas.List.{append-nil}
use Rattle.glass_base.specs.Plates.{Before, Width}
use Rattle.glass_base.specs.Problem.{Problem}
use Rattle.glass_base.proofs.PlateLemmas.{before-next}
use Rattle.cut_model.specs.declared.family.Row.{Row}
use Rattle.cut_model.specs.declared.family.Sort.{Sort}
use Rattle.cut_model.specs.declared.family.Along.{Along}
use Rattle.cut_model.specs.declared.family.Area.{Area}
use Rattle.cut_model.specs.declared.family.Family.{Family}
use Rattle.cut_model.specs.Shape.{IsOfLevel, IsShaped}
use Rattle.cut_model.specs.Sized.{sized}
use Rattle.cut_model.specs.Tree.{Forest, nothing, piece, is_nothing, neighbour_count, total_size, type_number, count}
use Rattle.cut_model.specs.Families.{families, behind, inside, moved, row_at, side_along, turned, width_at, height_at}
use Rattle.cut_model.specs.Loss.{names_residual}
use Rattle.cut_model.specs.Rules.{IsInPlace}
use Rattle.loss_area.proofs.Areas.{families_below, family_at, first_residual, hold_of, residual_behind, residual_in, rows_at, rows_below, rows_after, rows_nothing, rows_piece, used_of, used_piece}
use Rattle.loss_area.proofs.Conserved.{IsAcross, KeepsSum, across, across_at, moved_across, part_area, part_kind, parts_area, turned_lies}

-- a residual is the last strip of the last plate
abbrev pub KeepsPlace : Family → Type 0
KeepsPlace f = IsInPlace f f.sort

-- behind a piece the neighbours lie the same way
pub moved_along : (along : Along) (at : Area) (size : ℕ) → (moved along at size).along ≡ at.along
moved_along Along.Plates at size = refl
moved_along Along.X at size = refl
moved_along Along.Y at size = refl

-- behind a piece of the last plate the plate is still the last
moved_last : (along : Along) (at : Area) (size : ℕ) → (moved along at size).last ≡ at.last
moved_last Along.Plates at size = refl
moved_last Along.X at size = refl
moved_last Along.Y at size = refl

-- behind a piece the height of the place stays the same
moved_height : (along : Along) (at : Area) (size : ℕ) → (moved along at size).height ≡ at.height
moved_height Along.Plates at size = refl
moved_height Along.X at size = refl
moved_height Along.Y at size = refl

-- a row that is no residual is passed over
residual_passed : (at : Area) (first : Bool) (node size : ℕ) (sort : Sort) (inner later : Forest) → names_residual (type_number sort) ≡ false →
    first_residual (rows_at at first node (piece size sort inner later)) ≡ first_residual (rows_below at first node size sort inner later ++ rows_after at node size inner later)
residual_passed at first node size sort inner later isnt = ap first_residual (rows_piece at first node size sort inner later) ∙ rw isnt refl

-- so are the rows inside a piece where none of them is a residual
pub residual_later : (at : Area) (first : Bool) (node size : ℕ) (sort : Sort) (inner later : Forest) → names_residual (type_number sort) ≡ false →
    first_residual (rows_below at first node size sort inner later) ≡ None →
    first_residual (rows_at at first node (piece size sort inner later)) ≡ first_residual (rows_after at node size inner later)
residual_later at first node size sort inner later isnt none =
    residual_passed at first node size sort inner later isnt ∙ residual_behind (rows_below at first node size sort inner later) (rows_after at node size inner later) none

-- no piece inside a strip is a residual
pub no_residual : (at : Area) (first : Bool) (node level : ℕ) (forest : Forest) → 2 ≤ level → IsShaped level forest → first_residual (rows_at at first node forest) ≡ None
no_residual at first node level nothing deep shape = ap first_residual (rows_nothing at first node nothing refl)
no_residual at first node level (piece size sort inner later) deep shape =
    let below = no_residual (inside (family_at at first node size sort inner later)) true (node + 1) (level + 1) inner (omega (arith, deep)) shape.2 in
    residual_later at first node size sort inner later (part_kind level sort inner deep shape.1) below
    ∙ no_residual (behind at size) false (node + 1 + count inner) level later deep shape.3

-- a piece that keeps its place on a plate before the last one is no residual
not_before : (last ends : Bool) (sort : Sort) (f : Family) → last ≡ false → f.ends ≡ (last && ends) → IsInPlace f sort → names_residual (type_number sort) ≡ false
not_before last ends (Sort.Item number) f is e h = refl
not_before last ends Sort.Waste f is e h = refl
not_before last ends Sort.Branch f is e h = refl
not_before last ends Sort.Residual f is e h =
    let wrong : f.ends ≡ false = e ∙ ap (λ (b : Bool). b && ends) is in
    cc

-- no strip is a residual on a plate before the last one
pub none_before_last : (at : Area) (first : Bool) (node : ℕ) (forest : Forest) → at.last ≡ false → IsShaped 1 forest → All KeepsPlace (families at first node forest) → first_residual (rows_at at first node forest) ≡ None
none_before_last at first node nothing last shape places = ap first_residual (rows_nothing at first node nothing refl)
none_before_last at first node (piece size sort inner later) last shape places =
    let h = hold_of KeepsPlace at first node size sort inner later places in
    let f : Family = family_at at first node size sort inner later in
    residual_later at first node size sort inner later (not_before at.last (is_nothing later) sort f last refl h.here) (no_residual (inside f) true (node + 1) 2 inner (omega arith) shape.2)
    ∙ none_before_last (behind at size) false (node + 1 + count inner) later (moved_last at.along at size ∙ last) shape.3 h.after

-- wastes, items and the residual of these strips have the area that the strips fill
abbrev StripsArea : Area → Bool → ℕ → Forest → Type 0
StripsArea at first node forest = used_of (rows_at at first node forest) + across_at at * residual_in (rows_at at first node forest) ≡ total_size forest * across_at at

-- the width of a row that was found, 0 where there is none
abbrev width_of : Option Row → ℕ
width_of o = option_map_or (λ row. row.width) o 0

-- a strip that is no residual, and the strips behind it
other_strip : (at : Area) (first : Bool) (node size : ℕ) (sort : Sort) (inner later : Forest) → at.along ≡ Along.X → names_residual (type_number sort) ≡ false → IsOfLevel 1 sort inner → IsShaped 2 inner →
    KeepsSum (family_at at first node size sort inner later) → All KeepsSum (families_below at first node size sort inner later) → StripsArea (behind at size) false (node + 1 + count inner) later →
    StripsArea at first node (piece size sort inner later)
other_strip at first node size sort inner later lies isnt is shape sum sums rest =
    let f : Family = family_at at first node size sort inner later in
    let after : List Row = rows_after at node size inner later in
    let sideways : IsAcross at.along = rw lies tt in
    let here = part_area at first node 1 size sort inner later sideways isnt is sum (parts_area (inside f) true (node + 1) 2 inner (turned_lies at.along) (omega arith) shape sums) in
    let behind_it : used_of after + across_at at * residual_in after ≡ total_size later * across_at at =
    subst (λ n. used_of after + n * residual_in after ≡ total_size later * n) (moved_across at.along at size) rest in
    let residual : residual_in (rows_at at first node (piece size sort inner later)) ≡ residual_in after =
    ap width_of (residual_later at first node size sort inner later isnt (no_residual (inside f) true (node + 1) 2 inner (omega arith) shape)) in
    omega (arith, used_piece at first node size sort inner later, here, behind_it, ap (λ n. across_at at * n) residual)

-- the residual, behind which there is nothing
residual_strip : (at : Area) (first : Bool) (node size : ℕ) (inner later : Forest) → at.along ≡ Along.X → inner ≡ nothing → later ≡ nothing → StripsArea at first node (piece size Sort.Residual inner later)
residual_strip at first node size inner later lies none last =
    let below : rows_below at first node size Sort.Residual inner later ≡ [] = rows_nothing (inside (family_at at first node size Sort.Residual inner later)) true (node + 1) inner none in
    let after : rows_after at node size inner later ≡ [] = rows_nothing (behind at size) false (node + 1 + count inner) later last in
    let residual : residual_in (rows_at at first node (piece size Sort.Residual inner later)) ≡ size =
    ap residual_in (rows_piece at first node size Sort.Residual inner later) ∙ ap (λ (along : Along). width_at along size at.width) lies in
    omega (
      arith,
      used_piece at first node size Sort.Residual inner later,
      ap used_of below,
      ap used_of after,
      ap (λ n. across_at at * n) residual,
      ap (λ (forest : Forest). total_size forest * across_at at) last,
    )

-- behind a piece that ends a plan there is nothing
pub ends_there : (last : Bool) (later : Forest) → (last && is_nothing later) ≡ true → later ≡ nothing
ends_there last nothing h = refl
ends_there true (piece size sort inner later) h = cc
ends_there false (piece size sort inner later) h = cc

-- a strip of any sort, and the strips behind it
one_strip : (at : Area) (first : Bool) (node size : ℕ) (sort : Sort) (inner later : Forest) → at.along ≡ Along.X → IsOfLevel 1 sort inner → IsShaped 2 inner →
    KeepsSum (family_at at first node size sort inner later) → KeepsPlace (family_at at first node size sort inner later) → All KeepsSum (families_below at first node size sort inner later) →
    StripsArea (behind at size) false (node + 1 + count inner) later → StripsArea at first node (piece size sort inner later)
one_strip at first node size (Sort.Item number) inner later lies is shape sum place sums rest = other_strip at first node size (Sort.Item number) inner later lies refl is shape sum sums rest
one_strip at first node size Sort.Waste inner later lies is shape sum place sums rest = other_strip at first node size Sort.Waste inner later lies refl is shape sum sums rest
one_strip at first node size Sort.Branch inner later lies is shape sum place sums rest = other_strip at first node size Sort.Branch inner later lies refl is shape sum sums rest
one_strip at first node size Sort.Residual inner later lies is shape sum place sums rest = residual_strip at first node size inner later lies is.empty (ends_there at.last later place.1)

-- the strips of a plate
strips_area : (at : Area) (first : Bool) (node : ℕ) (forest : Forest) → at.along ≡ Along.X → IsShaped 1 forest → All KeepsSum (families at first node forest) → All KeepsPlace (families at first node forest) →
    StripsArea at first node forest
strips_area at first node nothing lies shape sums places =
    let none = rows_nothing at first node nothing refl in
    omega (arith, ap used_of none, ap (λ (rows : List Row). across_at at * residual_in rows) none)
strips_area at first node (piece size sort inner later) lies shape sums places =
    let sum = hold_of KeepsSum at first node size sort inner later sums in
    let place = hold_of KeepsPlace at first node size sort inner later places in
    one_strip at first node size sort inner later lies shape.1 shape.2 sum.here place.here sum.below
    (strips_area (behind at size) false (node + 1 + count inner) later (moved_along at.along at size ∙ lies) shape.3 sum.after place.after)

-- what is not the last piece ends nothing
and_false : (b : Bool) → (b && false) ≡ false
and_false true = refl
and_false false = refl

-- of a plate and those behind it only the last one has a residual
pub plate_residual : (at : Area) (first : Bool) (node size : ℕ) (inner later : Forest) → IsShaped 1 inner → All KeepsPlace (families_below at first node size Sort.Branch inner later) →
    residual_in (rows_at at first node (piece size Sort.Branch inner later)) ≡ residual_in (rows_below at first node size Sort.Branch inner later) + residual_in (rows_after at node size inner later)
plate_residual at first node size inner nothing shape places =
    let below : List Row = rows_below at first node size Sort.Branch inner nothing in
    let after : rows_after at node size inner nothing ≡ [] = rows_nothing (behind at size) false (node + 1 + count inner) nothing refl in
    let residual : residual_in (rows_at at first node (piece size Sort.Branch inner nothing)) ≡ residual_in below =
    ap width_of (residual_passed at first node size Sort.Branch inner nothing refl) ∙ ap (λ (rows : List Row). residual_in (below ++ rows)) after ∙ ap residual_in (append-nil below) in
    omega (arith, residual, ap residual_in after)
plate_residual at first node size inner (piece s t i l) shape places =
    let later : Forest = piece s t i l in
    let f : Family = family_at at first node size Sort.Branch inner later in
    let none : first_residual (rows_below at first node size Sort.Branch inner later) ≡ None = none_before_last (inside f) true (node + 1) inner (and_false at.last) shape places in
    omega (arith, ap width_of (residual_later at first node size Sort.Branch inner later refl none), ap width_of none)

-- the strips of a plate have its area
plate_area : (at : Area) (first : Bool) (node size : ℕ) (inner later : Forest) → at.along ≡ Along.Plates → KeepsSum (family_at at first node size Sort.Branch inner later) →
    StripsArea (inside (family_at at first node size Sort.Branch inner later)) true (node + 1) inner →
    used_of (rows_below at first node size Sort.Branch inner later) + at.height * residual_in (rows_below at first node size Sort.Branch inner later) ≡ size * at.height
plate_area at first node size inner later lies sum strips =
    let f : Family = family_at at first node size Sort.Branch inner later in
    let row : Row = row_at at node size Sort.Branch in
    let below : List Row = rows_below at first node size Sort.Branch inner later in
    let high : across_at (inside f) ≡ at.height = ap (λ (along : Along). across (turned along) (width_at along size at.width) (height_at along size at.height)) lies in
    let wide : total_size inner ≡ size = sum.1 ∙ ap (λ (along : Along). side_along (turned along) row) lies ∙ ap (λ (along : Along). width_at along size at.width) lies in
    subst (λ n. used_of below + n * residual_in below ≡ size * n) high (strips ∙ ap (λ n. n * across_at (inside f)) wide)

-- wastes, items and the residual have the area of the plates from this number on
pub plates_area : (b : Problem) (plate : ℕ) (at : Area) (first : Bool) (node : ℕ) (plan : Forest) → at.along ≡ Along.Plates → IsShaped 0 plan →
    All KeepsSum (families at first node (sized b plate plan)) → All KeepsPlace (families at first node (sized b plate plan)) →
    used_of (rows_at at first node (sized b plate plan)) + at.height * residual_in (rows_at at first node (sized b plate plan)) + at.height * Before b plate ≡ at.height * Before b (plate + neighbour_count plan)
plates_area b plate at first node nothing lies shape sums places =
    let none = rows_nothing at first node nothing refl in
    let same : plate + 0 ≡ plate = omega arith in
    omega (arith, ap used_of none, ap (λ (rows : List Row). at.height * residual_in rows) none, ap (λ n. at.height * Before b n) same)
plates_area b plate at first node (piece size (Sort.Item number) inner later) lies shape sums places = absurd (omega (arith, shape.1.below))
plates_area b plate at first node (piece size Sort.Waste inner later) lies shape sums places = absurd (omega (arith, shape.1.below))
plates_area b plate at first node (piece size Sort.Residual inner later) lies shape sums places = absurd (omega (arith, shape.1.strip))
plates_area b plate at first node (piece size Sort.Branch inner plan) lies shape sums places =
    let wide : ℕ = Width b plate in
    let later : Forest = sized b (plate + 1) plan in
    let sum = hold_of KeepsSum at first node wide Sort.Branch inner later sums in
    let place = hold_of KeepsPlace at first node wide Sort.Branch inner later places in
    let f : Family = family_at at first node wide Sort.Branch inner later in
    let after : List Row = rows_after at node wide inner later in
    let strips = strips_area (inside f) true (node + 1) inner (ap turned lies) shape.2 sum.below place.below in
    let rest = plates_area b (plate + 1) (behind at wide) false (node + 1 + count inner) plan (moved_along at.along at wide ∙ lies) shape.3 sum.after place.after in
    let behind_it : used_of after + at.height * residual_in after + at.height * Before b (plate + 1) ≡ at.height * Before b (plate + 1 + neighbour_count plan) =
    subst (λ n. used_of after + n * residual_in after + n * Before b (plate + 1) ≡ n * Before b (plate + 1 + neighbour_count plan)) (moved_height at.along at wide) rest in
    let same : plate + (1 + neighbour_count plan) ≡ plate + 1 + neighbour_count plan = omega arith in
    omega (
      arith,
      used_piece at first node wide Sort.Branch inner later,
      plate_area at first node wide inner later lies sum.here strips,
      behind_it,
      ap (λ n. at.height * n) (plate_residual at first node wide inner later shape.2 place.below),
      ap (λ n. at.height * n) (before-next b plate),
      ap (λ n. at.height * Before b n) same,
    )
