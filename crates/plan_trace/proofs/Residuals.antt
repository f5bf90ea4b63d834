-- The width of a plan's residual, by its tree.
use Rattle.std.proofs.Common.{◌≡◌, ℕ, ◌+◌, Bool, true, false, refl, ap, ◌∙◌, arith, Option, All}
use Rattle.std.specs.Option.{option_map_or}
use Rattle.cut_model.specs.declared.family.Row.{Row}
use Rattle.cut_model.specs.declared.family.Sort.{Sort}
use Rattle.cut_model.specs.declared.family.Along.{Along}
use Rattle.cut_model.specs.declared.family.Area.{Area}
use Rattle.cut_model.specs.Families.{families, behind, inside, turned, width_at}
use Rattle.glass_base.specs.Plates.{Width}
use Rattle.glass_base.specs.Problem.{Problem}
use Rattle.cut_model.specs.Loss.{names_residual}
use Rattle.cut_model.specs.Shape.{IsPlanShaped, IsShaped}
use Rattle.cut_model.specs.Sized.{sized}
use Rattle.cut_model.specs.Tree.{Forest, nothing, piece, count, type_number}
use Rattle.loss_area.proofs.Areas.{family_at, hold_of, residual_in, rows_at, rows_after, rows_nothing, rows_piece}
use Rattle.loss_area.proofs.Plates.{KeepsPlace, moved_along, no_residual, plate_residual, residual_later}

-- the width of the first residual among strips, 0 where there is none
abbrev pub residual_among : Forest → ℕ
residual_among nothing = 0
residual_among (piece size (Sort.Item _) inner later) = residual_among later
residual_among (piece size Sort.Waste inner later) = residual_among later
residual_among (piece size Sort.Branch inner later) = residual_among later
residual_among (piece size Sort.Residual inner later) = size

-- those of all plates, together
abbrev pub residuals : Forest → ℕ
residuals nothing = 0
residuals (piece size sort inner later) = residual_among inner + residuals later

abbrev width_of : Option Row → ℕ
width_of o = option_map_or (λ row. row.width) o 0

passed : (at : Area) (first : Bool) (node size : ℕ) (sort : Sort) (inner later : Forest) → names_residual (type_number sort) ≡ false → IsShaped 2 inner →
    residual_in (rows_at at first node (piece size sort inner later)) ≡ residual_in (rows_after at node size inner later)
passed at first node size sort inner later isnt shape =
    ap width_of (residual_later at first node size sort inner later isnt (no_residual (inside (family_at at first node size sort inner later)) true (node + 1) 2 inner (omega arith) shape))

strips_residual : (at : Area) (first : Bool) (node : ℕ) (forest : Forest) → at.along ≡ Along.X → IsShaped 1 forest → residual_in (rows_at at first node forest) ≡ residual_among forest
strips_residual at first node nothing lies shape = ap residual_in (rows_nothing at first node nothing refl)
strips_residual at first node (piece size (Sort.Item number) inner later) lies shape =
    passed at first node size (Sort.Item number) inner later refl shape.2 ∙ strips_residual (behind at size) false (node + 1 + count inner) later (moved_along at.along at size ∙ lies) shape.3
strips_residual at first node (piece size Sort.Waste inner later) lies shape =
    passed at first node size Sort.Waste inner later refl shape.2 ∙ strips_residual (behind at size) false (node + 1 + count inner) later (moved_along at.along at size ∙ lies) shape.3
strips_residual at first node (piece size Sort.Branch inner later) lies shape =
    passed at first node size Sort.Branch inner later refl shape.2 ∙ strips_residual (behind at size) false (node + 1 + count inner) later (moved_along at.along at size ∙ lies) shape.3
strips_residual at first node (piece size Sort.Residual inner later) lies shape =
    ap residual_in (rows_piece at first node size Sort.Residual inner later) ∙ ap (λ (along : Along). width_at along size at.width) lies

-- the residual of the plates from this number on, where it is in its place
pub plates_residual : (b : Problem) (plate : ℕ) (at : Area) (first : Bool) (node : ℕ) (plan : Forest) → at.along ≡ Along.Plates → IsPlanShaped plan → All KeepsPlace (families at first node (sized b plate plan)) →
    residual_in (rows_at at first node (sized b plate plan)) ≡ residuals plan
plates_residual b plate at first node nothing lies shape places = ap residual_in (rows_nothing at first node nothing refl)
plates_residual b plate at first node (piece size (Sort.Item number) inner later) lies shape places = absurd (omega (arith, shape.1.below))
plates_residual b plate at first node (piece size Sort.Waste inner later) lies shape places = absurd (omega (arith, shape.1.below))
plates_residual b plate at first node (piece size Sort.Residual inner later) lies shape places = absurd (omega (arith, shape.1.strip))
plates_residual b plate at first node (piece size Sort.Branch inner plan) lies shape places =
    let wide : ℕ = Width b plate in
    let later : Forest = sized b (plate + 1) plan in
    let h = hold_of KeepsPlace at first node wide Sort.Branch inner later places in
    omega (
      arith,
      plate_residual at first node wide inner later shape.2 h.below,
      strips_residual (inside (family_at at first node wide Sort.Branch inner later)) true (node + 1) inner (ap turned lies) shape.2,
      plates_residual b (plate + 1) (behind at wide) false (node + 1 + count inner) plan (moved_along at.along at wide ∙ lies) shape.3 h.after,
    )
