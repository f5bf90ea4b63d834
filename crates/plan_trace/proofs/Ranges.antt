-- A plan whose children add up is in range, where its item numbers are.
use Rattle.std.proofs.Common.{◌≡◌, ℕ, ◌+◌, ◌≤◌, ◌++◌, refl, ap, ◌∙◌, arith, Bool, true, false, All}
use Rattle.std.proofs.lemmas.List.Elements.{All-head, All-tail}
use Rattle.glass_base.specs.Plates.{Width}
use Rattle.glass_base.specs.Problem.{Problem, IsProblem}
use Rattle.glass_base.proofs.PlateLemmas.{width_within}
use Rattle.cut_model.specs.declared.family.Row.{Row}
use Rattle.cut_model.specs.declared.family.Sort.{Sort}
use Rattle.cut_model.specs.declared.family.Along.{Along}
use Rattle.cut_model.specs.declared.family.Area.{Area}
use Rattle.cut_model.specs.declared.family.Family.{Family}
use Rattle.cut_model.specs.Shape.{IsOfLevel, IsPlanShaped, IsShaped}
use Rattle.cut_model.specs.Sized.{sized}
use Rattle.cut_model.specs.Tree.{Forest, nothing, piece, count, total_size}
use Rattle.cut_model.specs.Families.{families, behind, inside, moved, side_along, turned, width_at, height_at}
use Rattle.cut_model.specs.Fits.{InRange, IsNumbered}
use Rattle.cut_model.proofs.Cutting.{items_in}
use Rattle.loss_area.proofs.Areas.{All-both, family_at, hold_of}
use Rattle.loss_area.proofs.Conserved.{KeepsSum}
use Rattle.loss_area.proofs.Plates.{moved_along}
use Rattle.glass_base.specs.declared.limits.TheConstants.{MOST_NUMBER, MOST_SIDE}

moved_sides : (along : Along) (at : Area) (size : ℕ) → ((moved along at size).width ≡ at.width) × ((moved along at size).height ≡ at.height)
moved_sides Along.Plates at size = (refl, refl)
moved_sides Along.X at size = (refl, refl)
moved_sides Along.Y at size = (refl, refl)

row_sides : (along : Along) (size width height : ℕ) → size ≤ MOST_SIDE → width ≤ MOST_SIDE → height ≤ MOST_SIDE → (width_at along size width ≤ MOST_SIDE) × (height_at along size height ≤ MOST_SIDE)
row_sides Along.Plates size width height s w h = (s, h)
row_sides Along.X size width height s w h = (s, h)
row_sides Along.Y size width height s w h = (w, s)

side_within : (along : Along) (row : Row) → row.width ≤ MOST_SIDE → row.height ≤ MOST_SIDE → side_along along row ≤ MOST_SIDE
side_within Along.Plates row w h = omega arith
side_within Along.X row w h = w
side_within Along.Y row w h = h

-- what is inside a piece fits into it
inner_within : (f : Family) (level : ℕ) (sort : Sort) (inner : Forest) → IsOfLevel level sort inner → KeepsSum (record f { sort = sort; children = record f.children { total = total_size inner } }) → f.row.width ≤ MOST_SIDE → f.row.height ≤ MOST_SIDE → total_size inner ≤ MOST_SIDE
inner_within f level (Sort.Item number) inner is sum w h = omega (arith, ap total_size is.empty)
inner_within f level Sort.Waste inner is sum w h = omega (arith, ap total_size is.empty)
inner_within f level Sort.Branch inner is sum w h = omega (arith, sum.1, side_within (turned f.along) f.row w h)
inner_within f level Sort.Residual inner is sum w h = omega (arith, ap total_size is.empty)

abbrev Small : ℕ → Type 0
Small number = number ≤ MOST_NUMBER

numbered : (sort : Sort) (inner later : Forest) → All Small (items_in (piece 0 sort inner later)) → IsNumbered sort × All Small (items_in inner ++ items_in later)
numbered (Sort.Item number) inner later h = (All-head Small number (items_in inner ++ items_in later) h, All-tail Small number (items_in inner ++ items_in later) h)
numbered Sort.Waste inner later h = (tt, h)
numbered Sort.Branch inner later h = (tt, h)
numbered Sort.Residual inner later h = (tt, h)

-- the pieces of one plate
adds_in_range : (at : Area) (first : Bool) (node level : ℕ) (forest : Forest) → IsShaped level forest → All KeepsSum (families at first node forest) → at.width ≤ MOST_SIDE → at.height ≤ MOST_SIDE → total_size forest ≤ MOST_SIDE →
    All Small (items_in forest) → InRange forest
adds_in_range at first node level nothing shape sums w h total small = tt
adds_in_range at first node level (piece size sort inner later) shape sums w h total small =
    let k = hold_of KeepsSum at first node size sort inner later sums in
    let f : Family = family_at at first node size sort inner later in
    let s : size ≤ MOST_SIDE = omega (arith, total) in
    let sides = row_sides at.along size at.width at.height s w h in
    let within = inner_within f level sort inner shape.1 k.here sides.0 sides.1 in
    let names = numbered sort inner later small in
    let both = All-both Small (items_in inner) (items_in later) names.1 in
    let same = moved_sides at.along at size in (
      s,
      names.0,
      within,
      adds_in_range (inside f) true (node + 1) (level + 1) inner shape.2 k.below sides.0 sides.1 within both.0,
      adds_in_range (behind at size) false (node + 1 + count inner) level later shape.3 k.after (omega (arith, same.0, w)) (omega (arith, same.1, h)) (omega (arith, total)) both.1,
    )

-- the plates from this number on
pub plates_in_range : (b : Problem) (plate : ℕ) (at : Area) (first : Bool) (node : ℕ) (plan : Forest) → IsProblem b → at.along ≡ Along.Plates → at.height ≤ MOST_SIDE → IsPlanShaped plan →
    All KeepsSum (families at first node (sized b plate plan)) → All (λ number. number ≤ MOST_NUMBER) (items_in plan) → InRange plan
plates_in_range b plate at first node nothing rules lies high shape sums small = tt
plates_in_range b plate at first node (piece size (Sort.Item number) inner later) rules lies high shape sums small = absurd (omega (arith, shape.1.below))
plates_in_range b plate at first node (piece size Sort.Waste inner later) rules lies high shape sums small = absurd (omega (arith, shape.1.below))
plates_in_range b plate at first node (piece size Sort.Residual inner later) rules lies high shape sums small = absurd (omega (arith, shape.1.strip))
plates_in_range b plate at first node (piece size Sort.Branch inner later) rules lies high shape sums small =
    let wide : ℕ = Width b plate in
    let k = hold_of KeepsSum at first node wide Sort.Branch inner (sized b (plate + 1) later) sums in
    let f : Family = family_at at first node wide Sort.Branch inner (sized b (plate + 1) later) in
    let w : f.row.width ≤ MOST_SIDE = omega (arith, ap (λ (along : Along). width_at along wide at.width) lies, (width_within b plate rules).1) in
    let h : f.row.height ≤ MOST_SIDE = omega (arith, ap (λ (along : Along). height_at along wide at.height) lies, high) in
    let within = inner_within f 0 Sort.Branch inner shape.1 k.here w h in
    let both = All-both Small (items_in inner) (items_in later) small in
    let same = moved_sides at.along at wide in (
      omega (arith, shape.0 refl),
      tt,
      within,
      adds_in_range (inside f) true (node + 1) 1 inner shape.2 k.below w h within both.0,
      plates_in_range b (plate + 1) (behind at wide) false (node + 1 + count inner) later rules (moved_along at.along at wide ∙ lies) (omega (arith, same.1, high)) shape.3 k.after both.1,
    )
