-- Where the children of each piece add up to its size, the pieces of a plan lie on their plates.
use Rattle.std.proofs.Common.{◌≡◌, ◌≤◌, ℕ, ◌+◌, Bool, true, false, refl, sym, subst, ap, ◌∙◌, arith, All}
use Rattle.std.specs.List.{AllByRecursion}
use Rattle.std.proofs.lemmas.List.Elements.{All-from_recursion, recursion_from_All}
use Rattle.glass_base.specs.Plates.{Width}
use Rattle.glass_base.specs.Problem.{Problem}
use Rattle.cut_model.specs.declared.plan.Plan.{Plan}
use Rattle.cut_model.specs.declared.family.Sort.{Sort}
use Rattle.cut_model.specs.declared.family.Along.{Along}
use Rattle.cut_model.specs.declared.family.Area.{Area}
use Rattle.cut_model.specs.declared.family.Family.{Family}
use Rattle.cut_model.specs.Shape.{IsOfLevel, IsShaped}
use Rattle.cut_model.specs.Sized.{sized}
use Rattle.cut_model.specs.Tree.{Forest, nothing, piece, is_nothing, children_in, count, tree, total_size}
use Rattle.cut_model.specs.Families.{families, family_with, families_of, behind, moved, turned, row_at, first_plate, rows_of, width_at, height_at, side_along}
use Rattle.cut_model.specs.Fits.{Fits, InRange}
use Rattle.cut_model.specs.Rules.{AddsUp}
use Rattle.plan_csv.specs.PlanTexts.{IsWithin}
use Rattle.cut_model.proofs.Shapes.{tree_shaped}
use Rattle.plan_csv.proofs.Told.{rows_at, place_in, rows_nothing, behind_next, hold_all, all_of_each}
use Rattle.glass_base.specs.declared.limits.TheConstants.{MOST_SIDE}

-- the family of a piece
abbrev family_at : Area → Bool → ℕ → ℕ → Sort → Forest → Forest → Family
family_at at first node size sort inner later = family_with at first (is_nothing later) node size sort (children_in inner)

-- the children of this family add up to its size
abbrev DoesAddUp : Family → Type 0
DoesAddUp f = AddsUp f f.sort

-- a fact on the families of pieces, in its parts
families_hold : (P : Family → Type 0) (at : Area) (first : Bool) (node size : ℕ) (sort : Sort) (inner later : Forest) →
    AllByRecursion P (families at first node (piece size sort inner later)) →
    P (family_at at first node size sort inner later)
    × AllByRecursion P (families (place_in at first node size sort inner later) true (node + 1) inner)
    × AllByRecursion P (families (behind at size) false (node + 1 + count inner) later)
unfolding families
families_hold P at first node size sort inner later h =
    let rest = all_of_each P (families (place_in at first node size sort inner later) true (node + 1) inner) (families (behind at size) false (node + 1 + count inner) later) h.1 in
    (h.0, rest.0, rest.1)

-- there is room at a place, within 20,000 mm, for these neighbours that lie so
abbrev IsRoomy : Along → Area → Forest → Type 0
IsRoomy Along.Plates at forest = ⊥
IsRoomy Along.X at forest = (at.x + total_size forest ≤ MOST_SIDE) × (at.y + at.height ≤ MOST_SIDE)
IsRoomy Along.Y at forest = (at.x + at.width ≤ MOST_SIDE) × (at.y + total_size forest ≤ MOST_SIDE)

-- a place with room begins within 20,000 mm
roomy_within : (along : Along) (at : Area) (forest : Forest) → IsRoomy along at forest → (at.x ≤ MOST_SIDE) × (at.y ≤ MOST_SIDE)
roomy_within Along.Plates at forest h = absurd h
roomy_within Along.X at forest h = (omega (arith, h.0), omega (arith, h.1))
roomy_within Along.Y at forest h = (omega (arith, h.0), omega (arith, h.1))

-- what is inside a piece is no longer than it
inner_fits : (f : Family) (level : ℕ) (sort : Sort) (inner : Forest) → f.children ≡ children_in inner → IsOfLevel level sort inner → AddsUp f sort → total_size inner ≤ side_along (turned f.along) f.row
inner_fits f level (Sort.Item number) inner is h adds = omega (arith, ap total_size h.empty)
inner_fits f level Sort.Waste inner is h adds = omega (arith, ap total_size h.empty)
inner_fits f level Sort.Branch inner is h adds = omega (arith, ap (λ c. c.total) is, adds.1)
inner_fits f level Sort.Residual inner is h adds = omega (arith, ap total_size h.empty)

-- there is room inside a piece
roomy_inside : (along : Along) (at : Area) (first : Bool) (node size : ℕ) (sort : Sort) (inner later : Forest) → at.along ≡ along →
    IsRoomy along at (piece size sort inner later) → total_size inner ≤ side_along (turned along) (row_at at node size sort) →
    IsRoomy (turned along) (place_in at first node size sort inner later) inner
roomy_inside Along.Plates at first node size sort inner later is h le = absurd h
roomy_inside Along.X at first node size sort inner later is h le =
    let width : width_at at.along size at.width ≡ size = ap (λ a. width_at a size at.width) is in
    let height : height_at at.along size at.height ≡ at.height = ap (λ a. height_at a size at.height) is in
    (omega (arith, h.0, width), omega (arith, h.1, le, height))
roomy_inside Along.Y at first node size sort inner later is h le =
    let width : width_at at.along size at.width ≡ at.width = ap (λ a. width_at a size at.width) is in
    let height : height_at at.along size at.height ≡ size = ap (λ a. height_at a size at.height) is in
    (omega (arith, h.0, le, width), omega (arith, h.1, height))

-- there is room behind a piece
roomy_behind : (along : Along) (at : Area) (size : ℕ) (sort : Sort) (inner later : Forest) →
    IsRoomy along at (piece size sort inner later) → IsRoomy along (moved along at size) later
roomy_behind Along.Plates at size sort inner later h = h
roomy_behind Along.X at size sort inner later h = (omega (arith, h.0), h.1)
roomy_behind Along.Y at size sort inner later h = (h.0, omega (arith, h.1))

-- the rows of pieces that have room begin within 20,000 mm, where the children of each add up
rows_within : (at : Area) (first : Bool) (node : ℕ) (forest : Forest) →
    IsRoomy at.along at forest → IsShaped at.cut forest → AllByRecursion DoesAddUp (families at first node forest) →
    AllByRecursion IsWithin (rows_at at first node forest)
rows_within at first node nothing h shape adds = rw (rows_nothing at first node) tt
rows_within at first node (piece size sort inner later) h shape adds =
    let f : Family = family_at at first node size sort inner later in
    let next = behind_next at size in
    let parts = families_hold DoesAddUp at first node size sort inner later adds in
    hold_all IsWithin at first node size sort inner later
    (record {
      here = roomy_within at.along at (piece size sort inner later) h;
      below = rows_within (place_in at first node size sort inner later) true (node + 1) inner
          (roomy_inside at.along at first node size sort inner later refl h (inner_fits f at.cut sort inner refl shape.1 parts.0)) shape.2 parts.1;
      past = rows_within (behind at size) false (node + 1 + count inner) later
          (subst (λ (along : Along). IsRoomy along (behind at size) later) (sym next.along) (roomy_behind at.along at size sort inner later h))
          (subst (λ (level : ℕ). IsShaped level later) (sym next.cut) shape.3) parts.2;
    })

-- a place of a plate: its corner
record IsCorner (at : Area) : Type 0 where
  along : at.along ≡ Along.Plates
  x : at.x ≡ 0
  y : at.y ≡ 0
  height : at.height ≤ MOST_SIDE

-- behind a plate is the corner of the next one
corner_behind : (at : Area) (size : ℕ) → IsCorner at → IsCorner (behind at size)
corner_behind at size h =
    let next = behind_next at size in
    record {
      along = next.along ∙ h.along;
      x = ap (λ a. (moved a at size).x) h.along ∙ h.x;
      y = ap (λ a. (moved a at size).y) h.along ∙ h.y;
      height = omega (arith, next.height, h.height);
    }

-- there is room inside a plate
roomy_plate : (at : Area) (first : Bool) (node size : ℕ) (sort : Sort) (inner later : Forest) → IsCorner at → total_size inner ≤ MOST_SIDE →
    IsRoomy (turned at.along) (place_in at first node size sort inner later) inner
roomy_plate at first node size sort inner later h le =
    let high : height_at at.along size at.height ≡ at.height = ap (λ a. height_at a size at.height) h.along in
    subst (λ a. IsRoomy (turned a) (place_in at first node size sort inner later) inner) (sym h.along) (omega (arith, h.x, le), omega (arith, h.y, h.height, high))

-- the rows of plates from this number on whose pieces add up begin within 20,000 mm
plates_within : (b : Problem) (plate : ℕ) (at : Area) (first : Bool) (node : ℕ) (plan : Forest) → IsCorner at → IsShaped at.cut plan → InRange plan →
    AllByRecursion DoesAddUp (families at first node (sized b plate plan)) → AllByRecursion IsWithin (rows_at at first node (sized b plate plan))
plates_within b plate at first node nothing h shape range adds = rw (rows_nothing at first node) tt
plates_within b plate at first node (piece size sort inner plan) h shape range adds =
    let wide : ℕ = Width b plate in
    let later : Forest = sized b (plate + 1) plan in
    let parts = families_hold DoesAddUp at first node wide sort inner later adds in
    hold_all IsWithin at first node wide sort inner later
    (record {
      here = (omega (arith, h.x), omega (arith, h.y));
      below = rows_within (place_in at first node wide sort inner later) true (node + 1) inner (roomy_plate at first node wide sort inner later h range.2) shape.2 parts.1;
      past = plates_within b (plate + 1) (behind at wide) false (node + 1 + count inner) plan (corner_behind at wide h)
          (subst (λ (level : ℕ). IsShaped level plan) (sym (behind_next at wide).cut) shape.3) range.4 parts.2;
    })

-- the rows of a plan whose pieces add up begin within 20,000 mm
pub plan_within : (b : Problem) (plan : Plan) → Fits (tree plan) → All (λ f. AddsUp f f.sort) (families_of b (tree plan)) → All IsWithin (rows_of b (tree plan))
plan_within b plan fits adds =
    All-from_recursion IsWithin (rows_of b (tree plan))
    (plates_within b 0 (first_plate b) true 0 (tree plan) (record { along = refl; x = refl; y = refl; height = b.params.accepted.height_limit }) (tree_shaped plan) fits.in_range
    (recursion_from_All DoesAddUp (families_of b (tree plan)) adds))
