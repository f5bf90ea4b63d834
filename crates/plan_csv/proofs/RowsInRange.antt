-- The numbers of a plan's rows are in the ranges of their columns.
use Rattle.std.proofs.Common.{◌≤◌, ℕ, ◌+◌, Bool, true, false, sym, subst, arith, All}
use Rattle.std.specs.List.{AllByRecursion}
use Rattle.std.proofs.lemmas.List.Elements.{All-from_recursion, recursion_from_All}
use Rattle.glass_base.specs.Plates.{Width}
use Rattle.glass_base.specs.Problem.{Problem, IsProblem}
use Rattle.glass_base.proofs.PlateLemmas.{width_within}
use Rattle.cut_model.specs.declared.plan.Plan.{Plan}
use Rattle.cut_model.specs.declared.family.Sort.{Sort}
use Rattle.cut_model.specs.declared.family.Along.{Along}
use Rattle.cut_model.specs.declared.family.Area.{Area}
use Rattle.cut_model.specs.Shape.{IsOfLevel, IsShaped}
use Rattle.cut_model.specs.Sized.{sized}
use Rattle.cut_model.specs.Tree.{Forest, nothing, piece, count, tree, type_number}
use Rattle.cut_model.specs.Families.{behind, row_at, first_plate, rows_of, width_at, height_at}
use Rattle.cut_model.specs.Fits.{InRange, IsNumbered}
use Rattle.cut_model.proofs.Walks.{behind_plate}
use Rattle.plan_csv.specs.PlanTexts.{IsWithin, IsWritable}
use Rattle.cut_model.proofs.Shapes.{tree_shaped}
use Rattle.plan_csv.proofs.Told.{rows_at, place_in, rows_nothing, behind_next, hold_all, all_hold}
use Rattle.plan_csv.proofs.WrittenNumbers.{IsParent, IsRowInRange, IsType}
use Rattle.glass_base.specs.declared.limits.TheConstants.{MOST_NUMBER, MOST_SIDE}

-- the type of a sort whose item number is in range
kind_in_range : (sort : Sort) → IsNumbered sort → IsType (type_number sort)
kind_in_range (Sort.Item number) h = h
kind_in_range Sort.Waste h = omega arith
kind_in_range Sort.Branch h = omega arith
kind_in_range Sort.Residual h = omega arith

-- there are four levels of cuts
level_in_range : (level : ℕ) (sort : Sort) (inner : Forest) → IsOfLevel level sort inner → level ≤ 4
level_in_range level (Sort.Item number) inner h = h.shallow
level_in_range level Sort.Waste inner h = h.shallow
level_in_range level Sort.Branch inner h = omega (arith, h.shallow)
level_in_range level Sort.Residual inner h = omega (arith, h.strip)

-- the width of a piece is at most as long as its size and its place allow
width_in_range : (along : Along) (size width : ℕ) → size ≤ MOST_SIDE → width ≤ MOST_SIDE → width_at along size width ≤ MOST_SIDE
width_in_range Along.Plates size width a b = a
width_in_range Along.X size width a b = a
width_in_range Along.Y size width a b = b

-- so is its height
height_in_range : (along : Along) (size height : ℕ) → size ≤ MOST_SIDE → height ≤ MOST_SIDE → height_at along size height ≤ MOST_SIDE
height_in_range Along.Plates size height a b = b
height_in_range Along.X size height a b = b
height_in_range Along.Y size height a b = a

-- a place from this node number on whose numbers are in range
record IsPlaceInRange (node : ℕ) (at : Area) : Type 0 where
  plate : at.plate ≤ node
  width : at.width ≤ MOST_SIDE
  height : at.height ≤ MOST_SIDE
  parent : IsParent at.parent

-- the row of a piece there is in range
row_in_range : (at : Area) (node size : ℕ) (sort : Sort) (inner : Forest) →
    IsPlaceInRange node at → IsOfLevel at.cut sort inner → size ≤ MOST_SIDE → IsNumbered sort → node ≤ MOST_NUMBER → IsWithin (row_at at node size sort) →
    IsRowInRange (row_at at node size sort)
row_in_range at node size sort inner h level small numbered few within = record {
  plate = omega (arith, h.plate, few);
  node = few;
  x = within.0;
  y = within.1;
  width = width_in_range at.along size at.width small h.width;
  height = height_in_range at.along size at.height small h.height;
  kind = kind_in_range sort numbered;
  cut = level_in_range at.cut sort inner level;
  parent = h.parent;
}

-- the place of the first piece inside a piece
inside_in_range : (at : Area) (first : Bool) (node size : ℕ) (sort : Sort) (inner later : Forest) → IsPlaceInRange node at → size ≤ MOST_SIDE → node ≤ MOST_NUMBER →
    IsPlaceInRange (node + 1) (place_in at first node size sort inner later)
inside_in_range at first node size sort inner later h small few = record {
  plate = omega (arith, h.plate);
  width = width_in_range at.along size at.width small h.width;
  height = height_in_range at.along size at.height small h.height;
  parent = few;
}

-- the place behind a piece
behind_in_range : (at : Area) (node size : ℕ) (inner : Forest) → IsPlaceInRange node at → IsPlaceInRange (node + 1 + count inner) (behind at size)
behind_in_range at node size inner h =
    let next = behind_next at size in
    record {
      plate = omega (arith, h.plate, behind_plate at at.along size);
      width = omega (arith, next.width, h.width);
      height = omega (arith, next.height, h.height);
      parent = subst IsParent (sym next.parent) h.parent;
    }

-- so are those of all pieces from there on that begin within their plate, where there are few enough
rows_in_range : (at : Area) (first : Bool) (node : ℕ) (forest : Forest) →
    IsPlaceInRange node at → IsShaped at.cut forest → InRange forest → node + count forest ≤ 1000000000 →
    AllByRecursion IsWithin (rows_at at first node forest) → AllByRecursion IsRowInRange (rows_at at first node forest)
rows_in_range at first node nothing h shape range few within = rw (rows_nothing at first node) tt
rows_in_range at first node (piece size sort inner later) h shape range few within =
    let parts = all_hold IsWithin at first node size sort inner later within in
    hold_all IsRowInRange at first node size sort inner later
    (record {
      here = row_in_range at node size sort inner h shape.1 range.0 range.1 (omega (arith, few)) parts.here;
      below = rows_in_range (place_in at first node size sort inner later) true (node + 1) inner
          (inside_in_range at first node size sort inner later h range.0 (omega (arith, few))) shape.2 range.3 (omega (arith, few)) parts.below;
      past = rows_in_range (behind at size) false (node + 1 + count inner) later (behind_in_range at node size inner h)
          (subst (λ (level : ℕ). IsShaped level later) (sym (behind_next at size).cut) shape.3) range.4 (omega (arith, few)) parts.past;
    })

-- and those of plates from this number on
plates_in_range : (b : Problem) (plate : ℕ) (at : Area) (first : Bool) (node : ℕ) (plan : Forest) → IsProblem b →
    IsPlaceInRange node at → IsShaped at.cut plan → InRange plan → node + count plan ≤ 1000000000 →
    AllByRecursion IsWithin (rows_at at first node (sized b plate plan)) → AllByRecursion IsRowInRange (rows_at at first node (sized b plate plan))
plates_in_range b plate at first node nothing rules h shape range few within = rw (rows_nothing at first node) tt
plates_in_range b plate at first node (piece size sort inner plan) rules h shape range few within =
    let wide : ℕ = Width b plate in
    let later : Forest = sized b (plate + 1) plan in
    let parts = all_hold IsWithin at first node wide sort inner later within in
    let small : wide ≤ MOST_SIDE = (width_within b plate rules).1 in
    hold_all IsRowInRange at first node wide sort inner later
    (record {
      here = row_in_range at node wide sort inner h shape.1 small range.1 (omega (arith, few)) parts.here;
      below = rows_in_range (place_in at first node wide sort inner later) true (node + 1) inner
          (inside_in_range at first node wide sort inner later h small (omega (arith, few))) shape.2 range.3 (omega (arith, few)) parts.below;
      past = plates_in_range b (plate + 1) (behind at wide) false (node + 1 + count inner) plan rules (behind_in_range at node wide inner h)
          (subst (λ (level : ℕ). IsShaped level plan) (sym (behind_next at wide).cut) shape.3) range.4 (omega (arith, few)) parts.past;
    })

-- each row of a writable plan is in range
pub plan_rows_in_range : (b : Problem) (plan : Plan) → IsProblem b → IsWritable b (tree plan) → All IsRowInRange (rows_of b (tree plan))
plan_rows_in_range b plan rules h =
    let start : IsPlaceInRange 0 (first_plate b) =
    record { plate = omega arith; width = omega arith; height = b.params.accepted.height_limit; parent = tt } in
    All-from_recursion IsRowInRange (rows_of b (tree plan))
    (plates_in_range b 0 (first_plate b) true 0 (tree plan) rules start (tree_shaped plan) h.fits.in_range (omega (arith, h.few))
    (recursion_from_All IsWithin (rows_of b (tree plan)) h.within))
