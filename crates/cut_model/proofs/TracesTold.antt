-- The steps of a trace tell of the rows of their items.
use Rattle.std.proofs.Common.{◌≡◌, ◌↔◌, ℕ, suc, ◌+◌, ◌≤◌, List, [], ◌∷◌, ◌++◌, Bool, true, false, refl, sym, ap, subst, ◌∙◌, add-one, arith, Option, Some, None}
use Rattle.std.specs.Prelude.{Contains, IfSome, option_and_then, unwrap_or}
use Rattle.std.specs.Option.{option_map_or}
use Rattle.std.specs.List.{AllByRecursion}
use Rattle.std.proofs.lemmas.Bool.Decides.{nat_tests}
use Rattle.std.proofs.lemmas.List.{map-append}
use Rattle.std.proofs.lemmas.List.Elements.{All-contains_itself, filter-append, recursion_from_All}
use Rattle.glass_base.specs.declared.item.Item.{Item}
use Rattle.glass_base.specs.Problem.{Problem}
use Rattle.glass_base.specs.Stacks.{stack_of}
use Rattle.cut_model.specs.declared.family.Area.{Area}
use Rattle.cut_model.specs.declared.family.Family.{Family}
use Rattle.cut_model.specs.declared.family.Row.{Row}
use Rattle.cut_model.specs.declared.family.Sort.{Sort}
use Rattle.cut_model.specs.declared.steps.Step.{Step}
use Rattle.cut_model.specs.Families.{behind, families, family_with, first_plate, inside, row_at, rows_of}
use Rattle.cut_model.specs.ItemSteps.{AreStepsOf, IsStepOf, TracesTellOfRows, item_rows}
use Rattle.cut_model.specs.Order.{item_named, item_with}
use Rattle.cut_model.specs.Parents.{is_item_kind}
use Rattle.cut_model.specs.Shape.{IsOfLevel, IsPlanShaped, IsShaped}
use Rattle.cut_model.specs.Sized.{on_plates, sized}
use Rattle.cut_model.specs.Traces.{Sides, enter, first_place, lift_behind, next_kind, outside, step_of, steps_in, turn_in}
use Rattle.cut_model.specs.Tree.{Forest, nothing, piece, children_in, count, is_nothing, type_number}
use Rattle.cut_model.proofs.Parents.{cut_behind, parent_behind, rows}
use Rattle.cut_model.proofs.StepKinds.{Around, CameTo, came_further, came_inside, came_item, came_out, has_kind, kind_below}
use Rattle.cut_model.proofs.StepLifts.{IsLift, lift_no_leaf, lift_no_waste, lift_told, lift_waste}
use Rattle.cut_model.proofs.StepRows.{AreKnown, all_left, all_right, are_known}
use Rattle.cut_model.proofs.StepSides.{AreSidesOf, IsPlaced, LieWithin, placed_behind, placed_inside, sides_entered}

-- the last of these rows, or the one before them
abbrev last_of : Option Row → List Row → Option Row
last_of before [] = before
last_of before (row ∷ later) = last_of (Some row) later

-- two lists that are put together
last-append : (before : Option Row) (xs ys : List Row) → last_of before (xs ++ ys) ≡ last_of (last_of before xs) ys
last-append before [] ys = refl
last-append before (x ∷ xs) ys = last-append (Some x) xs ys

steps-append : (b : Problem) (all : List Row) (before : Option Row) (xs ys : List Row) (steps more : List Step) →
    AreStepsOf b all before xs steps → AreStepsOf b all (last_of before xs) ys more → AreStepsOf b all before (xs ++ ys) (steps ++ more)
steps-append b all before [] ys [] more h k = k
steps-append b all before [] ys (s ∷ steps) more h k = absurd h
steps-append b all before (x ∷ xs) ys [] more h k = absurd h
steps-append b all before (x ∷ xs) ys (s ∷ steps) more h k = (h.0, steps-append b all (Some x) xs ys steps more h.1 k)

-- how the kind goes on behind steps
pub next_same : (steps : List Step) (level : ℕ) → next_kind steps level level ≡ level
next_same [] level = refl
next_same (s ∷ later) level = refl

pub next_append : (xs ys : List Step) (kind level : ℕ) → next_kind (xs ++ ys) kind level ≡ next_kind ys (next_kind xs kind level) level
next_append [] ys kind level = refl
next_append (x ∷ xs) ys kind level = sym (next_same ys level)

-- the item rows of two lists of families
items-append : (xs ys : List Family) → item_rows (rows (xs ++ ys)) ≡ item_rows (rows xs) ++ item_rows (rows ys)
items-append xs ys = ap item_rows (map-append (λ (f : Family). f.row) xs ys) ∙ filter-append (λ (r : Row). is_item_kind r.kind) (rows xs) (rows ys)

-- the shape of pieces, whatever the sizes of plates
abbrev AreOfLevels : ℕ → Forest → Type 0
AreOfLevels level nothing = Unit {0}
AreOfLevels level (piece size sort inner later) = IsOfLevel level sort inner × AreOfLevels (suc level) inner × AreOfLevels level later

of_levels : (level : ℕ) (forest : Forest) → IsShaped level forest → AreOfLevels level forest
of_levels level nothing shape = tt
of_levels level (piece size sort inner later) shape =
    (shape.1, of_levels (suc level) inner (subst (λ (n : ℕ). IsShaped n inner) (add-one level) shape.2), of_levels level later shape.3)

sized_levels : (b : Problem) (plate : ℕ) (plan : Forest) → IsPlanShaped plan → AreOfLevels 0 (sized b plate plan)
sized_levels b plate nothing shape = tt
sized_levels b plate (piece size sort inner later) shape = (shape.1, of_levels 1 inner shape.2, sized_levels b (plate + 1) later shape.3)

-- what is known where a list goes on
record IsAt (all outer : List Row) (level : ℕ) (at : Area) (node : ℕ) (r : Sides) (from kind lift : ℕ) (before : Option Row) : Type 0 where
  cut : at.cut ≡ level
  place : IsPlaced level at r from
  around : Around all level at.parent outer
  within : LieWithin all r outer
  came : CameTo all outer level node kind before
  lifted : IsLift all node at.parent lift

-- behind a piece
at_behind : (all outer : List Row) (level : ℕ) (at : Area) (node more size : ℕ) (r : Sides) (from kind lift then next_lift : ℕ) (before last : Option Row) →
    IsAt all outer level at node r from kind lift before → CameTo all outer level more then last → IsLift all more at.parent next_lift →
    IsAt all outer level (behind at size) more r (from + size) then next_lift last
at_behind all outer level at node more size r from kind lift then next_lift before last h came lifted =
    let parent : at.parent ≡ (behind at size).parent = sym (parent_behind at at.along size) in
    record {
      cut = cut_behind at.along at size ∙ h.cut;
      place = placed_behind level at size r from h.place;
      around = subst (λ (p : Option ℕ). Around all level p outer) parent h.around;
      within = h.within;
      came = came;
      lifted = subst (λ (p : Option ℕ). IsLift all more p next_lift) parent lifted;
    }

-- inside a piece that is cut
at_inside : (all outer : List Row) (level : ℕ) (at : Area) (node : ℕ) (r : Sides) (from kind lift size : ℕ) (before : Option Row) (first : Bool) (inner later : Forest) →
    let f : Family = family_with at first (is_nothing later) node size Sort.Branch (children_in inner) in
    let sides : Sides = enter level r from size in
    AreKnown all → Contains all f.row → level ≤ 3 → IsAt all outer level at node r from kind lift before →
    IsAt all (f.row ∷ outer) (suc level) (inside f) (node + 1) sides (first_place (suc level) sides) kind 0 before
at_inside all outer level at node r from kind lift size before first inner later numbers known le h =
    let f : Family = family_with at first (is_nothing later) node size Sort.Branch (children_in inner) in
    record {
      cut = omega (arith, h.cut);
      place = placed_inside level at f node size Sort.Branch r from le refl refl h.place;
      around = (known, refl, h.cut, h.around);
      within = sides_entered all outer level at node size Sort.Branch r from (omega (arith, le)) h.cut h.place h.around h.within;
      came = came_inside all outer level node kind f.row before h.cut refl h.came;
      lifted = lift_no_waste all f.row (node + 1) (Some node) numbers known refl (λ e. cc);
    }

-- what a step says of its item's stack and turn
stack_told : (found : Option Item) (stack : Item → Option ℕ) (item : Item) → found ≡ Some item → IfSome (stack item) (λ number. unwrap_or (option_and_then stack found) 0 ≡ number)
stack_told found stack item is = rw is (by (stack item))
  where
    by : (o : Option ℕ) → IfSome o (λ number. unwrap_or o 0 ≡ number)
    by None = tt
    by (Some number) = refl

turn_told : (found : Option Item) (r : Sides) (width : ℕ) (item : Item) → found ≡ Some item → r.width ≡ width →
    (option_map_or (turn_in r) found 0 ≤ 1) × ((option_map_or (turn_in r) found 0 ≡ 0) ↔ (width ≡ item.length))
turn_told found r width item is same = rw is (grind (arith, nat_tests), (λ h. grind (arith, nat_tests), λ h. grind (arith, nat_tests)))

-- the item that a row names
item_is : (number other : ℕ) (items : List Item) (item : Item) → item_named (type_number (Sort.Item number)) ≡ Some other → item_with items other ≡ Some item → item_with items number ≡ Some item
item_is number other items item e h =
    let same : number ≡ other = cc in ap (item_with items) same ∙ h

-- the step of an item
item_told : (b : Problem) (all outer : List Row) (level : ℕ) (at : Area) (node : ℕ) (r : Sides) (from kind lift size number : ℕ) (before : Option Row) → level ≤ 4 →
    IsAt all outer level at node r from kind lift before → IsStepOf b all before (row_at at node size (Sort.Item number)) (step_of b (enter level r from size) kind lift number)
item_told b all outer level at node r from kind lift size number before le h =
    let row : Row = row_at at node size (Sort.Item number) in
    let room : Sides = enter level r from size in
    let sides : AreSidesOf all room row = sides_entered all outer level at node size (Sort.Item number) r from le h.cut h.place h.around h.within in
    record {
      stack = λ item other named found. stack_told (item_with b.items number) (stack_of b.items) item (item_is number other b.items item named found);
      turn = λ item other named found. turn_told (item_with b.items number) room row.width item (item_is number other b.items item named found) sides.width;
      kind = has_kind all outer level node kind row before h.cut refl h.around h.came;
      lift = lift_told all row lift h.lifted;
      strip = sides.strip;
      band = sides.band;
      cell = sides.cell;
    }

-- these steps tell of these rows, and this is known where the list ends
record AreTold (b : Problem) (all outer : List Row) (level node kind : ℕ) (before : Option Row) (items : List Row) (steps : List Step) : Type 0 where
  each : AreStepsOf b all before items steps
  came : CameTo all outer level node (next_kind steps kind level) (last_of before items)

-- so do those of an item before others
told_item : (b : Problem) (all outer : List Row) (level node more kind : ℕ) (before : Option Row) (row : Row) (s : Step) (items : List Row) (steps : List Step) → node ≤ more →
    IsStepOf b all before row s → AreTold b all outer level node level (Some row) items steps → AreTold b all outer level more kind before (row ∷ items) (s ∷ steps)
told_item b all outer level node more kind before row s items steps le h k = record {
  each = (h, k.each);
  came = came_further all outer level node more level (last_of (Some row) items) le (subst (λ (n : ℕ). CameTo all outer level node n (last_of (Some row) items)) (next_same steps level) k.came);
}

-- those behind a piece
told_further : (b : Problem) (all outer : List Row) (level node more kind : ℕ) (before : Option Row) (items : List Row) (steps : List Step) → node ≤ more →
    AreTold b all outer level node kind before items steps → AreTold b all outer level more kind before items steps
told_further b all outer level node more kind before items steps le k = record {
  each = k.each;
  came = came_further all outer level node more (next_kind steps kind level) (last_of before items) le k.came;
}

-- those inside a piece before those behind it
told_both : (b : Problem) (all outer : List Row) (level node more kind : ℕ) (before : Option Row) (xs ys : List Row) (steps later : List Step) → node ≤ more →
    AreStepsOf b all before xs steps → AreTold b all outer level node (next_kind steps kind level) (last_of before xs) ys later → AreTold b all outer level more kind before (xs ++ ys) (steps ++ later)
told_both b all outer level node more kind before xs ys steps later le h k = record {
  each = steps-append b all before xs ys steps later h k.each;
  came = came_further all outer level node more (next_kind (steps ++ later) kind level) (last_of before (xs ++ ys)) le
      (subst (λ (o : Option Row). CameTo all outer level node (next_kind (steps ++ later) kind level) o) (sym (last-append before xs ys))
      (subst (λ (n : ℕ). CameTo all outer level node n (last_of (last_of before xs) ys)) (sym (next_append steps later kind level)) k.came));
}

-- the pieces of a list
all_told : (b : Problem) (all outer : List Row) (level : ℕ) (at : Area) (first : Bool) (node : ℕ) (r : Sides) (from kind lift : ℕ) (before : Option Row) (forest : Forest) →
    AreKnown all → AllByRecursion (Contains all) (rows (families at first node forest)) → AreOfLevels level forest → IsAt all outer level at node r from kind lift before →
    AreTold b all outer level (node + count forest) kind before (item_rows (rows (families at first node forest))) (steps_in b level r from kind lift forest)
unfolding families
all_told b all outer level at first node r from kind lift before nothing numbers known shape h =
    record { each = tt; came = came_further all outer level node (node + 0) kind before (omega arith) h.came }
all_told b all outer level at first node r from kind lift before (piece size (Sort.Item number) (piece n s i l) later) numbers known shape h = let bad = shape.0.empty in cc
all_told b all outer level at first node r from kind lift before (piece size Sort.Waste (piece n s i l) later) numbers known shape h = let bad = shape.0.empty in cc
all_told b all outer level at first node r from kind lift before (piece size Sort.Residual (piece n s i l) later) numbers known shape h = let bad = shape.0.empty in cc
all_told b all outer level at first node r from kind lift before (piece size (Sort.Item number) nothing later) numbers known shape h =
    let row : Row = row_at at node size (Sort.Item number) in
    let next : ℕ = node + 1 + count nothing in
    told_item b all outer level (next + count later) (node + count (piece size (Sort.Item number) nothing later)) kind before row (step_of b (enter level r from size) kind lift number)
    (item_rows (rows (families (behind at size) false next later))) (steps_in b level r (from + size) level 0 later) (omega arith)
    (item_told b all outer level at node r from kind lift size number before shape.0.shallow h)
    (all_told b all outer level (behind at size) false next r (from + size) level 0 (Some row) later numbers known.1 shape.2
    (at_behind all outer level at node next size r from kind lift level 0 before (Some row) h (came_item all outer level next row known.0 h.cut (omega arith) h.around)
    (lift_no_waste all row next at.parent numbers known.0 (omega arith) (λ e. cc))))
all_told b all outer level at first node r from kind lift before (piece size Sort.Waste nothing later) numbers known shape h =
    let row : Row = row_at at node size Sort.Waste in
    let next : ℕ = node + 1 + count nothing in
    told_further b all outer level (next + count later) (node + count (piece size Sort.Waste nothing later)) kind before
    (item_rows (rows (families (behind at size) false next later))) (steps_in b level r (from + size) kind (lift_behind level Sort.Waste) later) (omega arith)
    (all_told b all outer level (behind at size) false next r (from + size) kind (lift_behind level Sort.Waste) before later numbers known.1 shape.2
    (at_behind all outer level at node next size r from kind lift kind (lift_behind level Sort.Waste) before before h (came_further all outer level node next kind before (omega arith) h.came)
    (lift_waste all level row next numbers known.0 (omega arith) refl h.cut shape.0.shallow)))
all_told b all outer level at first node r from kind lift before (piece size Sort.Residual nothing later) numbers known shape h =
    let row : Row = row_at at node size Sort.Residual in
    let next : ℕ = node + 1 + count nothing in
    let strip : lift_behind level Sort.Residual ≡ 0 = ap (λ (n : ℕ). lift_behind n Sort.Residual) shape.0.strip in
    told_further b all outer level (next + count later) (node + count (piece size Sort.Residual nothing later)) kind before
    (item_rows (rows (families (behind at size) false next later))) (steps_in b level r (from + size) kind (lift_behind level Sort.Residual) later) (omega arith)
    (all_told b all outer level (behind at size) false next r (from + size) kind (lift_behind level Sort.Residual) before later numbers known.1 shape.2
    (at_behind all outer level at node next size r from kind lift kind (lift_behind level Sort.Residual) before before h (came_further all outer level node next kind before (omega arith) h.came)
    (subst (λ (n : ℕ). IsLift all next at.parent n) (sym strip) (lift_no_waste all row next at.parent numbers known.0 (omega arith) (λ e. cc)))))
all_told b all outer level at first node r from kind lift before (piece size Sort.Branch inner later) numbers known shape h =
    let f : Family = family_with at first (is_nothing later) node size Sort.Branch (children_in inner) in
    let next : ℕ = node + 1 + count inner in
    let sides : Sides = enter level r from size in
    let here : List Step = steps_in b (suc level) sides (first_place (suc level) sides) kind 0 inner in
    let then : ℕ = next_kind here kind level in
    let below : List Family = families (inside f) true (node + 1) inner in
    let after : List Family = families (behind at size) false next later in
    let known_all : AllByRecursion (Contains all) (rows below ++ rows after) = subst (λ (l : List Row). AllByRecursion (Contains all) l) (map-append (λ (g : Family). g.row) below after) known.1 in
    let x : AreTold b all (f.row ∷ outer) (suc level) next kind before (item_rows (rows below)) here =
    all_told b all (f.row ∷ outer) (suc level) (inside f) true (node + 1) sides (first_place (suc level) sides) kind 0 before inner numbers (all_left (Contains all) (rows below) (rows after) known_all) shape.1
    (at_inside all outer level at node r from kind lift size before first inner later numbers known.0 shape.0.shallow h) in
    let last : Option Row = last_of before (item_rows (rows below)) in
    rw (items-append below after)
    (told_both b all outer level (next + count later) (node + count (piece size Sort.Branch inner later)) kind before (item_rows (rows below)) (item_rows (rows after)) here
    (steps_in b level r (from + size) then 0 later) (omega arith) x.each
    (all_told b all outer level (behind at size) false next r (from + size) then 0 last later numbers (all_right (Contains all) (rows below) (rows after) known_all) shape.2
    (at_behind all outer level at node next size r from kind lift then 0 before last h
    (came_out all outer level next kind f.row here last h.cut (omega arith) (kind_below all outer level node kind before h.came) h.around x.came)
    (lift_no_leaf all f.row next numbers known.0 (omega (arith, h.cut, shape.0.shallow))))))

-- the steps of a plan
pub traces_told : TracesTellOfRows
traces_told b plan shape =
    let all : List Row = rows_of b plan in
    (all_told b all [] 0 (first_plate b) true 0 (outside b) 0 0 0 None (on_plates b plan) (are_known b plan) (recursion_from_All (Contains all) all (All-contains_itself all)) (sized_levels b 0 plan shape)
    (record {
      cut = refl;
      place = (refl, refl, refl, omega arith);
      around = tt;
      within = tt;
      came = refl;
      lifted = record { small = omega arith; lies = (λ e. absurd (omega (arith, e)), λ h. absurd (omega (arith, h.before))) };
    })).each
