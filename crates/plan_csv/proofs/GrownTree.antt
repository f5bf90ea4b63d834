-- The tree that a plan's rows say is the plan's own.
use Rattle.std.proofs.Common.{◌≡◌, ◌≤◌, ℕ, zero, suc, ◌+◌, List, [], ◌∷◌, Bool, true, false, refl, sym, subst, ap, ◌∙◌, arith}
use Rattle.glass_base.specs.Plates.{Width}
use Rattle.glass_base.specs.Problem.{Problem}
use Rattle.cut_model.specs.declared.plan.Plan.{Plan}
use Rattle.cut_model.specs.declared.family.Row.{Row}
use Rattle.cut_model.specs.declared.family.Sort.{Sort}
use Rattle.cut_model.specs.declared.family.Along.{Along}
use Rattle.cut_model.specs.declared.family.Area.{Area}
use Rattle.cut_model.specs.Shape.{IsOfLevel, IsShaped}
use Rattle.cut_model.specs.Sized.{on_plates, sized}
use Rattle.cut_model.specs.Tree.{Forest, nothing, piece, count, tree, type_number, sort_named}
use Rattle.cut_model.specs.Families.{behind, row_at, first_plate, rows_of, side_along}
use Rattle.cut_model.specs.Parents.{rows_in, tops}
use Rattle.plan_csv.specs.PlanTexts.{lies, grown, tree_of}
use Rattle.cut_model.proofs.Shapes.{tree_shaped}
use Rattle.plan_csv.proofs.Told.{place_in, behind_next}
use Rattle.plan_csv.proofs.PlateRows.{own_plates}
use Rattle.plan_csv.proofs.RowsBefore.{inside_lies, side_is}
use Rattle.plan_csv.proofs.OwnRows.{AllOwn, plan_own}

-- a type names the sort that it is the number of
sort_again : (sort : Sort) → sort_named (type_number sort) ≡ sort
sort_again (Sort.Item number) = refl
sort_again Sort.Waste = refl
sort_again Sort.Branch = refl
sort_again Sort.Residual = refl

-- only plates lie apart
lies_plates : (level : ℕ) → lies level ≡ Along.Plates → level ≡ 0
lies_plates zero e = refl
lies_plates (suc zero) e = cc
lies_plates (suc (suc zero)) e = cc
lies_plates (suc (suc (suc zero))) e = cc
lies_plates (suc (suc (suc (suc n)))) e = cc

-- what is grown inside a row, down to this depth
abbrev grown_inside : ℕ → List Row → Row → Forest
grown_inside zero whole r = nothing
grown_inside (suc depth) whole r = grown depth whole (rows_in r.node whole)

-- nothing grows of no row
grown_nothing : (depth : ℕ) (whole : List Row) → grown depth whole [] ≡ nothing
grown_nothing zero whole = refl
grown_nothing (suc depth) whole = refl

-- the first row is a piece, and the rows behind it are those behind it
grown_row : (depth : ℕ) (whole : List Row) (r : Row) (rows : List Row) → grown depth whole (r ∷ rows) ≡ piece (side_along (lies r.cut) r) (sort_named r.kind) (grown_inside depth whole r) (grown depth whole rows)
grown_row zero whole r rows = refl
grown_row (suc depth) whole r rows = refl

-- a leaf has nothing inside
leaf_empty : (level : ℕ) (sort : Sort) (inner : Forest) → 4 ≤ level → IsOfLevel level sort inner → inner ≡ nothing
leaf_empty level (Sort.Item number) inner le h = h.empty
leaf_empty level Sort.Waste inner le h = h.empty
leaf_empty level Sort.Branch inner le h = absurd (omega (arith, le, h.shallow))
leaf_empty level Sort.Residual inner le h = h.empty

-- what is grown inside a row is what is inside its piece, where that holds of the next level
grown_inside_is : (depth : ℕ) (whole : List Row) (at place : Area) (node size : ℕ) (sort : Sort) (inner : Forest) →
    rows_in node whole ≡ tops place true (node + 1) inner → at.cut + depth ≡ 4 → IsOfLevel at.cut sort inner →
    ((d : ℕ) → at.cut + 1 + d ≡ 4 → grown d whole (tops place true (node + 1) inner) ≡ inner) →
    grown_inside depth whole (row_at at node size sort) ≡ inner
grown_inside_is zero whole at place node size sort inner own deep level more = sym (leaf_empty at.cut sort inner (omega (arith, deep)) level)
grown_inside_is (suc depth) whole at place node size sort inner own deep level more = ap (grown depth whole) own ∙ more depth (omega (arith, deep))

-- the rows of a list of neighbours grow into it again
grown_again : (whole : List Row) (depth : ℕ) (at : Area) (first : Bool) (node : ℕ) (forest : Forest) →
    at.along ≡ lies at.cut → at.cut + depth ≡ 4 → IsShaped at.cut forest → AllOwn whole at first node forest →
    grown depth whole (tops at first node forest) ≡ forest
unfolding tops
grown_again whole depth at first node nothing lie deep shape own = grown_nothing depth whole
grown_again whole depth at first node (piece size sort inner later) lie deep shape own =
    let r : Row = row_at at node size sort in
    let place : Area = place_in at first node size sort inner later in
    let next = behind_next at size in
    let side : side_along (lies at.cut) r ≡ size = side_is at node size sort (lies at.cut) lie (λ plates. shape.0 (lies_plates at.cut plates)) in
    let inside : grown_inside depth whole r ≡ inner =
    grown_inside_is depth whole at place node size sort inner own.0 deep shape.1
    (λ d e. grown_again whole d place true (node + 1) inner (inside_lies at.along at.cut lie (omega (arith, e))) e shape.2 own.1) in
    let rest : grown depth whole (tops (behind at size) false (node + 1 + count inner) later) ≡ later =
    grown_again whole depth (behind at size) false (node + 1 + count inner) later
    (next.along ∙ lie ∙ ap lies (sym next.cut)) (omega (arith, deep, next.cut))
    (subst (λ (level : ℕ). IsShaped level later) (sym next.cut) shape.3) own.2 in
    grown_row depth whole r (tops (behind at size) false (node + 1 + count inner) later)
    ∙ rw (side, sort_again sort, inside, rest) refl

-- the rows of plates from this number on grow into the plates of the plan, which have no size of their own
plates_grown : (whole : List Row) (b : Problem) (plate : ℕ) (at : Area) (first : Bool) (node : ℕ) (plan : Forest) →
    at.along ≡ Along.Plates → at.cut ≡ 0 → IsShaped 0 plan → AllOwn whole at first node (sized b plate plan) →
    grown 4 whole (tops at first node (sized b plate plan)) ≡ plan
unfolding tops
plates_grown whole b plate at first node nothing lie level shape own = refl
plates_grown whole b plate at first node (piece size sort inner plan) lie level shape own =
    let wide : ℕ = Width b plate in
    let later : Forest = sized b (plate + 1) plan in
    let r : Row = row_at at node wide sort in
    let place : Area = place_in at first node wide sort inner later in
    let next = behind_next at wide in
    let below : place.cut ≡ 1 = omega (arith, level) in
    let side : side_along (lies at.cut) r ≡ size = ap (λ n. side_along (lies n) r) level ∙ sym (shape.0 refl) in
    let inside : grown 3 whole (rows_in node whole) ≡ inner =
    ap (grown 3 whole) own.0
    ∙ grown_again whole 3 place true (node + 1) inner (inside_lies at.along at.cut (lie ∙ ap lies (sym level)) (omega (arith, level))) (omega (arith, below))
    (subst (λ (n : ℕ). IsShaped n inner) (sym below) shape.2) own.1 in
    let rest : grown 4 whole (tops (behind at wide) false (node + 1 + count inner) later) ≡ plan =
    plates_grown whole b (plate + 1) (behind at wide) false (node + 1 + count inner) plan (next.along ∙ lie) (next.cut ∙ level) shape.3 own.2 in
    rw (side, sort_again sort, inside, rest) refl

-- the tree of a plan's rows is the plan
pub plan_grown : (b : Problem) (plan : Plan) → tree_of (rows_of b (tree plan)) ≡ tree plan
plan_grown b plan =
    let rows : List Row = rows_of b (tree plan) in
    ap (grown 4 rows) (own_plates (first_plate b) true 0 (on_plates b (tree plan)) refl)
    ∙ plates_grown rows b 0 (first_plate b) true 0 (tree plan) refl refl (tree_shaped plan) (plan_own b (tree plan))
