-- The rows that name a piece as their parent, among all rows of a plan, are those of the pieces that it is cut into.
use Rattle.std.proofs.Common.{◌≡◌, ◌≤◌, ◌<◌, ℕ, ◌+◌, ◌==◌, List, [], ◌∷◌, ◌++◌, length, Bool, true, false, not, ◌||◌, ◌&&◌, refl, sym, subst, ap, ◌∙◌, append-nil, arith, None}
use Rattle.std.specs.List.{AllByRecursion}
use Rattle.std.proofs.lemmas.Bool.Decides.{nat_tests, Decides-eqb}
use Rattle.glass_base.specs.Plates.{Width}
use Rattle.glass_base.specs.Problem.{Problem}
use Rattle.cut_model.specs.declared.plan.Plan.{Plan}
use Rattle.cut_model.specs.declared.family.Row.{Row}
use Rattle.cut_model.specs.declared.family.Sort.{Sort}
use Rattle.cut_model.specs.declared.family.Area.{Area}
use Rattle.cut_model.specs.Shape.{IsOfLevel, IsShaped}
use Rattle.cut_model.specs.Sized.{on_plates, sized}
use Rattle.cut_model.specs.Tree.{Forest, nothing, piece, count, tree, type_number, neighbour_count}
use Rattle.cut_model.specs.Families.{behind, first_plate, rows_of}
use Rattle.cut_model.specs.Parents.{is_number, rows_in, tops}
use Rattle.cut_model.proofs.Parents.{none_in, own_in}
use Rattle.cut_model.proofs.Shapes.{tree_shaped}
use Rattle.plan_csv.specs.PlanTexts.{names_branch, cell_refusal}
use Rattle.plan_csv.proofs.Told.{rows_at, place_in, rows_below, rows_past, rows_nothing, rows_piece, behind_next, hold_all}
use Rattle.plan_csv.proofs.Refusals.{same}
use Rattle.plan_csv.proofs.RowsBefore.{rows_in-append, none_past, IsElder}

-- of each of these pieces and of those inside them, the rows among all that name it as their parent are those of its own list
abbrev pub AllOwn : List Row → Area → Bool → ℕ → Forest → Type 0
AllOwn whole at first node nothing = Unit {0}
AllOwn whole at first node (piece size sort inner later) =
    (rows_in node whole ≡ tops (place_in at first node size sort inner later) true (node + 1) inner)
    × AllOwn whole (place_in at first node size sort inner later) true (node + 1) inner
    × AllOwn whole (behind at size) false (node + 1 + count inner) later

-- so it is where all rows that name one of their numbers are among their own
own_rows : (whole : List Row) (at : Area) (first : Bool) (node : ℕ) (forest : Forest) → IsElder node at →
    ((n : ℕ) → node ≤ n → n < node + count forest → rows_in n whole ≡ rows_in n (rows_at at first node forest)) →
    AllOwn whole at first node forest
own_rows whole at first node nothing elder among = tt
own_rows whole at first node (piece size sort inner later) elder among =
    let next : ℕ = node + 1 + count inner in
    let place : Area = place_in at first node size sort inner later in
    let below : List Row = rows_below at first node size sort inner later in
    let past : List Row = rows_past at node size inner later in
    let child : IsElder (node + 1) place = λ n le. grind (arith, nat_tests) in
    let behind_elder : IsElder node (behind at size) = λ n le. ap (is_number n) (behind_next at size).parent ∙ elder n le in
    let split : (n : ℕ) → node ≤ n → rows_in n (rows_at at first node (piece size sort inner later)) ≡ rows_in n below ++ rows_in n past =
    λ n le. rw (rows_piece at first node size sort inner later, elder n le) (rows_in-append n below past) in
    let own : rows_in node below ≡ tops place true (node + 1) inner = own_in node place true (node + 1) inner (same node node refl) (omega arith) in
    let none : rows_in node past ≡ [] = none_in node (behind at size) false next later (behind_elder node (omega arith)) (omega arith) in (
      among node (omega arith) (omega arith) ∙ split node (omega arith) ∙ rw (own, none) (append-nil (tops place true (node + 1) inner)),
      own_rows whole place true (node + 1) inner child
          (λ n le lt. among n (omega arith) (omega arith) ∙ split n (omega arith)
          ∙ rw (none_in n (behind at size) false next later (behind_elder n (omega arith)) (omega arith)) (append-nil (rows_in n below))),
      own_rows whole (behind at size) false next later (λ n le. behind_elder n (omega arith))
          (λ n le lt. among n (omega arith) (omega arith) ∙ split n (omega arith)
          ∙ rw (none_past n place true (node + 1) inner (child n (omega arith)) (omega arith)) refl),
    )

-- of each piece of a plan
pub plan_own : (b : Problem) (plan : Forest) → AllOwn (rows_of b plan) (first_plate b) true 0 (on_plates b plan)
plan_own b plan = own_rows (rows_of b plan) (first_plate b) true 0 (on_plates b plan) (λ n le. refl) (λ n le lt. refl)

-- there are as many rows in a list of neighbours as neighbours
length-tops : (at : Area) (first : Bool) (node : ℕ) (forest : Forest) → length (tops at first node forest) ≡ neighbour_count forest
unfolding tops
length-tops at first node nothing = refl
length-tops at first node (piece size sort inner later) = omega (arith, length-tops (behind at size) false (node + 1 + count inner) later)

-- a row that is no cell which is cut, or that two rows name as their parent
abbrev pub HasTwo : List Row → Row → Type 0
HasTwo whole r = (not ((r.cut == 3) && names_branch r.kind) || (length (rows_in r.node whole) == 2)) ≡ true

-- such rows are not refused
cells_pass : (whole : List Row) (row : ℕ) (rows : List Row) → AllByRecursion (HasTwo whole) rows → cell_refusal whole row rows ≡ None
cells_pass whole row [] h = refl
cells_pass whole row (r ∷ rows) h = rw (h.0) (cells_pass whole (row + 1) rows h.1)

-- what is not cut is no cell that is cut
not_cut : (b c : Bool) → (not (b && false) || c) ≡ true
not_cut true c = refl
not_cut false c = refl

-- only a cell has to have two
where_cell : (b c : Bool) → (b ≡ true → c ≡ true) → (not (b && true) || c) ≡ true
where_cell true c h = h refl
where_cell false c h = refl

-- a piece of its level is no cell which is cut, or has two pieces
two_inside : (level : ℕ) (sort : Sort) (inner : Forest) (n : ℕ) → IsOfLevel level sort inner → n ≡ neighbour_count inner → (not ((level == 3) && names_branch (type_number sort)) || (n == 2)) ≡ true
two_inside level (Sort.Item number) inner n h e = not_cut (level == 3) (n == 2)
two_inside level Sort.Waste inner n h e = not_cut (level == 3) (n == 2)
two_inside level Sort.Branch inner n h e = where_cell (level == 3) (n == 2) (λ cell. same n 2 (e ∙ h.two ((Decides-eqb level 3).0 cell)))
two_inside level Sort.Residual inner n h e = not_cut (level == 3) (n == 2)

-- the cells among a piece, the pieces inside it and those behind it have two leaves
two_of : (whole : List Row) (at : Area) (first : Bool) (node size : ℕ) (sort : Sort) (inner later : Forest) → IsOfLevel at.cut sort inner →
    rows_in node whole ≡ tops (place_in at first node size sort inner later) true (node + 1) inner →
    AllByRecursion (HasTwo whole) (rows_below at first node size sort inner later) → AllByRecursion (HasTwo whole) (rows_past at node size inner later) →
    AllByRecursion (HasTwo whole) (rows_at at first node (piece size sort inner later))
two_of whole at first node size sort inner later level own below past =
    let many : length (rows_in node whole) ≡ neighbour_count inner = ap length own ∙ length-tops (place_in at first node size sort inner later) true (node + 1) inner in
    hold_all (HasTwo whole) at first node size sort inner later
    (record { here = two_inside at.cut sort inner (length (rows_in node whole)) level many; below = below; past = past })

-- so have those of pieces with a plan's shape
all_two : (whole : List Row) (at : Area) (first : Bool) (node : ℕ) (forest : Forest) → IsShaped at.cut forest → AllOwn whole at first node forest → AllByRecursion (HasTwo whole) (rows_at at first node forest)
all_two whole at first node nothing shape own = rw (rows_nothing at first node) tt
all_two whole at first node (piece size sort inner later) shape own =
    two_of whole at first node size sort inner later shape.1 own.0
    (all_two whole (place_in at first node size sort inner later) true (node + 1) inner shape.2 own.1)
    (all_two whole (behind at size) false (node + 1 + count inner) later (subst (λ (level : ℕ). IsShaped level later) (sym (behind_next at size).cut) shape.3) own.2)

-- and those of its plates from this number on
plates_two : (whole : List Row) (b : Problem) (plate : ℕ) (at : Area) (first : Bool) (node : ℕ) (plan : Forest) → IsShaped at.cut plan → AllOwn whole at first node (sized b plate plan) →
    AllByRecursion (HasTwo whole) (rows_at at first node (sized b plate plan))
plates_two whole b plate at first node nothing shape own = rw (rows_nothing at first node) tt
plates_two whole b plate at first node (piece size sort inner plan) shape own =
    let wide : ℕ = Width b plate in
    let later : Forest = sized b (plate + 1) plan in
    two_of whole at first node wide sort inner later shape.1 own.0
    (all_two whole (place_in at first node wide sort inner later) true (node + 1) inner shape.2 own.1)
    (plates_two whole b (plate + 1) (behind at wide) false (node + 1 + count inner) plan (subst (λ (level : ℕ). IsShaped level plan) (sym (behind_next at wide).cut) shape.3) own.2)

-- no row of a plan is refused once all are read
pub plan_cells_accepted : (b : Problem) (plan : Plan) → cell_refusal (rows_of b (tree plan)) 2 (rows_of b (tree plan)) ≡ None
plan_cells_accepted b plan =
    cells_pass (rows_of b (tree plan)) 2 (rows_of b (tree plan))
    (plates_two (rows_of b (tree plan)) b 0 (first_plate b) true 0 (tree plan) (tree_shaped plan) (plan_own b (tree plan)))
