-- The plan that a solution text says, or its first refusal. Rows may have any node numbers that differ and come in any order in
-- which each follows its parent; the children of a piece are taken in the order of the text.
use Rattle.std.specs.Prelude.{◌≡◌, ◌≤◌, All, ◌==◌, ◌||◌, ◌&&◌, not, ◌+◌, ℕ, zero, suc, ℤ, List, [], ◌∷◌, ◌++◌, length, drop, find, nat_le, Bool, true, false, if◌then◌else◌, Option, Some, None, Result, Ok, Err}
use Rattle.std.specs.List.{list_any}
use Rattle.std.specs.Option.{option_or}
use Rattle.glass_base.specs.Plates.{Width}
use Rattle.glass_base.specs.Problem.{Problem}
use Rattle.cut_model.specs.declared.family.Along.{Along}
use Rattle.cut_model.specs.declared.family.Row.{Row}
use Rattle.cut_model.specs.declared.plan.Plan.{Plan}
use Rattle.cut_model.specs.Families.{side_along, rows_of}
use Rattle.cut_model.specs.Fits.{Fits}
use Rattle.cut_model.specs.Lawful.{plate_rows}
use Rattle.cut_model.specs.Loss.{names_residual}
use Rattle.cut_model.specs.Parents.{rows_in, sum_along}
use Rattle.cut_model.specs.Tree.{Forest, nothing, neighbours, tree, count, is_branch, sort_named}
use Rattle.csv_table.specs.Readings.{◌>>=◌}
use Rattle.csv_table.specs.Rows.{table_rows}
use Rattle.plan_csv.specs.declared.bad_plan.BadPlan.{BadPlan}
use Rattle.plan_csv.specs.declared.bad_plan.BadPlan.TheVariants as bad
use Rattle.plan_csv.specs.PlanRows.{row_in}
use Rattle.glass_base.specs.declared.limits.TheConstants.{MOST_SIDE}

-- a refusal, unless this holds
abbrev pub unless : Bool → BadPlan → Option BadPlan
unless true refusal = None
unless false refusal = Some refusal

-- the first refusal
abbrev pub first_refusal : List (Option BadPlan) → Option BadPlan
first_refusal [] = None
first_refusal (refusal ∷ later) = option_or refusal (first_refusal later)

-- how the pieces that a cut of this level makes lie
abbrev pub lies : ℕ → Along
lies zero = Along.Plates
lies (suc zero) = Along.X
lies (suc (suc zero)) = Along.Y
lies (suc (suc (suc zero))) = Along.X
lies (suc (suc (suc (suc _)))) = Along.Y

-- whether a type is that of a plate or a piece that is cut
abbrev pub names_branch : ℤ → Bool
names_branch kind = is_branch (sort_named kind)

-- why a plate is refused behind these rows
abbrev pub plate_refusal : Problem → ℕ → List Row → Row → Option BadPlan
plate_refusal b row before r =
    first_refusal (
    unless (r.plate == length (plate_rows before)) (bad.Level row 0)
    ∷ unless (names_branch r.kind) (bad.Kind row)
    ∷ unless (r.x == 0) (bad.Size row 3)
    ∷ unless (r.y == 0) (bad.Size row 4)
    ∷ unless (r.width == Width b r.plate) (bad.Size row 5)
    ∷ unless (r.height == b.params.height) (bad.Size row 6)
    ∷ [])

-- why the sides of a piece are refused, by how it lies: the parent fixes three of X, Y, WIDTH and HEIGHT, the pieces before it one
-- of these, and its size is what fits with theirs into 20,000 mm
abbrev pub side_refusal : ℕ → ℕ → Row → Row → Along → Option BadPlan
side_refusal row filled e r Along.Plates = None
side_refusal row filled e r Along.X =
    first_refusal (
    unless (r.x == e.x + filled) (bad.Size row 3)
    ∷ unless (r.y == e.y) (bad.Size row 4)
    ∷ unless (r.height == e.height) (bad.Size row 6)
    ∷ unless (nat_le (filled + r.width) MOST_SIDE) (bad.Size row 5)
    ∷ [])
side_refusal row filled e r Along.Y =
    first_refusal (
    unless (r.x == e.x) (bad.Size row 3)
    ∷ unless (r.y == e.y + filled) (bad.Size row 4)
    ∷ unless (r.width == e.width) (bad.Size row 5)
    ∷ unless (nat_le (filled + r.height) MOST_SIDE) (bad.Size row 6)
    ∷ [])

-- why a piece is refused whose parent is the row `e`, and whose neighbours before it fill so much of their parent
abbrev pub piece_refusal : ℕ → ℕ → Row → Row → Option BadPlan
piece_refusal row filled e r =
    first_refusal (
    unless (r.plate == e.plate) (bad.Parent row)
    ∷ unless (r.cut == e.cut + 1) (bad.Level row r.cut)
    ∷ unless (names_branch e.kind) (bad.Kind row)
    ∷ unless (not (names_residual r.kind) || (r.cut == 1)) (bad.Kind row)
    ∷ unless (not (names_branch r.kind) || not (r.cut == 4)) (bad.Kind row)
    ∷ side_refusal row filled e r (lies r.cut)
    ∷ [])

-- the sum of the sizes of the rows that are cut from a piece by a cut of this level
abbrev pub filled_by : ℕ → List Row → ℕ → ℕ
filled_by cut rows node = sum_along (lies cut) (rows_in node rows)

-- why a piece is refused that names this row as its parent
abbrev pub child_refusal : ℕ → List Row → Row → Option Row → Option BadPlan
child_refusal row before r None = Some (bad.Parent row)
child_refusal row before r (Some e) = piece_refusal row (filled_by r.cut before e.node) e r

-- why a row is refused behind these rows, by its level and its parent
abbrev pub place_refusal : Problem → ℕ → List Row → Row → ℕ → Option ℕ → Option BadPlan
place_refusal b row before r zero None = plate_refusal b row before r
place_refusal b row before r zero (Some _) = Some (bad.Parent row)
place_refusal b row before r (suc _) None = Some (bad.Parent row)
place_refusal b row before r (suc _) (Some parent) = child_refusal row before r (find (λ e. e.node == parent) before)

abbrev pub row_refusal : Problem → ℕ → List Row → Row → Option BadPlan
row_refusal b row before r =
    if list_any (λ e. e.node == r.node) before then Some (bad.Parent row) else place_refusal b row before r r.cut r.parent

-- nothing is refused
abbrev pub or_refusal : {A : Type 0} → A → Option BadPlan → Result A BadPlan
or_refusal x None = Ok x
or_refusal x (Some refusal) = Err refusal

-- rows behind these: the first refusal decides
abbrev pub rows_behind : Problem → ℕ → List Row → List (List (List ℕ)) → Result (List Row) BadPlan
rows_behind b row before [] = Ok before
rows_behind b row before (fields ∷ rest) =
    row_in row fields >>= λ r. or_refusal (before ++ r ∷ []) (row_refusal b row before r) >>= λ rows. rows_behind b (row + 1) rows rest

-- why one of these rows is refused once all are read: a piece of a 3-cut that is cut has two children
abbrev pub cell_refusal : List Row → ℕ → List Row → Option BadPlan
cell_refusal rows row [] = None
cell_refusal rows row (r ∷ later) =
    option_or (unless (not ((r.cut == 3) && names_branch r.kind) || (length (rows_in r.node rows) == 2)) (bad.Kind row))
    (cell_refusal rows (row + 1) later)

-- the rows of a text, the first record being skipped
abbrev pub rows_said : Problem → List ℕ → Result (List Row) BadPlan
rows_said b bytes = rows_behind b 2 [] (drop 1 (table_rows bytes)) >>= λ rows. or_refusal rows (cell_refusal rows 2 rows)

-- the pieces of these rows, with what is cut from them among all rows, down to this depth
abbrev pub grown : ℕ → List Row → List Row → Forest
grown zero rows = neighbours (λ r. side_along (lies r.cut) r) (λ r. sort_named r.kind) (λ r. nothing)
grown (suc depth) rows = neighbours (λ r. side_along (lies r.cut) r) (λ r. sort_named r.kind) (λ r. grown depth rows (rows_in r.node rows))

-- the tree of rows: their plates, and four levels of pieces
abbrev pub tree_of : List Row → Forest
tree_of rows = grown 4 rows (plate_rows rows)

-- the tree of the plan that a text says
abbrev pub plan_said : Problem → List ℕ → Result Forest BadPlan
plan_said b bytes = rows_said b bytes >>= λ rows. Ok (tree_of rows)

-- a plan was read exactly where the text says one, and it is this one; a text was refused exactly where and why its first refusal
-- says; memory may run out at any time
abbrev pub Reads : Result Plan BadPlan → Result Forest BadPlan → Type 0
Reads (Ok plan) said = said ≡ Ok (tree plan)
Reads (Err bad.Memory) said = Unit {0}
Reads (Err (bad.Record row fields)) said = said ≡ Err (bad.Record row fields)
Reads (Err (bad.Number row column)) said = said ≡ Err (bad.Number row column)
Reads (Err (bad.Parent row)) said = said ≡ Err (bad.Parent row)
Reads (Err (bad.Level row cut)) said = said ≡ Err (bad.Level row cut)
Reads (Err (bad.Size row column)) said = said ≡ Err (bad.Size row column)
Reads (Err (bad.Kind row)) said = said ≡ Err (bad.Kind row)

-- a row that begins within 20,000 mm of its plate's corner
abbrev pub IsWithin : Row → Type 0
IsWithin r = (r.x ≤ MOST_SIDE) × (r.y ≤ MOST_SIDE)

-- a plan whose text can be read again
pub record IsWritable (b : Problem) (plan : Forest) : Type 0 where
  pub fits : Fits plan
  pub within : All IsWithin (rows_of b plan)
  pub few : count plan ≤ 1000000000
