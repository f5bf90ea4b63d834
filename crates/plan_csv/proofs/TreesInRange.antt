-- The tree of rows that were accepted is in range and has few pieces.
use Rattle.std.proofs.Common.{◌≡◌, ◌<◌, ◌≤◌, ◌+◌, ◌==◌, ◌++◌, ℕ, zero, suc, List, [], ◌∷◌, All, cond, drop, get_or, length, length-append, length-drop, Bool, true, false, Option, Some, None, refl, ap, subst, arith}
use Rattle.std.proofs.lemmas.List.Elements.{All-filter, All-head, All-tail, All-weaker}
use Rattle.std.specs.Prelude.{ℤ, pos, negsuc, Ok}
use Rattle.csv.specs.Machine.{Read, next_record}
use Rattle.csv.specs.Reading.{is_bom, records_from, records_next, strip_bom}
use Rattle.csv.specs.declared.parser.Config.{Config}
use Rattle.csv.specs.declared.parser.State.{State}
use Rattle.csv.specs.declared.parser.State.TheVariants as state
use Rattle.glass_base.specs.Problem.{Problem}
use Rattle.cut_model.specs.declared.family.Along.{Along}
use Rattle.cut_model.specs.declared.family.Row.{Row}
use Rattle.cut_model.specs.declared.family.Sort.{Sort}
use Rattle.cut_model.specs.Families.{side_along}
use Rattle.cut_model.specs.Fits.{Fits, InRange, IsNumbered}
use Rattle.cut_model.specs.Lawful.{plate_rows}
use Rattle.cut_model.specs.Parents.{is_number, rows_in, sum_along}
use Rattle.cut_model.specs.Tree.{Forest, nothing, count, neighbours, total_size, sort_named}
use Rattle.csv_table.specs.Rows.{semicolons, table_rows}
use Rattle.plan_csv.specs.PlanTexts.{cell_refusal, grown, lies, or_refusal, plan_said, row_refusal, rows_behind, rows_said, tree_of}
use Rattle.plan_csv.specs.PlanRows.{row_in}
use Rattle.plan_csv.proofs.RowsAccepted.{AreAccepted, IsHead, accepted_all, accepted_none, not_refused}
use Rattle.plan_csv.proofs.FieldsInRange.{read_behind}
use Rattle.plan_csv.proofs.RowsGrown.{few_grow, few_rows}
use Rattle.plan_csv.proofs.WrittenNumbers.{IsRowInRange, IsType}
use Rattle.glass_base.specs.declared.limits.TheConstants.{MOST_SIDE}

-- neighbours are in range where each of them and what is inside it is
neighbours_in_range : (size : Row → ℕ) (sort : Row → Sort) (inner : Row → Forest) (rows : List Row)
    → All (λ r. (size r ≤ MOST_SIDE) × IsNumbered (sort r) × (total_size (inner r) ≤ MOST_SIDE) × InRange (inner r)) rows → InRange (neighbours size sort inner rows)
neighbours_in_range size sort inner [] h = tt
neighbours_in_range size sort inner (r ∷ rows) h =
    let P : Row → Type 0 = λ x. (size x ≤ MOST_SIDE) × IsNumbered (sort x) × (total_size (inner x) ≤ MOST_SIDE) × InRange (inner x) in
    let here = All-head P r rows h in
    (here.0, here.1, here.2, here.3, neighbours_in_range size sort inner rows (All-tail P r rows h))

-- neighbours that lie along one side have the sum of their sizes along it
size_along : (level : ℕ) (sort : Row → Sort) (inner : Row → Forest) (rows : List Row) → All (λ r. r.cut ≡ level) rows
    → total_size (neighbours (λ r. side_along (lies r.cut) r) sort inner rows) ≡ sum_along (lies level) rows
size_along level sort inner [] h = refl
size_along level sort inner (r ∷ rows) h =
    let P : Row → Type 0 = λ x. x.cut ≡ level in
    let here : side_along (lies r.cut) r ≡ side_along (lies level) r = ap (λ (c : ℕ). side_along (lies c) r) (All-head P r rows h) in
    omega (arith, here, size_along level sort inner rows (All-tail P r rows h))

-- so it is down to each depth
size_of : (depth level : ℕ) (rows some : List Row) → All (λ r. r.cut ≡ level) some → total_size (grown depth rows some) ≡ sum_along (lies level) some
size_of zero level rows some h = size_along level (λ r. sort_named r.kind) (λ r. nothing) some h
size_of (suc depth) level rows some h = size_along level (λ r. sort_named r.kind) (λ r. grown depth rows (rows_in r.node rows)) some h

-- the size of a row
side_small : (along : Along) (r : Row) → IsRowInRange r → side_along along r ≤ MOST_SIDE
side_small Along.Plates r h = omega arith
side_small Along.X r h = h.width
side_small Along.Y r h = h.height

-- the number of an item
item_small : (kind : ℤ) → IsType kind → IsNumbered (sort_named kind)
item_small (pos n) h = h
item_small (negsuc zero) h = tt
item_small (negsuc (suc zero)) h = tt
item_small (negsuc (suc (suc zero))) h = tt
item_small (negsuc (suc (suc (suc n)))) h = tt

-- a row of which it is known that it is in range and what is cut from it
abbrev IsKnown : List Row → Row → Type 0
IsKnown rows r = IsRowInRange r × IsHead rows r

-- the tree of accepted rows is in range
range_of : (depth : ℕ) (rows some : List Row) → All (IsKnown rows) rows → All (IsKnown rows) some → InRange (grown depth rows some)
range_of zero rows some all h =
    neighbours_in_range (λ r. side_along (lies r.cut) r) (λ r. sort_named r.kind) (λ r. nothing) some
    (All-weaker (IsKnown rows) (λ r. (side_along (lies r.cut) r ≤ MOST_SIDE) × IsNumbered (sort_named r.kind) × (0 ≤ MOST_SIDE) × Unit {0})
    (λ r k. (side_small (lies r.cut) r k.0, item_small r.kind k.0.kind, omega arith, tt)) some h)
range_of (suc depth) rows some all h =
    neighbours_in_range (λ r. side_along (lies r.cut) r) (λ r. sort_named r.kind) (λ r. grown depth rows (rows_in r.node rows)) some
    (All-weaker (IsKnown rows) (λ r. (side_along (lies r.cut) r ≤ MOST_SIDE) × IsNumbered (sort_named r.kind) × (total_size (grown depth rows (rows_in r.node rows)) ≤ MOST_SIDE) × InRange (grown depth rows (rows_in r.node rows)))
    (λ r k. (
      side_small (lies r.cut) r k.0,
      item_small r.kind k.0.kind,
      rw (size_of depth (r.cut + 1) rows (rows_in r.node rows) k.1.below) k.1.filled,
      range_of depth rows (rows_in r.node rows) all (All-filter (λ x. is_number r.node x.parent) (IsKnown rows) rows all),
    )) some h)

-- the tree of accepted rows fits, and has few pieces
tree_fits : (rows : List Row) → AreAccepted rows → Fits (tree_of rows) × (count (tree_of rows) ≤ 1000000000) × (count (tree_of rows) ≤ length rows)
tree_fits rows all =
    let known : All (IsKnown rows) rows = λ k d lt. (all.small k d lt, all.heads k d lt) in
    let below : All (λ e. All (λ r. r.cut ≡ e.cut + 1) (rows_in e.node rows)) rows = λ k d lt. (all.heads k d lt).below in
    let numbers : All (λ r. r.node < 1000000000) rows = λ k d lt. least (get_or rows k d) (all.small k d lt) in
    let grows : count (tree_of rows) ≤ length rows = few_grow 4 0 rows all.apart below in
    let few : count (tree_of rows) ≤ 1000000000 = omega (arith, grows, few_rows rows 1000000000 all.apart numbers) in
    (record { in_range = range_of 4 rows (plate_rows rows) known (All-filter (λ r. r.cut == 0) (IsKnown rows) rows known); few = omega (arith, few) }, few, grows)
  where
    least : (r : Row) → IsRowInRange r → r.node < 1000000000
    least r h = omega arith

-- what is read, and then no more than so many records
one_more : (more : State → List ℕ → List (List (List ℕ))) (n : ℕ) → ((s : State) (xs : List ℕ) → length (more s xs) ≤ n) → (read : Option Read) → length (records_next more read) ≤ n + 1
one_more more n few None = omega arith
one_more more n few (Some p) = let behind = few p.1 p.2 in omega (arith, behind)

-- no more records are read than are asked for
records_few : (config : Config) (n : ℕ) (s : State) (xs : List ℕ) → length (records_from config n s xs) ≤ n
unfolding records_from
records_few config zero s xs = omega arith
records_few config (suc n) s xs = let more = one_more (records_from config n) n (records_few config n) (next_record config s [] [] xs) in omega (arith, more)

-- a text behind a byte order mark is no longer than the text with it
without_mark : (xs : List ℕ) → length (strip_bom xs) ≤ length xs
unfolding strip_bom
without_mark [] = omega arith
without_mark (a ∷ []) = omega arith
without_mark (a ∷ b ∷ []) = omega arith
without_mark (a ∷ b ∷ c ∷ rest) = by (is_bom a b c)
  where
    by : (marked : Bool) → length (cond marked rest (a ∷ b ∷ c ∷ rest)) ≤ length (a ∷ b ∷ c ∷ rest)
    by true = omega arith
    by false = omega arith

-- a table has no more rows than its text has bytes, and one for its header
table_few : (bytes : List ℕ) → length (drop 1 (table_rows bytes)) ≤ length bytes
table_few bytes =
    let text = strip_bom bytes in
    omega (arith, length-drop 1 (table_rows bytes), records_few semicolons (length text + 1) state.StartRecord text, without_mark bytes)

-- a row is read of each record
rows_each : (b : Problem) (row : ℕ) (before rows : List Row) (texts : List (List (List ℕ))) → rows_behind b row before texts ≡ Ok rows → length rows ≡ length before + length texts
rows_each b row before rows [] h = let same : before ≡ rows = cc h in omega (arith, ap (λ (l : List Row). length l) same)
rows_each b row before rows (fields ∷ rest) h =
    let one = read_behind (row_in row fields) _ rows h in
    let r : Row = one.0 in
    let here = read_behind (or_refusal (before ++ r ∷ []) (row_refusal b row before r)) (λ more. rows_behind b (row + 1) more rest) rows one.2 in
    let longer = not_refused (before ++ r ∷ []) here.0 (row_refusal b row before r) here.1 in
    let long : length here.0 ≡ length before + 1 = omega (arith, ap (λ (l : List Row). length l) longer.1, length-append before (r ∷ [])) in
    omega (arith, rows_each b (row + 1) here.0 rows rest here.2, long)

-- the rows of a text are accepted, and there are no more of them than it has bytes
rows_accepted : (b : Problem) (bytes : List ℕ) (rows : List Row) → rows_said b bytes ≡ Ok rows → AreAccepted rows × (length rows ≤ length bytes)
rows_accepted b bytes rows h =
    let read = read_behind (rows_behind b 2 [] (drop 1 (table_rows bytes))) (λ said. or_refusal said (cell_refusal said 2 said)) rows h in
    let kept = not_refused read.0 rows (cell_refusal read.0 2 read.0) read.2 in (
      subst AreAccepted kept.1 (accepted_all b 2 [] read.0 (drop 1 (table_rows bytes)) accepted_none read.1),
      omega (arith, ap (λ (l : List Row). length l) kept.1, rows_each b 2 [] read.0 (drop 1 (table_rows bytes)) read.1, table_few bytes),
    )

-- the tree that a text says fits, and has few pieces
pub read_fits : (b : Problem) (bytes : List ℕ) (plan : Forest) → plan_said b bytes ≡ Ok plan → Fits plan × (count plan ≤ 1000000000) × (count plan ≤ length bytes)
read_fits b bytes plan h =
    let read = read_behind (rows_said b bytes) (λ rows. Ok (tree_of rows)) plan h in
    let same : tree_of read.0 ≡ plan = cc read.2 in
    let rows = rows_accepted b bytes read.0 read.1 in
    let fits = tree_fits read.0 rows.0 in
    subst (λ (t : Forest). Fits t × (count t ≤ 1000000000) × (count t ≤ length bytes)) same (fits.0, omega (arith, fits.1, rows.1), omega (arith, fits.1, rows.1, fits.2))
