-- The rows of a plan are not refused.
use Rattle.std.proofs.Common.{◌≡◌, ◌≤◌, ◌<◌, ◌==◌, ℕ, ◌+◌, List, [], ◌∷◌, ◌++◌, Bool, true, false, refl, sym, subst, ap, ◌∙◌, append_assoc, append-nil, arith, length, length-append, None}
use Rattle.std.specs.Prelude.{Ok}
use Rattle.std.proofs.lemmas.Bool.Decides.{nat_tests}
use Rattle.glass_base.specs.Plates.{Width}
use Rattle.glass_base.specs.Problem.{Problem}
use Rattle.cut_model.specs.declared.plan.Plan.{Plan}
use Rattle.cut_model.specs.declared.family.Row.{Row}
use Rattle.cut_model.specs.declared.family.Area.{Area}
use Rattle.cut_model.specs.declared.family.Along.{Along}
use Rattle.cut_model.specs.declared.family.Sort.{Sort}
use Rattle.cut_model.specs.Shape.{IsOfLevel, IsShaped}
use Rattle.cut_model.specs.Sized.{sized}
use Rattle.cut_model.specs.Tree.{Forest, nothing, piece, count, tree, total_size, type_number}
use Rattle.cut_model.specs.Families.{behind, moved, row_at, first_plate, rows_of, width_at, height_at}
use Rattle.cut_model.specs.Lawful.{plate_rows}
use Rattle.cut_model.specs.Parents.{is_number}
use Rattle.cut_model.specs.Fits.{InRange}
use Rattle.plan_csv.specs.PlanTexts.{lies, names_branch, row_refusal, IsWritable}
use Rattle.cut_model.proofs.Shapes.{by_sort, tree_shaped}
use Rattle.plan_csv.proofs.Told.{rows_at, place_in, rows_below, rows_past, rows_nothing, rows_piece, behind_next}
use Rattle.plan_csv.proofs.PlateRows.{plate_rows-append, no_plates}
use Rattle.plan_csv.proofs.Refusals.{same, IsNextPiece, IsNextPlate, piece_row_passes, plate_row_passes}
use Rattle.plan_csv.proofs.RowsBefore.{IsUnder, IsNext, IsElder, IsBefore, before_none, before_whole, next_passes, under_inside, next_inside, under_behind, next_behind}
use Rattle.plan_csv.proofs.WrittenRows.{rows_after}
use Rattle.glass_base.specs.declared.limits.TheConstants.{MOST_SIDE}

-- rows of which none is refused behind these, whatever its number in the text
abbrev pub IsAccepted : Problem → List Row → List Row → Type 0
IsAccepted b before [] = Unit {0}
IsAccepted b before (r ∷ rest) = ((row : ℕ) → row_refusal b row before r ≡ None) × IsAccepted b (before ++ r ∷ []) rest

-- such rows are all kept
accepted_after : (b : Problem) (row : ℕ) (before rows : List Row) → IsAccepted b before rows → rows_after b row before rows ≡ Ok (before ++ rows)
accepted_after b row before [] h = rw (append-nil before) refl
accepted_after b row before (r ∷ rest) h =
    rw (h.0 row) (accepted_after b (row + 1) (before ++ r ∷ []) rest h.1 ∙ ap (λ (l : List Row). Ok l) (append_assoc before (r ∷ []) rest))

-- rows behind others
accepted_both : (b : Problem) (before xs ys : List Row) → IsAccepted b before xs → IsAccepted b (before ++ xs) ys → IsAccepted b before (xs ++ ys)
accepted_both b before [] ys h k = rw (append-nil before) at k
accepted_both b before (x ∷ xs) ys h k = (h.0, accepted_both b (before ++ x ∷ []) xs ys h.1 (rw (append_assoc before (x ∷ []) xs) k))

-- the parent of a place under a row is older
elder : (e : Row) (at : Area) (node filled : ℕ) (rows : List Row) → IsUnder e at → IsNext e at node filled rows → IsElder node at
elder e at node filled rows h next n le =
    let older : e.node < node = next.older in
    let other : (e.node == n) ≡ false = grind (arith, nat_tests) in
    rw (h.parent) other

-- the pieces of a row are accepted behind the rows before them
pieces_accepted : (b : Problem) (rows : List Row) (e : Row) (filled : ℕ) (at : Area) (first : Bool) (node : ℕ) (forest : Forest) →
    IsUnder e at → IsNext e at node filled rows → IsShaped at.cut forest → InRange forest → filled + total_size forest ≤ MOST_SIDE →
    IsAccepted b rows (rows_at at first node forest)
pieces_accepted b rows e filled at first node nothing h next shape range le = rw (rows_nothing at first node) tt
pieces_accepted b rows e filled at first node (piece size sort inner later) h next shape range le =
    let r : Row = row_at at node size sort in
    let place : Area = place_in at first node size sort inner later in
    let below : List Row = rows_below at first node size sort inner later in
    let past : List Row = rows_past at node size inner later in
    let old : IsElder node at = elder e at node filled rows h next in
    let here : (row : ℕ) → row_refusal b row rows r ≡ None = λ row.
    piece_row_passes b row rows e r (next.numbers.fresh node (omega arith)) next.found
    (subst (λ (n : ℕ). IsNextPiece n e r) (sym next.filled_is) (next_passes filled node size sort inner e at h next.place shape.1 (omega (arith, le)))) in
    let inside : IsAccepted b (rows ++ r ∷ []) below =
    by_sort (λ t. IsAccepted b (rows ++ r ∷ []) (rows_at place true (node + 1) t)) at.cut sort inner shape.1
    (rw (rows_nothing place true (node + 1)) tt)
    (λ branch shallow. pieces_accepted b (rows ++ r ∷ []) r 0 place true (node + 1) inner
    (under_inside at first node size sort inner later h.along shallow branch)
    (next_inside at first node size sort inner later rows old next.numbers) shape.2 range.3 (omega (arith, range.2))) in
    let later_accepted : IsAccepted b (rows ++ r ∷ below) past =
    pieces_accepted b (rows ++ r ∷ below) e (filled + size) (behind at size) false (node + 1 + count inner) later
    (under_behind filled size e at h next.place)
    (next_behind filled e at first node size sort inner later rows h old next)
    (subst (λ (level : ℕ). IsShaped level later) (sym (behind_next at size).cut) shape.3) range.4 (omega (arith, le)) in
    rw (rows_piece at first node size sort inner later)
    (here, accepted_both b (rows ++ r ∷ []) below past inside (rw (append_assoc rows (r ∷ []) below) later_accepted))

-- a place of the plate of this number: the next one behind these rows
record IsAtPlate (b : Problem) (plate : ℕ) (at : Area) (rows : List Row) : Type 0 where
  cut : at.cut ≡ 0
  along : at.along ≡ Along.Plates
  parent : at.parent ≡ None
  x : at.x ≡ 0
  y : at.y ≡ 0
  height : at.height ≡ b.params.height
  number : at.plate ≡ plate
  behind_it : plate ≡ length (plate_rows rows)

-- a plate is cut
plate_cut : (sort : Sort) (inner : Forest) → IsOfLevel 0 sort inner → sort ≡ Sort.Branch
plate_cut (Sort.Item number) inner h = absurd (omega (arith, h.below))
plate_cut Sort.Waste inner h = absurd (omega (arith, h.below))
plate_cut Sort.Branch inner h = refl
plate_cut Sort.Residual inner h = absurd (omega (arith, h.strip))

-- the plate there comes next
plate_next : (b : Problem) (plate : ℕ) (at : Area) (node : ℕ) (sort : Sort) (rows : List Row) → IsAtPlate b plate at rows → sort ≡ Sort.Branch →
    IsNextPlate b rows (row_at at node (Width b plate) sort)
plate_next b plate at node sort rows h branch = record {
  plate = h.number ∙ h.behind_it;
  branch = ap (λ (s : Sort). names_branch (type_number s)) branch;
  x = h.x;
  y = h.y;
  width = ap (λ a. width_at a (Width b plate) at.width) h.along ∙ ap (Width b) (sym h.number);
  height = ap (λ a. height_at a (Width b plate) at.height) h.along ∙ h.height;
}

-- the place behind a plate is that of the next one
plate_behind : (b : Problem) (plate : ℕ) (at : Area) (first : Bool) (node size : ℕ) (sort : Sort) (inner later : Forest) (rows : List Row) →
    IsAtPlate b plate at rows → IsAtPlate b (plate + 1) (behind at size) (rows ++ row_at at node size sort ∷ rows_below at first node size sort inner later)
plate_behind b plate at first node size sort inner later rows h =
    let r : Row = row_at at node size sort in
    let below : List Row = rows_below at first node size sort inner later in
    let next = behind_next at size in
    let is_plate : (at.cut == 0) ≡ true = same at.cut 0 h.cut in
    let is : plate_rows (rows ++ r ∷ below) ≡ plate_rows rows ++ r ∷ [] =
    rw (plate_rows-append rows (r ∷ below), is_plate, no_plates (place_in at first node size sort inner later) true (node + 1) inner (omega arith)) refl in
    let one : (behind at size).plate ≡ at.plate + 1 = ap (λ a. (moved a at size).plate) h.along in
    record {
      cut = next.cut ∙ h.cut;
      along = next.along ∙ h.along;
      parent = next.parent ∙ h.parent;
      x = ap (λ a. (moved a at size).x) h.along ∙ h.x;
      y = ap (λ a. (moved a at size).y) h.along ∙ h.y;
      height = next.height ∙ h.height;
      number = one ∙ ap (λ n. n + 1) h.number;
      behind_it = omega (arith, h.behind_it, ap length is, length-append (plate_rows rows) (r ∷ []));
    }

-- the plates of a plan from this number on are accepted behind the rows before them, with the pieces inside them
plates_accepted : (b : Problem) (plate : ℕ) (rows : List Row) (at : Area) (first : Bool) (node : ℕ) (plan : Forest) →
    IsAtPlate b plate at rows → IsBefore node rows → IsShaped 0 plan → InRange plan → IsAccepted b rows (rows_at at first node (sized b plate plan))
plates_accepted b plate rows at first node nothing h before shape range = rw (rows_nothing at first node) tt
plates_accepted b plate rows at first node (piece size sort inner plan) h before shape range =
    let wide : ℕ = Width b plate in
    let later : Forest = sized b (plate + 1) plan in
    let r : Row = row_at at node wide sort in
    let place : Area = place_in at first node wide sort inner later in
    let below : List Row = rows_below at first node wide sort inner later in
    let past : List Row = rows_past at node wide inner later in
    let branch : sort ≡ Sort.Branch = plate_cut sort inner shape.1 in
    let old : IsElder node at = λ n le. ap (is_number n) h.parent in
    let here : (row : ℕ) → row_refusal b row rows r ≡ None =
    λ row. plate_row_passes b row rows r (before.fresh node (omega arith)) h.cut h.parent (plate_next b plate at node sort rows h branch) in
    let level : place.cut ≡ 1 = omega (arith, h.cut) in
    let inside : IsAccepted b (rows ++ r ∷ []) below =
    pieces_accepted b (rows ++ r ∷ []) r 0 place true (node + 1) inner
    (under_inside at first node wide sort inner later (h.along ∙ ap lies (sym h.cut)) (omega (arith, h.cut)) branch)
    (next_inside at first node wide sort inner later rows old before)
    (subst (λ (n : ℕ). IsShaped n inner) (sym level) shape.2) range.3 (omega (arith, range.2)) in
    let later_accepted : IsAccepted b (rows ++ r ∷ below) past =
    plates_accepted b (plate + 1) (rows ++ r ∷ below) (behind at wide) false (node + 1 + count inner) plan
    (plate_behind b plate at first node wide sort inner later rows h)
    (before_whole at first node wide sort inner later rows old before) shape.3 range.4 in
    rw (rows_piece at first node wide sort inner later)
    (here, accepted_both b (rows ++ r ∷ []) below past inside (rw (append_assoc rows (r ∷ []) below) later_accepted))

-- each row of a plan is accepted behind those before it
pub plan_rows_accepted : (b : Problem) (plan : Plan) (row : ℕ) → IsWritable b (tree plan) → rows_after b row [] (rows_of b (tree plan)) ≡ Ok (rows_of b (tree plan))
plan_rows_accepted b plan row h =
    accepted_after b row [] (rows_of b (tree plan))
    (plates_accepted b 0 [] (first_plate b) true 0 (tree plan)
    (record { cut = refl; along = refl; parent = refl; x = refl; y = refl; height = refl; number = refl; behind_it = refl })
    before_none (tree_shaped plan) h.fits.in_range)
