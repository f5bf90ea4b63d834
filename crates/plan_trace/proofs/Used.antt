-- The plates of a plan that keeps the rules of order: an item is cut from each, and there are not too many.
use Rattle.std.proofs.Common.{◌≡◌, ℕ, ◌+◌, ◌<◌, ◌≤◌, List, [], refl, sym, ◌∙◌, subst, arith, Bool, true, false, Option, IsSome, All}
use Rattle.std.specs.Prelude.{Any}
use Rattle.std.proofs.lemmas.List.Elements.{All-nil, All-cons, All-append, All-head, All-tail, All-weaker}
use Rattle.cut_model.specs.declared.family.Row.{Row}
use Rattle.cut_model.specs.declared.family.Sort.{Sort}
use Rattle.cut_model.specs.declared.family.Along.{Along}
use Rattle.cut_model.specs.declared.family.Area.{Area}
use Rattle.cut_model.specs.Tree.{Forest, nothing, piece, count, type_number}
use Rattle.cut_model.specs.Families.{inside, behind, row_at}
use Rattle.cut_model.specs.Lawful.{IsItemOn, plate_rows}
use Rattle.cut_model.specs.Order.{item_named}
use Rattle.cut_model.proofs.Cutting.{items_in}
use Rattle.plan_trace.specs.inner.Shape.{IsPlate, ArePlates}
use Rattle.plan_trace.proofs.Ahead.{left_none, right_none}
use Rattle.plan_trace.proofs.UsedPlates.{OnOne, moved_one, plate_rows_piece, turned_one}
use Rattle.loss_area.proofs.Areas.{family_at, rows_after, rows_at, rows_below, rows_nothing, rows_piece}

-- a place of plates
abbrev pub area_p : ℕ → Option ℕ → ℕ → ℕ → ℕ → ℕ → Bool → Area
area_p plate parent x y width height last =
    record { plate = plate; cut = 0; along = Along.Plates; parent = parent; x = x; y = y; width = width; height = height; last = last }

-- what holds of a row, of those inside it and of those behind it holds of all rows of a piece
rows_all : (P : Row → Type 0) (at : Area) (first : Bool) (node size : ℕ) (sort : Sort) (inner later : Forest) → P (row_at at node size sort) →
    All P (rows_below at first node size sort inner later) → All P (rows_after at node size inner later) → All P (rows_at at first node (piece size sort inner later))
rows_all P at first node size sort inner later here below after =
    subst (All P) (sym (rows_piece at first node size sort inner later)) (All-cons P (row_at at node size sort) _ here (All-append P _ _ below after))

-- the pieces inside a plate are on this plate
rows_on : (n : ℕ) (at : Area) (first : Bool) (node : ℕ) (forest : Forest) → OnOne at.along → at.plate ≡ n → All (λ row. row.plate ≡ n) (rows_at at first node forest)
rows_on n at first node nothing h is = subst (All (λ (row : Row). row.plate ≡ n)) (sym (rows_nothing at first node nothing refl)) (All-nil _)
rows_on n at first node (piece size sort inner later) h is =
    let next = moved_one at.along at size h h in
    rows_all (λ row. row.plate ≡ n) at first node size sort inner later is
    (rows_on n (inside (family_at at first node size sort inner later)) true (node + 1) inner (turned_one at.along) is)
    (rows_on n (behind at size) false (node + 1 + count inner) later next.1 (next.0 ∙ is))

-- pieces without items have no rows of items
rows_empty : (at : Area) (first : Bool) (node : ℕ) (forest : Forest) → items_in forest ≡ [] → All (λ row. IsSome (item_named row.kind) → ⊥) (rows_at at first node forest)
rows_empty at first node nothing none = subst (All (λ (row : Row). IsSome (item_named row.kind) → ⊥)) (sym (rows_nothing at first node nothing refl)) (All-nil _)
rows_empty at first node (piece size (Sort.Item number) inner later) none = cc
rows_empty at first node (piece size Sort.Waste inner later) none =
    rows_all (λ row. IsSome (item_named row.kind) → ⊥) at first node size Sort.Waste inner later (λ some. cc)
    (rows_empty (inside (family_at at first node size Sort.Waste inner later)) true (node + 1) inner (left_none (items_in inner) (items_in later) none))
    (rows_empty (behind at size) false (node + 1 + count inner) later (right_none (items_in inner) (items_in later) none))
rows_empty at first node (piece size Sort.Residual inner later) none =
    rows_all (λ row. IsSome (item_named row.kind) → ⊥) at first node size Sort.Residual inner later (λ some. cc)
    (rows_empty (inside (family_at at first node size Sort.Residual inner later)) true (node + 1) inner (left_none (items_in inner) (items_in later) none))
    (rows_empty (behind at size) false (node + 1 + count inner) later (right_none (items_in inner) (items_in later) none))
rows_empty at first node (piece size Sort.Branch inner later) none =
    rows_all (λ row. IsSome (item_named row.kind) → ⊥) at first node size Sort.Branch inner later (λ some. cc)
    (rows_empty (inside (family_at at first node size Sort.Branch inner later)) true (node + 1) inner (left_none (items_in inner) (items_in later) none))
    (rows_empty (behind at size) false (node + 1 + count inner) later (right_none (items_in inner) (items_in later) none))

abbrev IsNotOn : ℕ → Row → Type 0
IsNotOn k row = IsItemOn k row → ⊥

-- no item of a plate is on a later one
plates_behind : (k n : ℕ) (parent : Option ℕ) (x y width height : ℕ) (last first : Bool) (node : ℕ) (plates : Forest) → k < n → All (IsNotOn k) (rows_at (area_p n parent x y width height last) first node plates)
plates_behind k n parent x y width height last first node nothing lt =
    subst (All (IsNotOn k)) (sym (rows_nothing (area_p n parent x y width height last) first node nothing refl)) (All-nil _)
plates_behind k n parent x y width height last first node (piece size sort inner later) lt =
    let at : Area = area_p n parent x y width height last in
    rows_all (IsNotOn k) at first node size sort inner later (λ h. omega (arith, h.0, lt))
    (All-weaker (λ row. row.plate ≡ n) (IsNotOn k) (λ row on h. omega (arith, on, h.0, lt)) _ (rows_on n (inside (family_at at first node size sort inner later)) true (node + 1) inner tt refl))
    (plates_behind k (n + 1) parent x y width height last false (node + 1 + count inner) later (omega (arith, lt)))

-- an item is cut from each plate
abbrev pub EachUsed : Forest → Type 0
EachUsed nothing = Unit {0}
EachUsed (piece size sort inner later) = (items_in inner ≡ [] → ⊥) × EachUsed later

-- what no row fulfils is not fulfilled by any
none_of : (P : Row → Type 0) (rows : List Row) → All (λ row. P row → ⊥) rows → Any P rows → ⊥
none_of P rows none (k, row, lt, is, holds) = none k row lt (subst P (sym is) holds)

-- a plate is no item
plate_no_item : (sort : Sort) (inner : Forest) → IsPlate sort inner → IsSome (item_named (type_number sort)) → ⊥
plate_no_item (Sort.Item number) inner shape some = shape
plate_no_item Sort.Waste inner shape some = shape
plate_no_item Sort.Residual inner shape some = shape
plate_no_item Sort.Branch inner shape some = cc

-- where each plate has the row of an item among all rows, an item is cut from each
pub each_used : (all : List Row) (n : ℕ) (parent : Option ℕ) (x y width height : ℕ) (last first : Bool) (node : ℕ) (plates : Forest) → ArePlates plates →
    let rows : List Row = rows_at (area_p n parent x y width height last) first node plates in
    ((k : ℕ) → n ≤ k → All (IsNotOn k) rows → All (IsNotOn k) all) → All (λ p. Any (IsItemOn p.plate) all) (plate_rows rows) → EachUsed plates
each_used all n parent x y width height last first node nothing shape whole used = tt
each_used all n parent x y width height last first node (piece size sort inner later) shape whole used =
    let at : Area = area_p n parent x y width height last in
    let more : List Row = rows_at (area_p (n + 1) parent x y width height last) false (node + 1 + count inner) later in
    let used' = subst (All (λ (p : Row). Any (IsItemOn p.plate) all)) (plate_rows_piece at first node size sort inner later refl) used in (
      λ none. none_of (IsItemOn n) all
          (whole n (omega arith) (rows_all (IsNotOn n) at first node size sort inner later (λ h. plate_no_item sort inner shape.0 h.1)
          (All-weaker (λ row. IsSome (item_named row.kind) → ⊥) (IsNotOn n) (λ row no h. no h.1) _ (rows_empty (inside (family_at at first node size sort inner later)) true (node + 1) inner none))
          (plates_behind n (n + 1) parent x y width height last false (node + 1 + count inner) later (omega arith))))
          (All-head (λ p. Any (IsItemOn p.plate) all) (row_at at node size sort) (plate_rows more) used'),
      each_used all (n + 1) parent x y width height last false (node + 1 + count inner) later shape.1
          (λ k le none. whole k (omega (arith, le)) (rows_all (IsNotOn k) at first node size sort inner later (λ h. omega (arith, h.0, le))
          (All-weaker (λ row. row.plate ≡ n) (IsNotOn k) (λ row on h. omega (arith, on, h.0, le)) _ (rows_on n (inside (family_at at first node size sort inner later)) true (node + 1) inner tt refl))
          none))
          (All-tail (λ p. Any (IsItemOn p.plate) all) (row_at at node size sort) (plate_rows more) used'),
    )
