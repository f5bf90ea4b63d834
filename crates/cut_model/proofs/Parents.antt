-- The rows that name a piece as their parent are those of the pieces that it is cut into.
use Rattle.std.proofs.Common.{◌≤◌, ◌≡◌, ℕ, ◌+◌, ◌<◌, List, [], ◌∷◌, ◌++◌, Bool, true, false, cond, map, refl, arith, ap, ◌∙◌, append-nil, All}
use Rattle.std.proofs.lemmas.Bool.Decides.{nat_tests}
use Rattle.std.specs.List.{AllByRecursion}
use Rattle.std.proofs.lemmas.List.Elements.{All-from_recursion}
use Rattle.glass_base.specs.Problem.{Problem}
use Rattle.cut_model.specs.declared.family.Row.{Row}
use Rattle.cut_model.specs.declared.family.Sort.{Sort}
use Rattle.cut_model.specs.declared.family.Along.{Along}
use Rattle.cut_model.specs.declared.family.Area.{Area}
use Rattle.cut_model.specs.declared.family.Family.{Family}
use Rattle.cut_model.specs.Tree.{Forest, nothing, piece, is_nothing, is_item, type_number, children_in, count, holds_item, total_size}
use Rattle.cut_model.specs.Families.{family_with, families, inside, behind, moved, turned, families_of, rows_of, first_plate, width_at, height_at, side_along}
use Rattle.cut_model.specs.Sized.{on_plates}
use Rattle.cut_model.specs.Parents.{is_number, rows_in, tops, is_item_kind, any_item, is_empty, NamedByChildren, sum_along}

abbrev pub rows : List Family → List Row
rows fs = map (λ f. f.row) fs

pub rows_in-append : (n : ℕ) (xs ys : List Family) → rows_in n (rows (xs ++ ys)) ≡ rows_in n (rows xs) ++ rows_in n (rows ys)
rows_in-append n [] ys = refl
rows_in-append n (x ∷ xs) ys =
    elim (is_number n x.row.parent) as (λ b. cond b (x.row ∷ rows_in n (rows (xs ++ ys))) (rows_in n (rows (xs ++ ys))) ≡ cond b (x.row ∷ rows_in n (rows xs)) (rows_in n (rows xs)) ++ rows_in n (rows ys))
    [ true ↦ ap (λ l. x.row ∷ l) (rows_in-append n xs ys) | false ↦ rows_in-append n xs ys ]

pub parent_behind : (at : Area) (along : Along) (size : ℕ) → (moved along at size).parent ≡ at.parent
parent_behind at Along.Plates size = refl
parent_behind at Along.X size = refl
parent_behind at Along.Y size = refl

-- no row of a list that starts behind node n names n as its parent, unless the list is n's own
pub none_in : (n : ℕ) (at : Area) (first : Bool) (node : ℕ) (forest : Forest) → is_number n at.parent ≡ false → n < node → rows_in n (rows (families at first node forest)) ≡ []
unfolding families
none_in n at first node nothing e h = refl
none_in n at first node (piece size sort inner later) e h =
    let f : Family = family_with at first (is_nothing later) node size sort (children_in inner) in
    let below : List Family = families (inside f) true (node + 1) inner in
    rw (e, rows_in-append n below (families (behind at size) false (node + 1 + count inner) later))
    (rw (
      none_in n (inside f) true (node + 1) inner (grind (arith, nat_tests)) (omega arith),
      none_in n (behind at size) false (node + 1 + count inner) later (ap (is_number n) (parent_behind at at.along size) ∙ e) (omega arith),
    ) refl)

-- the rows that name n are those of n's own list
pub own_in : (n : ℕ) (at : Area) (first : Bool) (node : ℕ) (forest : Forest) → is_number n at.parent ≡ true → n < node → rows_in n (rows (families at first node forest)) ≡ tops at first node forest
unfolding families tops
own_in n at first node nothing e h = refl
own_in n at first node (piece size sort inner later) e h =
    let f : Family = family_with at first (is_nothing later) node size sort (children_in inner) in
    let below : List Family = families (inside f) true (node + 1) inner in
    rw (e, rows_in-append n below (families (behind at size) false (node + 1 + count inner) later))
    (rw (none_in n (inside f) true (node + 1) inner (grind (arith, nat_tests)) (omega arith))
    (ap (λ l. f.row ∷ l) (own_in n (behind at size) false (node + 1 + count inner) later (ap (is_number n) (parent_behind at at.along size) ∙ e) (omega arith))))

item_kind : (sort : Sort) → is_item_kind (type_number sort) ≡ is_item sort
item_kind (Sort.Item _) = refl
item_kind Sort.Waste = refl
item_kind Sort.Branch = refl
item_kind Sort.Residual = refl

pub along_behind : (at : Area) (along : Along) (size : ℕ) → (moved along at size).along ≡ at.along
along_behind at Along.Plates size = refl
along_behind at Along.X size = refl
along_behind at Along.Y size = refl

pub cut_behind : (along : Along) (at : Area) (size : ℕ) → (moved along at size).cut ≡ at.cut
cut_behind Along.Plates at size = refl
cut_behind Along.X at size = refl
cut_behind Along.Y at size = refl

items_of_tops : (at : Area) (first : Bool) (node : ℕ) (forest : Forest) → any_item (tops at first node forest) ≡ holds_item forest
unfolding tops
items_of_tops at first node nothing = refl
items_of_tops at first node (piece size sort inner later) = rw (item_kind sort, items_of_tops (behind at size) false (node + 1 + count inner) later) refl

empty_tops : (at : Area) (first : Bool) (node : ℕ) (forest : Forest) → is_empty (tops at first node forest) ≡ is_nothing forest
unfolding tops
empty_tops at first node nothing = refl
empty_tops at first node (piece size sort inner later) = refl

-- a list whose numbers all lie before n has no row that names n, unless it is n's own
pub none_past : (n : ℕ) (at : Area) (first : Bool) (node : ℕ) (forest : Forest) → is_number n at.parent ≡ false → node + count forest ≤ n → rows_in n (rows (families at first node forest)) ≡ []
unfolding families
none_past n at first node nothing e h = refl
none_past n at first node (piece size sort inner later) e h =
    let f : Family = family_with at first (is_nothing later) node size sort (children_in inner) in
    let below : List Family = families (inside f) true (node + 1) inner in
    rw (e, rows_in-append n below (families (behind at size) false (node + 1 + count inner) later))
    (rw (
      none_past n (inside f) true (node + 1) inner (grind (arith, nat_tests)) (omega arith),
      none_past n (behind at size) false (node + 1 + count inner) later (ap (is_number n) (parent_behind at at.along size) ∙ e) (omega arith),
    ) refl)

-- neighbours that lie side by side, or one over the other
abbrev IsCut : Along → Type 0
IsCut Along.Plates = ⊥
IsCut Along.X = Unit {0}
IsCut Along.Y = Unit {0}

turned_cut : (along : Along) → IsCut (turned along)
turned_cut Along.Plates = tt
turned_cut Along.X = tt
turned_cut Along.Y = tt

size_is : (along : Along) (r : Row) (size width height : ℕ) → IsCut along → r.width ≡ width_at along size width → r.height ≡ height_at along size height → side_along along r ≡ size
size_is Along.Plates r size width height cut w h = absurd cut
size_is Along.X r size width height cut w h = w
size_is Along.Y r size width height cut w h = h

sum_of_tops : (along : Along) (at : Area) (first : Bool) (node : ℕ) (forest : Forest) → at.along ≡ along → IsCut along → sum_along along (tops at first node forest) ≡ total_size forest
unfolding tops
sum_of_tops along at first node nothing e cut = refl
sum_of_tops along at first node (piece size sort inner later) e cut =
    let r : Row = (family_with at first (is_nothing later) node size sort (children_in inner)).row in
    omega (
      arith,
      size_is along r size at.width at.height cut (ap (λ a. width_at a size at.width) e) (ap (λ a. height_at a size at.height) e),
      sum_of_tops along (behind at size) false (node + 1 + count inner) later (along_behind at at.along size ∙ e) cut,
    )

named : (f : Family) (inner : Forest) (whole : List Row) → f.children ≡ children_in inner → rows_in f.row.node whole ≡ tops (inside f) true (f.row.node + 1) inner → NamedByChildren whole f
named f inner whole is e =
    is ∙ rw (e, empty_tops (inside f) true (f.row.node + 1) inner, sum_of_tops (turned f.along) (inside f) true (f.row.node + 1) inner refl (turned_cut f.along), items_of_tops (inside f) true (f.row.node + 1) inner) refl

pub append_all : (P : Family → Type 0) (xs ys : List Family) → AllByRecursion P xs → AllByRecursion P ys → AllByRecursion P (xs ++ ys)
append_all P [] ys h k = k
append_all P (x ∷ xs) ys h k = (h.0, append_all P xs ys h.1 k)

all_named : (whole : List Row) (at : Area) (first : Bool) (node : ℕ) (forest : Forest) →
    ((n : ℕ) → node ≤ n → is_number n at.parent ≡ false) →
    ((n : ℕ) → node ≤ n → n < node + count forest → rows_in n whole ≡ rows_in n (rows (families at first node forest))) →
    AllByRecursion (NamedByChildren whole) (families at first node forest)
unfolding families
all_named whole at first node nothing e same = tt
all_named whole at first node (piece size sort inner later) e same =
    let f : Family = family_with at first (is_nothing later) node size sort (children_in inner) in
    let next : ℕ = node + 1 + count inner in
    let below : List Family = families (inside f) true (node + 1) inner in
    let after : List Family = families (behind at size) false next later in
    let elsewhere : (n : ℕ) → node ≤ n → is_number n (behind at size).parent ≡ false = λ n le. ap (is_number n) (parent_behind at at.along size) ∙ e n le in
    let split : (n : ℕ) → node ≤ n → rows_in n (rows (f ∷ (below ++ after))) ≡ rows_in n (rows below) ++ rows_in n (rows after) =
    λ n le. rw (e n le) (rows_in-append n below after) in
    let here : rows_in node whole ≡ tops (inside f) true (node + 1) inner =
    same node (omega arith) (omega arith) ∙ split node (omega arith)
    ∙ rw (own_in node (inside f) true (node + 1) inner (grind (arith, nat_tests)) (omega arith), none_in node (behind at size) false next later (elsewhere node (omega arith)) (omega arith)) (append-nil (tops (inside f) true (node + 1) inner)) in (
      named f inner whole refl here,
      append_all (NamedByChildren whole) below after
          (all_named whole (inside f) true (node + 1) inner (λ n le. grind (arith, nat_tests))
          (λ n le lt. same n (omega arith) (omega arith) ∙ split n (omega arith)
          ∙ rw (none_in n (behind at size) false next later (elsewhere n (omega arith)) (omega arith)) (append-nil (rows_in n (rows below)))))
          (all_named whole (behind at size) false next later (λ n le. elsewhere n (omega arith))
          (λ n le lt. same n (omega arith) (omega arith) ∙ split n (omega arith)
          ∙ rw (none_past n (inside f) true (node + 1) inner (grind (arith, nat_tests)) (omega arith)) refl)),
    )

-- for each family of a plan
pub named_by_children : (b : Problem) (plan : Forest) → All (NamedByChildren (rows_of b plan)) (families_of b plan)
named_by_children b plan =
    All-from_recursion (NamedByChildren (rows_of b plan)) (families_of b plan)
    (all_named (rows_of b plan) (first_plate b) true 0 (on_plates b plan) (λ n le. refl) (λ n le lt. refl))
