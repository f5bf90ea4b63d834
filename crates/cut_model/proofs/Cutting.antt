-- The items of a tree in cutting order.
use Rattle.std.proofs.Common.{◌≡◌, ℕ, ◌+◌, List, [], ◌++◌, map, Bool, true, false, refl, ap, ◌∙◌}
use Rattle.std.specs.List.{cons_option}
use Rattle.std.proofs.lemmas.List.{map-append}
use Rattle.std.proofs.lemmas.List.Elements.{filter_map-append}
use Rattle.glass_base.specs.Problem.{Problem}
use Rattle.cut_model.specs.declared.family.Area.{Area}
use Rattle.cut_model.specs.declared.family.Family.{Family}
use Rattle.cut_model.specs.Tree.{Forest, nothing, piece, is_nothing, children_in, count, type_number}
use Rattle.cut_model.specs.Families.{family_with, families, inside, behind, first_plate, rows_of}
use Rattle.cut_model.specs.Sized.{sized, on_plates}
use Rattle.cut_model.specs.Order.{cut_order, item_named}

-- the numbers of the items of a tree, in cutting order
abbrev pub items_in : Forest → List ℕ
items_in nothing = []
items_in (piece size sort inner later) = cons_option (item_named (type_number sort)) (items_in inner ++ items_in later)

abbrev items_of : List Family → List ℕ
items_of fs = cut_order (map (λ f. f.row) fs)

items_of-append : (xs ys : List Family) → items_of (xs ++ ys) ≡ items_of xs ++ items_of ys
items_of-append xs ys =
    ap cut_order (map-append (λ f. f.row) xs ys) ∙ filter_map-append (λ row. item_named row.kind) (map (λ f. f.row) xs) (map (λ f. f.row) ys)

-- the rows cut the items of their tree
families_cut : (at : Area) (first : Bool) (node : ℕ) (forest : Forest) → items_of (families at first node forest) ≡ items_in forest
unfolding families
families_cut at first node nothing = refl
families_cut at first node (piece size sort inner later) =
    let f : Family = family_with at first (is_nothing later) node size sort (children_in inner) in
    let below : List Family = families (inside f) true (node + 1) inner in
    let after : List Family = families (behind at size) false (node + 1 + count inner) later in
    ap (cons_option (item_named (type_number sort)))
    (items_of-append below after
    ∙ ap (λ (l : List ℕ). l ++ items_of after) (families_cut (inside f) true (node + 1) inner)
    ∙ ap (λ (l : List ℕ). items_in inner ++ l) (families_cut (behind at size) false (node + 1 + count inner) later))

-- plates are cut as the plan says, whatever their widths
pub sized_cut : (b : Problem) (plate : ℕ) (plan : Forest) → items_in (sized b plate plan) ≡ items_in plan
sized_cut b plate nothing = refl
sized_cut b plate (piece size sort inner later) =
    ap (λ (l : List ℕ). cons_option (item_named (type_number sort)) (items_in inner ++ l)) (sized_cut b (plate + 1) later)

pub rows_cut : (b : Problem) (plan : Forest) → cut_order (rows_of b plan) ≡ items_in plan
rows_cut b plan = families_cut (first_plate b) true 0 (on_plates b plan) ∙ sized_cut b 0 plan
