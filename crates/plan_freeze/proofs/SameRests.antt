-- What is left behind the first plates of a plan is one instance, whatever stands behind these plates.
use Rattle.std.proofs.Common.{◌≡◌, ℕ, ◌+◌, ◌-◌, ◌*◌, ◌<◌, ◌≤◌, inl, inr, List, [], ◌∷◌, length, Bool, true, false, nat_lt, refl, sym, ap, subst, ◌∙◌, arith, All, AllPairs, Contains}
use Rattle.std.specs.Prelude.{slice_index_or}
use Rattle.std.specs.List.{AllZip}
use Rattle.std.proofs.Props.{props}
use Rattle.std.proofs.lemmas.Bool.Decides.{nat_tests}
use Rattle.std.proofs.lemmas.List.{get_or_default, same_lists}
use Rattle.std.proofs.lemmas.List.Elements.{All-append, All-cons, All-contains, All-map, All-nil, All-weaker}
use Rattle.glass_base.proofs.Pairs.{contained_cases, contained_first, contained_later, pairs_head, pairs_tail}
use Rattle.glass_base.specs.BadParams.{HasSizes}
use Rattle.glass_base.specs.Params.{Accepted}
use Rattle.glass_base.specs.Items.{area_of}
use Rattle.glass_base.specs.Plates.{Before, Width}
use Rattle.glass_base.specs.Problem.{Problem}
use Rattle.glass_base.specs.Stacks.{AreStacks, IsStack, stack_numbers}
use Rattle.glass_base.specs.Widths.{AreWidths}
use Rattle.glass_base.specs.declared.item.Defect.{Defect}
use Rattle.glass_base.specs.declared.item.Item.{Item}
use Rattle.glass_base.specs.declared.params.Params.{Params}
use Rattle.cut_model.specs.declared.family.Family.{Family}
use Rattle.cut_model.specs.declared.family.Row.{Row}
use Rattle.cut_model.specs.Families.{families, family_with, inside, rows_of}
use Rattle.cut_model.specs.Order.{cut_order}
use Rattle.cut_model.specs.Sized.{sized}
use Rattle.cut_model.specs.Tree.{Forest, nothing, piece, children_in, count, is_nothing, neighbour_count}
use Rattle.cut_model.proofs.Places.{plate_at}
use Rattle.plan_freeze.specs.Claims.{RestIsOne, RestIsSame}
use Rattle.plan_freeze.specs.Frozen.{first_plates, joined, later_plates}
use Rattle.plan_freeze.specs.Rests.{IsRest, items_among, items_besides, numbers_frozen}
use Rattle.plan_freeze.proofs.Beginning.{on_one}
use Rattle.plan_freeze.proofs.Forests.{first_count, joined_nothing, parted, some_behind}
use Rattle.plan_freeze.proofs.FrozenLaw.{behind_first}
use Rattle.plan_freeze.proofs.Lists.{filter_all}
use Rattle.plan_freeze.proofs.SomeLeft.{first_kept}
use Rattle.plan_freeze.proofs.Wholes.{first_items, first_rows}

-- all pieces of a plan are on its plates
all_before : (b : Problem) (plate : ℕ) (first : Bool) (node : ℕ) (plan : Forest) (end : ℕ) → plate + neighbour_count plan ≤ end →
    All (λ f. f.row.plate < end) (families (plate_at b plate) first node (sized b plate plan))
unfolding families
all_before b plate first node nothing end le = All-nil _
all_before b plate first node (piece size sort inner later) end le =
    let f : Family = family_with (plate_at b plate) first (is_nothing (sized b (plate + 1) later)) node (Width b plate) sort (children_in inner) in
    let here : plate < end = omega (arith, le) in
    All-cons (λ (g : Family). g.row.plate < end) f _ here
    (All-append (λ (g : Family). g.row.plate < end) _ _
    (on_plate (families (inside f) true (node + 1) inner) (on_one (inside f) true (node + 1) inner plate tt refl) here)
    (all_before b (plate + 1) false (node + 1 + count inner) later end (omega (arith, le))))
  where
    on_plate : (fs : List Family) → All (λ g. g.row.plate ≡ plate) fs → plate < end → All (λ g. g.row.plate < end) fs
    on_plate fs h lt i d within = omega (arith, h i d within, lt)

-- the items on the plates of a plan that has no others are all that it cuts
alone : (b : Problem) (first : Forest) → numbers_frozen b first (neighbour_count first) ≡ cut_order (rows_of b first)
alone b first =
    let k : ℕ = neighbour_count first in
    let before : All (λ (r : Row). r.plate < k) (rows_of b first) =
    All-map (λ (r : Row). r.plate < k) (λ (f : Family). f.row) (families (plate_at b 0) true 0 (sized b 0 first)) (all_before b 0 true 0 first k (omega arith)) in
    let kept : All (λ (r : Row). nat_lt r.plate k ≡ true) (rows_of b first) =
    All-weaker (λ (r : Row). r.plate < k) (λ (r : Row). nat_lt r.plate k ≡ true) (λ r lt. is_lt r.plate k lt) (rows_of b first) before in
    ap cut_order (filter_all (λ (r : Row). nat_lt r.plate k) (rows_of b first) kept)
  where
    is_lt : (m n : ℕ) → m < n → nat_lt m n ≡ true
    is_lt m n lt = grind (arith, nat_tests)

-- the items on first plates are those that these plates cut alone
same_numbers : (b left : Problem) (first tail : Forest) → IsRest b (joined first tail) (neighbour_count first) left →
    numbers_frozen b (joined first tail) (neighbour_count first) ≡ cut_order (rows_of b first)
same_numbers b left first nothing is = ap (λ (plan : Forest). numbers_frozen b plan (neighbour_count first)) (joined_nothing first) ∙ alone b first
same_numbers b left first (piece size sort inner more) is =
    ap cut_order (first_kept b first size sort inner more) ∙ first_items b left first size sort inner more (behind_first b left first size sort inner more is)

frozen_are : (b left : Problem) (plan : Forest) (k : ℕ) → neighbour_count (first_plates k plan) ≡ k → IsRest b plan k left →
    numbers_frozen b plan k ≡ cut_order (rows_of b (first_plates k plan))
frozen_are b left plan k many is =
    let whole : joined (first_plates k plan) (later_plates k plan) ≡ plan = parted k plan in
    rw (whole, many) at (same_numbers b left (first_plates k plan) (later_plates k plan) (rw (whole, many) is))

-- parameters of equal numbers are one, since their rules are propositions
unfoldable made : (plates width height min1 max1 min2 waste : ℕ) → Accepted plates width height min1 max1 min2 waste → Params
made plates width height min1 max1 min2 waste rules = record {
  plates = plates;
  width = width;
  height = height;
  min1 = min1;
  max1 = max1;
  min2 = min2;
  waste = waste;
  accepted = rules;
}

one_rule : (plates width height min1 max1 min2 waste : ℕ) → IsProp (Accepted plates width height min1 max1 min2 waste)
one_rule plates width height min1 max1 min2 waste = hlevel props

-- whatever rules they keep, they are these parameters
abbrev AreOnly : Params → ℕ → ℕ → ℕ → ℕ → ℕ → ℕ → ℕ → Type 0
AreOnly p plates width height min1 max1 min2 waste =
    (rules : Accepted plates width height min1 max1 min2 waste) → made plates width height min1 max1 min2 waste rules ≡ p

only_itself : (p : Params) → AreOnly p p.plates p.width p.height p.min1 p.max1 p.min2 p.waste
unfolding made
only_itself p rules =
    ap (made p.plates p.width p.height p.min1 p.max1 p.min2 p.waste) (one_rule p.plates p.width p.height p.min1 p.max1 p.min2 p.waste rules p.accepted)

only_these : (p : Params) (plates width height min1 max1 min2 waste : ℕ) → HasSizes p plates width height min1 max1 min2 waste → AreOnly p plates width height min1 max1 min2 waste
only_these p plates width height min1 max1 min2 waste is =
    let a0 = only_itself p in
    let a1 : AreOnly p plates p.width p.height p.min1 p.max1 p.min2 p.waste = subst (λ (n : ℕ). AreOnly p n p.width p.height p.min1 p.max1 p.min2 p.waste) is.plates_is a0 in
    let a2 : AreOnly p plates width p.height p.min1 p.max1 p.min2 p.waste = subst (λ (n : ℕ). AreOnly p plates n p.height p.min1 p.max1 p.min2 p.waste) is.width_is a1 in
    let a3 : AreOnly p plates width height p.min1 p.max1 p.min2 p.waste = subst (λ (n : ℕ). AreOnly p plates width n p.min1 p.max1 p.min2 p.waste) is.height_is a2 in
    let a4 : AreOnly p plates width height min1 p.max1 p.min2 p.waste = subst (λ (n : ℕ). AreOnly p plates width height n p.max1 p.min2 p.waste) is.min1_is a3 in
    let a5 : AreOnly p plates width height min1 max1 p.min2 p.waste = subst (λ (n : ℕ). AreOnly p plates width height min1 n p.min2 p.waste) is.max1_is a4 in
    let a6 : AreOnly p plates width height min1 max1 min2 p.waste = subst (λ (n : ℕ). AreOnly p plates width height min1 max1 n p.waste) is.min2_is a5 in
    subst (λ (n : ℕ). AreOnly p plates width height min1 max1 min2 n) is.waste_is a6

same_by : (p q : Params) (plates width height min1 max1 min2 waste : ℕ) → HasSizes p plates width height min1 max1 min2 waste → HasSizes q plates width height min1 max1 min2 waste →
    Accepted plates width height min1 max1 min2 waste → p ≡ q
same_by p q plates width height min1 max1 min2 waste first second rules =
    sym (only_these p plates width height min1 max1 min2 waste first rules) ∙ only_these q plates width height min1 max1 min2 waste second rules

same_params : (p q : Params) (plates width height min1 max1 min2 waste : ℕ) → HasSizes p plates width height min1 max1 min2 waste → HasSizes q plates width height min1 max1 min2 waste → p ≡ q
same_params p q plates width height min1 max1 min2 waste first second =
    same_by p q plates width height min1 max1 min2 waste first second
    (rw (first.plates_is, first.width_is, first.height_is, first.min1_is, first.max1_is, first.min2_is, first.waste_is) at p.accepted)

-- lists of widths that tell each plate the same width are one
same_widths : (b c : Problem) → b.params ≡ c.params → AreWidths b.params b.widths → AreWidths c.params c.widths → ((plate : ℕ) → Width b plate ≡ Width c plate) → b.widths ≡ c.widths
unfolding Width
same_widths b c params mine others each =
    let many : length b.widths ≡ length c.widths = mine.many ∙ ap (λ (p : Params). p.plates) params ∙ sym others.many in
    same_lists b.widths c.widths many
    (λ k d lt. get_or_default b.widths k d b.params.width lt ∙ each k ∙ get_or_default c.widths k c.params.width d (omega (arith, lt, many)))

-- ascending lists of the same members are one
same_ascending : (f : ℕ → ℕ) (xs ys : List ℕ) → AllPairs (λ a b. f a < f b) xs → AllPairs (λ a b. f a < f b) ys →
    ((k : ℕ) → Contains xs k → Contains ys k) → ((k : ℕ) → Contains ys k → Contains xs k) → xs ≡ ys
same_ascending f [] [] h g to from = refl
same_ascending f [] (y ∷ ys) h g to from = absurd (omega (arith, (from y (contained_first y ys)).1))
same_ascending f (x ∷ xs) [] h g to from = absurd (omega (arith, (to x (contained_first x xs)).1))
same_ascending f (x ∷ xs) (y ∷ ys) h g to from =
    let Rises : ℕ → ℕ → Type 0 = λ (a c : ℕ). f a < f c in
    let above : (k : ℕ) → Contains xs k → f x < f k = λ k has. All-contains (Rises x) xs k (pairs_head Rises x xs h) has in
    let over : (k : ℕ) → Contains ys k → f y < f k = λ k has. All-contains (Rises y) ys k (pairs_head Rises y ys g) has in
    let first : x ≡ y = elim (contained_cases y ys x (to x (contained_first x xs))) [
      | inl e ↦ sym e
      | inr later ↦ elim (contained_cases x xs y (from y (contained_first y ys))) [
        | inl e ↦ e
        | inr earlier ↦ absurd (omega (arith, above y earlier, over x later))
      ]
    ] in
    let others : xs ≡ ys = same_ascending f xs ys (pairs_tail Rises x xs h) (pairs_tail Rises y ys g)
    (λ k has. elim (contained_cases y ys k (to k (contained_later x xs k has))) [
      | inl e ↦ absurd (omega (arith, above k has, ap f (first ∙ e)))
      | inr later ↦ later
    ])
    (λ k has. elim (contained_cases x xs k (from k (contained_later y ys k has))) [
      | inl e ↦ absurd (omega (arith, over k has, ap f (sym first ∙ e)))
      | inr later ↦ later
    ]) in
    cc

same_stack : (items : List Item) (stack : ℕ) (d : Item) (xs ys : List ℕ) → IsStack items stack xs → IsStack items stack ys → xs ≡ ys
same_stack items stack d xs ys h g =
    same_ascending (λ (k : ℕ). (slice_index_or items k d).sequence) xs ys (h.ascending d) (g.ascending d)
    (λ k has. (g.members k d).1 ((h.members k d).0 has))
    (λ k has. (h.members k d).1 ((g.members k d).0 has))

each_stack : (items : List Item) (d : Item) (numbers : List ℕ) (xs ys : List (List ℕ)) → AllZip (IsStack items) numbers xs → AllZip (IsStack items) numbers ys → xs ≡ ys
each_stack items d [] [] [] h g = refl
each_stack items d [] [] (y ∷ ys) h g = absurd g
each_stack items d [] (x ∷ xs) ys h g = absurd h
each_stack items d (n ∷ ns) [] ys h g = absurd h
each_stack items d (n ∷ ns) (x ∷ xs) [] h g = absurd g
each_stack items d (n ∷ ns) (x ∷ xs) (y ∷ ys) h g =
    let first : x ≡ y = same_stack items n d x y h.0 g.0 in
    let others : xs ≡ ys = each_stack items d ns xs ys h.1 g.1 in
    cc

-- the stacks of a batch are found in one way
same_stacks : (items : List Item) (xs ys : List (List ℕ)) → 1 ≤ length items → AreStacks items xs → AreStacks items ys → xs ≡ ys
same_stacks [] xs ys some h g = absurd (omega (arith, some))
same_stacks (d ∷ items) xs ys some h g = each_stack (d ∷ items) d (stack_numbers (d ∷ items)) xs ys h.each g.each

same_problem : (b c : Problem) → b.params ≡ c.params → b.items ≡ c.items → b.defects ≡ c.defects → b.widths ≡ c.widths → b.stacks ≡ c.stacks → b ≡ c
same_problem b c params items defects widths stacks =
    let by_params : Params → Problem = λ (p : Params). record { params = p; items = b.items; defects = b.defects; widths = b.widths; stacks = b.stacks } in
    let by_items : List Item → Problem = λ (l : List Item). record { params = c.params; items = l; defects = b.defects; widths = b.widths; stacks = b.stacks } in
    let by_defects : List Defect → Problem = λ (l : List Defect). record { params = c.params; items = c.items; defects = l; widths = b.widths; stacks = b.stacks } in
    let by_widths : List ℕ → Problem = λ (l : List ℕ). record { params = c.params; items = c.items; defects = c.defects; widths = l; stacks = b.stacks } in
    let by_stacks : List (List ℕ) → Problem = λ (l : List (List ℕ)). record { params = c.params; items = c.items; defects = c.defects; widths = c.widths; stacks = l } in
    ap by_params params ∙ ap by_items items ∙ ap by_defects defects ∙ ap by_widths widths ∙ ap by_stacks stacks

pub rest_is_one : RestIsOne
rest_is_one b plan other k rest left frozen begins is =
    let many : neighbour_count (first_plates k plan) ≡ k = first_count k plan (omega (arith, frozen.fewer)) in
    let too : neighbour_count (first_plates k other) ≡ k = ap neighbour_count begins ∙ many in
    let numbers : numbers_frozen b other k ≡ numbers_frozen b plan k =
    frozen_are b left other k too is ∙ ap (λ (first : Forest). cut_order (rows_of b first)) begins ∙ sym (frozen_are b rest plan k many frozen.rest_is) in
    let items : left.items ≡ rest.items = is.items_are ∙ ap (λ (ns : List ℕ). items_besides ns b.items) numbers ∙ sym frozen.rest_is.items_are in
    let params : left.params ≡ rest.params = same_params left.params rest.params _ _ _ _ _ _ _ is.params_are frozen.rest_is.params_are in
    same_problem left rest params items (is.defects_are ∙ sym frozen.rest_is.defects_are)
    (same_widths left rest params is.rules.widths frozen.rest_is.rules.widths (λ plate. is.widths_are plate ∙ sym (frozen.rest_is.widths_are plate)))
    (same_stacks rest.items left.stacks rest.stacks frozen.rest_is.rules.some
    (subst (λ (l : List Item). AreStacks l left.stacks) items is.rules.stacks) frozen.rest_is.rules.stacks)

-- the items on first plates, where another plate stands behind them
numbers_first : (b : Problem) (first later : Forest) → 1 ≤ neighbour_count later → numbers_frozen b (joined first later) (neighbour_count first) ≡ cut_order (first_rows b first)
numbers_first b first nothing some = absurd (omega (arith, some))
numbers_first b first (piece size sort inner more) some = ap cut_order (first_kept b first size sort inner more)

-- so of the first plates of a plan that has more
first_numbers : (b : Problem) (plan : Forest) (k : ℕ) → k < neighbour_count plan → numbers_frozen b plan k ≡ cut_order (first_rows b (first_plates k plan))
first_numbers b plan k more =
    let whole : joined (first_plates k plan) (later_plates k plan) ≡ plan = parted k plan in
    let many : neighbour_count (first_plates k plan) ≡ k = first_count k plan (omega (arith, more)) in
    rw (whole, many) at (numbers_first b (first_plates k plan) (later_plates k plan) (some_behind k plan more))

pub rest_is_same : RestIsSame
rest_is_same b plan other k rest frozen begins more =
    let numbers : numbers_frozen b plan k ≡ numbers_frozen b other k =
    first_numbers b plan k frozen.fewer ∙ ap (λ (first : Forest). cut_order (first_rows b first)) (sym begins) ∙ sym (first_numbers b other k more) in (
      record {
        items_are = frozen.rest_is.items_are ∙ ap (λ (ns : List ℕ). items_besides ns b.items) numbers;
        defects_are = frozen.rest_is.defects_are;
        widths_are = frozen.rest_is.widths_are;
        params_are = frozen.rest_is.params_are;
        rules = frozen.rest_is.rules;
      },
      ap (λ (ns : List ℕ). b.params.height * Before b k - area_of (items_among ns b.items)) (sym numbers),
    )
