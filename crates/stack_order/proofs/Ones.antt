-- There is one breach at the most.
use Rattle.std.proofs.Common.{◌≡◌, ◌≢◌, ℕ, ◌<◌, ◌≤◌, ◌==◌, List, length, take, find, sym, ap, subst, ◌∙◌, arith, Option, Some, AllPairs, length-take-le}
use Rattle.std.specs.Prelude.{slice_get}
use Rattle.std.proofs.lemmas.Option.{same_Some, slice_get_within, slice_get_read, get_or_from_slice_get}
use Rattle.std.proofs.lemmas.List.{take-take, get_or-take}
use Rattle.glass_base.specs.declared.item.Item.{Item}
use Rattle.glass_base.specs.Problem.{Problem}
use Rattle.cut_model.specs.declared.broken.Broken.{Broken}
use Rattle.cut_model.specs.declared.family.Row.{Row}
use Rattle.cut_model.specs.Order.{KeepsStacks}
use Rattle.cut_model.proofs.Firsts.{first_is_one}
use Rattle.stack_order.specs.declared.cuts.ItemCut.{ItemCut}
use Rattle.stack_order.specs.declared.order_rule.OrderRule.{OrderRule}
use Rattle.stack_order.specs.Breaches.{numbers, items_of, breach, order_rules, last_of_stack, Names, NamesUnknown, NamesTwice, NamesMissing, NamesEmptyPlate, NamesLate, IsBreach}
use Rattle.stack_order.proofs.Counted.{twice_breaks}
use Rattle.stack_order.proofs.Ordered.{late_breaks}

-- an element before a place is found among those before it
get_before : (cuts : List ItemCut) (i j : ℕ) (cut : ItemCut) → slice_get cuts i ≡ Some cut → i < j → j ≤ length cuts → slice_get (take j cuts) i ≡ Some cut
get_before cuts i j cut there before within =
    slice_get_read (take j cuts) j i cut (sym (length-take-le j cuts within)) before
    (sym (get_or-take j cuts i cut before ∙ get_or_from_slice_get cuts i cut cut there))

-- two places neither of which is before the other are equal
same_place : (i j : ℕ) → ¬ (i < j) → ¬ (j < i) → i ≡ j
same_place i j not_before not_behind = omega arith

-- what stands at one place is one
same_at : (cuts : List ItemCut) (i j : ℕ) (cut other : ItemCut) → i ≡ j → slice_get cuts i ≡ Some cut → slice_get cuts j ≡ Some other → cut ≡ other
same_at cuts i j cut other same there other_there = same_Some cut other (sym there ∙ ap (slice_get cuts) same ∙ other_there)

-- where the numbers before a place differ, no item is cut again before it
none_again : (cuts : List ItemCut) (i j : ℕ) (again first : ItemCut) → slice_get cuts i ≡ Some again → find (λ c. c.number == again.number) (take i cuts) ≡ Some first → j ≤ length cuts → AllPairs (λ a c. a.number ≢ c.number) (take j cuts) → ¬ (i < j)
none_again cuts i j again first there first_is within different before =
    let shorter : take i (take j cuts) ≡ take i cuts = take-take i j cuts (omega (arith, before)) in
    twice_breaks (take j cuts) i again first (get_before cuts i j again there before within)
    (ap (find (λ (c : ItemCut). c.number == again.number)) shorter ∙ first_is) different

-- of two first items that were cut before neither stands before the other
twice_before : (cuts : List ItemCut) (x y : Broken) (h : NamesTwice cuts x) (k : NamesTwice cuts y) → ¬ (h.place < k.place)
twice_before cuts x y h k =
    let lt : k.place < length cuts = slice_get_within cuts k.place k.again k.there in
    none_again cuts h.place k.place h.again h.first h.there h.first_is (omega (arith, lt)) k.different

-- there is one first item that was cut before
twice_is_one : (cuts : List ItemCut) (x y : Broken) → NamesTwice cuts x → NamesTwice cuts y → x ≡ y
twice_is_one cuts x y h k =
    let place : h.place ≡ k.place = same_place h.place k.place (twice_before cuts x y h k) (twice_before cuts y x k h) in
    let again : h.again ≡ k.again = same_at cuts h.place k.place h.again k.again place h.there k.there in
    let seek : ItemCut → ℕ → Option ItemCut = λ cut i. find (λ c. c.number == cut.number) (take i cuts) in
    let first : h.first ≡ k.first =
    same_Some h.first k.first (sym h.first_is ∙ ap (λ (cut : ItemCut). seek cut h.place) again ∙ ap (seek k.again) place ∙ k.first_is) in
    h.is
    ∙ ap (λ (cut : ItemCut). breach OrderRule.L9Twice cut.plate cut.node cut.number h.first.node) again
    ∙ ap (λ (cut : ItemCut). breach OrderRule.L9Twice k.again.plate k.again.node k.again.number cut.node) first
    ∙ sym k.is

-- where the stacks are kept before a place, no item is late before it
none_late : (cuts : List ItemCut) (i j : ℕ) (cut : ItemCut) (item last : Item) → slice_get cuts i ≡ Some cut → cut.item ≡ Some item → last_of_stack item.stack (take i cuts) ≡ Some last → item.sequence < last.sequence → j ≤ length cuts → KeepsStacks (items_of (take j cuts)) → ¬ (i < j)
none_late cuts i j cut item last there item_is last_is higher within kept before =
    let shorter : take i (take j cuts) ≡ take i cuts = take-take i j cuts (omega (arith, before)) in
    late_breaks (take j cuts) i cut item last (get_before cuts i j cut there before within)
    item_is (ap (last_of_stack item.stack) shorter ∙ last_is) higher kept

-- of two first items that are late neither stands before the other
late_before : (cuts : List ItemCut) (x y : Broken) (h : NamesLate cuts x) (k : NamesLate cuts y) → ¬ (h.place < k.place)
late_before cuts x y h k =
    let lt : k.place < length cuts = slice_get_within cuts k.place k.cut k.there in
    none_late cuts h.place k.place h.cut h.late.item h.late.last h.there h.late.item_is h.late.last_is h.late.higher (omega (arith, lt)) k.kept

-- there is one first item that is late
late_is_one : (cuts : List ItemCut) (x y : Broken) → NamesLate cuts x → NamesLate cuts y → x ≡ y
late_is_one cuts x y h k =
    let place : h.place ≡ k.place = same_place h.place k.place (late_before cuts x y h k) (late_before cuts y x k h) in
    let cut : h.cut ≡ k.cut = same_at cuts h.place k.place h.cut k.cut place h.there k.there in
    let item : h.late.item ≡ k.late.item = same_Some h.late.item k.late.item (sym h.late.item_is ∙ ap (λ (c : ItemCut). c.item) cut ∙ k.late.item_is) in
    let seek : Item → ℕ → Option Item = λ item i. last_of_stack item.stack (take i cuts) in
    let last : h.late.last ≡ k.late.last =
    same_Some h.late.last k.late.last (sym h.late.last_is ∙ ap (λ (i : Item). seek i h.place) item ∙ ap (seek k.late.item) place ∙ k.late.last_is) in
    h.late.is
    ∙ ap (λ (c : ItemCut). breach OrderRule.L10 c.plate c.node h.late.last.id c.number) cut
    ∙ ap (λ (i : Item). breach OrderRule.L10 k.cut.plate k.cut.node i.id k.cut.number) last
    ∙ sym k.late.is

-- there is one first item that the batch does not have
unknown_is_one : (cuts : List ItemCut) (x y : Broken) → NamesUnknown cuts x → NamesUnknown cuts y → x ≡ y
unknown_is_one cuts x y h k =
    h.is ∙ ap (λ (c : ItemCut). breach OrderRule.L9Unknown c.plate c.node c.number 0) (first_is_one cuts h.cut k.cut h.first k.first) ∙ sym k.is

-- there is one first item of the batch that is not cut
missing_is_one : (items : List Item) (cuts : List ItemCut) (x y : Broken) → NamesMissing items cuts x → NamesMissing items cuts y → x ≡ y
missing_is_one items cuts x y h k =
    h.is ∙ ap (λ (number : ℕ). breach OrderRule.L9Missing 0 0 number 0) (first_is_one (numbers items) h.number k.number h.first k.first) ∙ sym k.is

-- there is one first plate from which no item is cut
empty_plate_is_one : (cuts : List ItemCut) (plates : List Row) (x y : Broken) → NamesEmptyPlate cuts plates x → NamesEmptyPlate cuts plates y → x ≡ y
empty_plate_is_one cuts plates x y h k =
    h.is ∙ ap (λ (row : Row). breach OrderRule.L9EmptyPlate row.plate row.node row.plate 0) (first_is_one plates h.plate k.plate h.first k.first) ∙ sym k.is

-- one thing is said of a rule that is broken
names_are_one : (b : Problem) (cuts : List ItemCut) (plates : List Row) (rule : OrderRule) (x y : Broken) → Names b cuts plates rule x → Names b cuts plates rule y → x ≡ y
names_are_one b cuts plates OrderRule.L9Unknown x y h k = unknown_is_one cuts x y h k
names_are_one b cuts plates OrderRule.L9Twice x y h k = twice_is_one cuts x y h k
names_are_one b cuts plates OrderRule.L9Missing x y h k = missing_is_one b.items cuts x y h k
names_are_one b cuts plates OrderRule.L9EmptyPlate x y h k = empty_plate_is_one cuts plates x y h k
names_are_one b cuts plates OrderRule.L9Plates x y h k = h ∙ sym k
names_are_one b cuts plates OrderRule.L10 x y h k = late_is_one cuts x y h k

-- there is one breach of the rules on the order of items at the most
pub breaches_one : (b : Problem) (cuts : List ItemCut) (plates : List Row) (x y : Broken) → IsBreach b cuts plates x → IsBreach b cuts plates y → x ≡ y
breaches_one b cuts plates x y h k =
    let same : k.rule ≡ h.rule = first_is_one order_rules k.rule h.rule k.first h.first in
    names_are_one b cuts plates h.rule x y h.named (subst (λ (rule : OrderRule). Names b cuts plates rule y) same k.named)
