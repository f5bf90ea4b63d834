-- Items that are cut again, and items that are not cut.
use Rattle.std.proofs.Common.{◌≡◌, ◌≢◌, ℕ, ◌+◌, ◌<◌, ◌==◌, List, [], ◌∷◌, ◌++◌, length, get_or, take, find, sym, ap, subst, ◌∙◌, arith, Some, None, All, AllPairs, Any, Contains, eqb-true, eq-eqb, length-take-le}
use Rattle.std.specs.Prelude.{slice_get}
use Rattle.std.proofs.lemmas.Option.{slice_get_within, get_or_from_slice_get}
use Rattle.std.proofs.lemmas.List.{take_more, take-map, get_or-map, get_or-take, get_or_default, length-map}
use Rattle.std.proofs.lemmas.List.Elements.{All-map}
use Rattle.std.proofs.lemmas.List.Quantifiers.{all_pairs_push}
use Rattle.glass_base.specs.declared.item.Item.{Item}
use Rattle.cut_model.specs.Firsts.{IsFirstWithout}
use Rattle.cut_model.proofs.Firsts.{first_at}
use Rattle.stack_order.specs.declared.cuts.ItemCut.{ItemCut}
use Rattle.stack_order.specs.Breaches.{numbers, numbers_cut}
use Rattle.stack_order.proofs.Searches.{find_some, find_none, any_from_contained}

-- an item of another number than those before it
pub different_more : (cuts : List ItemCut) (i : ℕ) (cut d : ItemCut) → i < length cuts → cut ≡ get_or cuts i d → AllPairs (λ a c. a.number ≢ c.number) (take i cuts) → find (λ c. c.number == cut.number) (take i cuts) ≡ None → AllPairs (λ a c. a.number ≢ c.number) (take (i + 1) cuts)
different_more cuts i cut d lt is different none =
    let parts : take (i + 1) cuts ≡ take i cuts ++ cut ∷ [] = take_more cuts i d lt ∙ ap (λ (c : ItemCut). take i cuts ++ c ∷ []) (sym is) in
    subst (AllPairs (λ (a c : ItemCut). a.number ≢ c.number)) (sym parts)
    (all_pairs_push (λ (a c : ItemCut). a.number ≢ c.number) (take i cuts) cut different
    (λ k e within same.
    let other : ItemCut = get_or (take i cuts) k e in
    find_none (λ (c : ItemCut). c.number == cut.number) (take i cuts) other none
    (k, within, get_or_default (take i cuts) k other e within)
    (eq-eqb other.number cut.number same)))

-- an item that is cut again breaks the rule that each is cut once
pub twice_breaks : (cuts : List ItemCut) (i : ℕ) (again first : ItemCut) → slice_get cuts i ≡ Some again → find (λ c. c.number == again.number) (take i cuts) ≡ Some first → ¬ AllPairs (λ a c. a.number ≢ c.number) cuts
twice_breaks cuts i again first there found different =
    let lt : i < length cuts = slice_get_within cuts i again there in
    let h = find_some (λ (c : ItemCut). c.number == again.number) (take i cuts) first found in
    let k : ℕ = h.0.0 in
    let before : k < i = omega (arith, h.0.1, lt, length-take-le i cuts) in
    let first_is : get_or cuts k again ≡ first =
    get_or_default cuts k again first (omega (arith, before, lt)) ∙ sym (get_or-take i cuts k first before) ∙ h.0.2 in
    let apart : (get_or cuts k again).number ≢ (get_or cuts i again).number = different k i again before lt in
    apart (ap (λ (c : ItemCut). c.number) first_is ∙ eqb-true first.number again.number h.1 ∙ ap (λ (c : ItemCut). c.number) (sym (get_or_from_slice_get cuts i again again there)))

-- the first item of the batch that is not cut
pub missing_at : (items : List Item) (cuts : List ItemCut) (i : ℕ) (item d : Item) → i < length items → item ≡ get_or items i d → All (λ other. Contains (numbers_cut cuts) other.id) (take i items) → ¬ Any (λ c. c.number ≡ item.id) cuts → IsFirstWithout (Contains (numbers_cut cuts)) (numbers items) item.id
missing_at items cuts i item d lt is before none =
    first_at (numbers items) i item.id d.id (omega (arith, lt, length-map items (λ (other : Item). other.id)))
    (ap (λ (other : Item). other.id) is ∙ sym (get_or-map (λ (other : Item). other.id) items i d d.id lt))
    (subst (All (Contains (numbers_cut cuts))) (sym (take-map (λ (other : Item). other.id) i items)) (All-map (Contains (numbers_cut cuts)) (λ (other : Item). other.id) (take i items) before))
    (λ has. none (any_from_contained (λ (c : ItemCut). c.number) cuts item.id has))
