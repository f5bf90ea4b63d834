-- The lists that are left make an instance.
use Rattle.std.proofs.Common.{◌≡◌, ℕ, ◌+◌, ◌<◌, ◌≤◌, inl, inr, List, [], ◌∷◌, ◌++◌, filter, get_or, length, take, Bool, true, false, not, nat_le, refl, sym, ap, ◌∙◌, arith, All}
use Rattle.std.proofs.lemmas.Bool.{cases_Bool}
use Rattle.std.proofs.lemmas.Bool.Decides.{nat_tests}
use Rattle.std.proofs.lemmas.List.{append-nil, take_more}
use Rattle.std.proofs.lemmas.List.Elements.{All-cons, All-filter, All-head, All-nil, All-tail, filter_map-append}
use Rattle.std.proofs.lemmas.List.Kept.{AllPairs-filter}
use Rattle.glass_base.specs.BadInstance.{MakesInstance}
use Rattle.glass_base.specs.Items.{DifferentIds, DifferentPlaces, HasSides, IsDefectInRange, IsItemInRange}
use Rattle.glass_base.specs.Problem.{Problem, IsProblem}
use Rattle.glass_base.specs.declared.item.Defect.{Defect}
use Rattle.glass_base.specs.declared.item.Item.{Item}
use Rattle.plan_freeze.specs.Rests.{defect_from, defects_from, is_among, items_besides}
use Rattle.plan_freeze.proofs.DefectsLeft.{lowered}

fewer : {X : Type 0} (p : X → Bool) (xs : List X) → length (filter p xs) ≤ length xs
fewer p [] = omega arith
fewer p (x ∷ xs) = elim (cases_Bool (p x)) [ inl is ↦ rw is (omega (arith, fewer p xs)) | inr isnt ↦ rw isnt (omega (arith, fewer p xs)) ]

fewer_defects : (k : ℕ) (defects : List Defect) → length (defects_from k defects) ≤ length defects
fewer_defects k [] = omega arith
fewer_defects k (d ∷ defects) = elim (cases_Bool (nat_le k d.plate)) [
  | inl is ↦ rw is (omega (arith, fewer_defects k defects))
  | inr isnt ↦ rw isnt (omega (arith, fewer_defects k defects))
]

pub defects_in_range : (k : ℕ) (defects : List Defect) → All IsDefectInRange defects → All IsDefectInRange (defects_from k defects)
defects_in_range k [] h = All-nil IsDefectInRange
defects_in_range k (d ∷ defects) h =
    let rest = defects_in_range k defects (All-tail IsDefectInRange d defects h) in
    elim (cases_Bool (nat_le k d.plate)) [
      | inl is ↦ rw is (All-cons IsDefectInRange (lowered k d) (defects_from k defects) (All-head IsDefectInRange d defects h) rest)
      | inr isnt ↦ rw isnt rest
    ]

pub items_in_range : (numbers : List ℕ) (items : List Item) → All IsItemInRange items → All IsItemInRange (items_besides numbers items)
items_in_range numbers items h = All-filter (λ (item : Item). not (is_among numbers item)) IsItemInRange items h

pub makes_instance : (b : Problem) (k : ℕ) (numbers : List ℕ) → IsProblem b → 1 ≤ length (items_besides numbers b.items) → MakesInstance (items_besides numbers b.items) (defects_from k b.defects)
makes_instance b k numbers rules some =
    let left : Item → Bool = λ (item : Item). not (is_among numbers item) in
    record {
      counted = record {
        some = some;
        few_items = omega (arith, fewer left b.items, rules.few_items);
        few_defects = omega (arith, fewer_defects k b.defects, rules.few_defects);
      };
      ids = AllPairs-filter DifferentIds left b.items rules.ids;
      sequences = AllPairs-filter DifferentPlaces left b.items rules.sequences;
      sides = All-filter left HasSides b.items rules.sides;
    }

-- the defects from a plate on, with one more defect
defects_more : (k : ℕ) (defects : List Defect) (i : ℕ) (d : Defect) → i < length defects → defects_from k (take (i + 1) defects) ≡ defects_from k (take i defects) ++ defects_from k (get_or defects i d ∷ [])
defects_more k defects i d lt = ap (defects_from k) (take_more defects i d lt) ∙ filter_map-append (defect_from k) (take i defects) (get_or defects i d ∷ [])

pub defects_kept : (k : ℕ) (defects old new : List Defect) (i : ℕ) (d : Defect) → i < length defects → k ≤ (get_or defects i d).plate → old ≡ defects_from k (take i defects) →
    new ≡ old ++ lowered k (get_or defects i d) ∷ [] → new ≡ defects_from k (take (i + 1) defects)
defects_kept k defects old new i d lt le so pushed =
    let x : Defect = get_or defects i d in
    let test : nat_le k x.plate ≡ true = is_le k x.plate le in
    let one : defects_from k (x ∷ []) ≡ lowered k x ∷ [] = rw test refl in
    pushed ∙ ap (λ (l : List Defect). l ++ lowered k x ∷ []) so ∙ ap (λ (l : List Defect). defects_from k (take i defects) ++ l) (sym one) ∙ sym (defects_more k defects i d lt)
  where
    is_le : (m n : ℕ) → m ≤ n → nat_le m n ≡ true
    is_le m n h = grind (arith, nat_tests)

pub defects_passed : (k : ℕ) (defects old : List Defect) (i : ℕ) (d : Defect) → i < length defects → (get_or defects i d).plate < k → old ≡ defects_from k (take i defects) → old ≡ defects_from k (take (i + 1) defects)
defects_passed k defects old i d lt below so =
    let x : Defect = get_or defects i d in
    let test : nat_le k x.plate ≡ false = not_le k x.plate below in
    let none : defects_from k (x ∷ []) ≡ [] = rw test refl in
    so ∙ sym (append-nil (defects_from k (take i defects))) ∙ ap (λ (l : List Defect). defects_from k (take i defects) ++ l) (sym none) ∙ sym (defects_more k defects i d lt)
  where
    not_le : (m n : ℕ) → n < m → nat_le m n ≡ false
    not_le m n h = grind (arith, nat_tests)
