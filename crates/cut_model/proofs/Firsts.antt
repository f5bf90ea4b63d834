-- The first element of a list for which a fact does not hold: where it is found, and that there is only one.
use Rattle.std.proofs.Common.{◌≡◌, ℕ, ◌<◌, List, [], ◌∷◌, ◌++◌, length, take, get_or, Some, All, sym, ap, subst, ◌∙◌, arith, inl, inr, ◌⊎◌}
use Rattle.std.specs.Prelude.{slice_get}
use Rattle.std.proofs.lemmas.List.{take-append-le, get_or-take}
use Rattle.std.proofs.Math.Seq.{take-append_seam, get_or-append_seam}
use Rattle.std.proofs.Math.ListN.{get_or-append}
use Rattle.std.proofs.lemmas.Option.{slice_get_within, get_or_from_slice_get, slice_get-get_or}
use Rattle.std.proofs.Common.{length-append, length-take-le}
use Rattle.cut_model.specs.Firsts.{IsFirstWithout}

-- found while a list is gone through
pub first_at : {A : Type 0} {Holds : A → Type 0} (xs : List A) (i : ℕ) (x d : A) → i < length xs → x ≡ get_or xs i d → All Holds (take i xs) → ¬ Holds x → IsFirstWithout Holds xs x
first_at xs i x d lt is before fails = record {
  place = i;
  there = slice_get-get_or xs i d lt ∙ ap Some (sym is);
  before = before;
  fails = fails;
}

-- found at the end of a list that grows
pub first_pushed : {A : Type 0} {Holds : A → Type 0} (xs : List A) (y : A) → All Holds xs → ¬ Holds y → IsFirstWithout Holds (xs ++ y ∷ []) y
first_pushed {Holds = Holds} xs y held fails =
    first_at (xs ++ y ∷ []) (length xs) y y (omega (arith, length-append xs (y ∷ []))) (sym (get_or-append_seam xs y [] y))
    (rw (take-append_seam xs (y ∷ [])) held) fails

-- it stays the first when the list grows
pub first_stays : {A : Type 0} {Holds : A → Type 0} (xs ys : List A) (x : A) → IsFirstWithout Holds xs x → IsFirstWithout Holds (xs ++ ys) x
first_stays {Holds = Holds} xs ys x h =
    let lt = slice_get_within xs h.place x h.there in
    first_at (xs ++ ys) h.place x x (omega (arith, lt, length-append xs ys)) (sym (get_or-append xs ys x h.place lt ∙ get_or_from_slice_get xs h.place x x h.there))
    (rw (take-append-le h.place xs ys (omega (arith, lt))) h.before) h.fails

-- where there is one, the fact does not hold for all
pub first_not_all : {A : Type 0} {Holds : A → Type 0} (xs : List A) (x : A) → IsFirstWithout Holds xs x → ¬ All Holds xs
first_not_all {Holds = Holds} xs x h all =
    h.fails (subst Holds (get_or_from_slice_get xs h.place x x h.there) (all h.place x (slice_get_within xs h.place x h.there)))

-- an element before the first one
held_before : {A : Type 0} {Holds : A → Type 0} (xs : List A) (x y : A) (h : IsFirstWithout Holds xs x) (i : ℕ) → slice_get xs i ≡ Some y → i < h.place → Holds y
held_before {Holds = Holds} xs x y h i at before =
    let lt = slice_get_within xs h.place x h.there in
    let is : get_or (take h.place xs) i y ≡ y = get_or-take h.place xs i y before ∙ get_or_from_slice_get xs i y y at in
    subst Holds is (h.before i y (omega (arith, before, length-take-le h.place xs (omega (arith, lt)))))

-- there is only one
pub first_is_one : {A : Type 0} {Holds : A → Type 0} (xs : List A) (x y : A) → IsFirstWithout Holds xs x → IsFirstWithout Holds xs y → x ≡ y
first_is_one xs x y h k = by (cases h.place k.place)
  where
    cases : (i j : ℕ) → (i < j) ⊎ (j < i) ⊎ (i ≡ j)
    cases i j = grind arith

    by : (h.place < k.place) ⊎ (k.place < h.place) ⊎ (h.place ≡ k.place) → x ≡ y
    by o = elim o [
      | inl lt ↦ absurd (h.fails (held_before xs y x k h.place h.there lt))
      | inr rest ↦ elim rest [
        | inl gt ↦ absurd (k.fails (held_before xs x y h k.place k.there gt))
        | inr same ↦ sym (get_or_from_slice_get xs h.place x x h.there) ∙ ap (λ i. get_or xs i x) same ∙ get_or_from_slice_get xs k.place y x k.there
      ]
    ]
