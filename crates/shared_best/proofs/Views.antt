-- Sums and least values over a list of views, one of which changes.
use Rattle.std.proofs.Common.{◌≡◌, ◌≢◌, ℕ, zero, suc, ◌+◌, ◌≤◌, List, [], ◌∷◌, ◌++◌, length, set, min, sym, refl, ap, subst, ⊎_elim, arith}
use Rattle.std.specs.Prelude.{sum_by}
use Rattle.std.proofs.lemmas.List.Sums.{sum_by-cons}
use mathlib.Core.Option.{some, some-ne-none, some-injective}
use lib.ListN.{get_elem?}
use Rattle.atomic_table.proofs.Lists.{at_set, at_snoc}
use Rattle.shared_best.specs.declared.view.View.{View}
use Rattle.shared_best.specs.Words.{none_known}
use Rattle.shared_best.specs.Rule.{least}

module _ {A : Type 0} (f : A → ℕ) where
  pub total_set : (l : List A) (i : ℕ) (v w : A) → get_elem? l i ≡ some v → sum_by f (set l i w) + f v ≡ sum_by f l + f w
  total_set [] i v w e = absurd (some-ne-none v (sym e))
  total_set (x ∷ xs) zero v w e = let p = ap f (some-injective x v e) in omega (arith, sum_by-cons f x xs, sum_by-cons f w xs)
  total_set (x ∷ xs) (suc i) v w e = omega (arith, total_set xs i v w e, sum_by-cons f x xs, sum_by-cons f x (set xs i w))

  pub at_le : (l : List A) (i : ℕ) (v : A) → get_elem? l i ≡ some v → f v ≤ sum_by f l
  at_le [] i v e = absurd (some-ne-none v (sym e))
  at_le (x ∷ xs) zero v e = let p = ap f (some-injective x v e) in omega (arith, sum_by-cons f x xs)
  at_le (x ∷ xs) (suc i) v e = omega (arith, at_le xs i v e, sum_by-cons f x xs)

  pub two_le : (l : List A) (i j : ℕ) (v u : A) → j ≢ i → get_elem? l i ≡ some v → get_elem? l j ≡ some u → f v + f u ≤ sum_by f l
  two_le [] i j v u n e d = absurd (some-ne-none v (sym e))
  two_le (x ∷ xs) zero zero v u n e d = absurd (n refl)
  two_le (x ∷ xs) zero (suc j) v u n e d = let p = ap f (some-injective x v e) in omega (arith, at_le xs j u d, sum_by-cons f x xs)
  two_le (x ∷ xs) (suc i) zero v u n e d = let p = ap f (some-injective x u d) in omega (arith, at_le xs i v e, sum_by-cons f x xs)
  two_le (x ∷ xs) (suc i) (suc j) v u n e d = omega (arith, two_le xs i j v u (λ p. n (ap suc p)) e d, sum_by-cons f x xs)

  pub sum_zero : (l : List A) → ((j : ℕ) (u : A) → get_elem? l j ≡ some u → f u ≡ 0) → sum_by f l ≡ 0
  sum_zero [] h = refl
  sum_zero (x ∷ xs) h = omega (arith, sum_zero xs (λ j u e. h (suc j) u e), h zero x refl, sum_by-cons f x xs)

  pub sum_alone : (l : List A) (i : ℕ) (v : A) → get_elem? l i ≡ some v → ((j : ℕ) (u : A) → j ≢ i → get_elem? l j ≡ some u → f u ≡ 0) → sum_by f l ≡ f v
  sum_alone [] i v e h = absurd (some-ne-none v (sym e))
  sum_alone (x ∷ xs) zero v e h = let p = ap f (some-injective x v e) in
      omega (arith, sum_zero xs (λ j u d. h (suc j) u (λ q. absurd (omega arith)) d), sum_by-cons f x xs)
  sum_alone (x ∷ xs) (suc i) v e h = omega (arith, sum_alone xs i v e (λ j u n d. h (suc j) u (λ q. n (omega arith)) d), h zero x (λ q. absurd (omega arith)) refl, sum_by-cons f x xs)

pub each_set : {A : Type 0} (P : A → Type 0) (l : List A) (i : ℕ) (w : A) → P w → ((j : ℕ) (u : A) → j ≢ i → get_elem? l j ≡ some u → P u)
    → (j : ℕ) (u : A) → get_elem? (set l i w) j ≡ some u → P u
each_set {A} P l i w mine others j u e = ⊎_elim (λ (t : (j ≡ i) × (w ≡ u)). subst P t.1 mine) (λ (t : (j ≢ i) × (get_elem? l j ≡ some u)). others j u t.0 t.1) (at_set l i j w u e)

pub each_snoc : {A : Type 0} (P : A → Type 0) (l : List A) (w : A) → P w → ((j : ℕ) (u : A) → get_elem? l j ≡ some u → P u)
    → (j : ℕ) (u : A) → get_elem? (l ++ w ∷ []) j ≡ some u → P u
each_snoc {A} P l w mine others j u e = ⊎_elim (λ (t : get_elem? l j ≡ some u). others j u t) (λ (t : w ≡ u). subst P t mine) (at_snoc l w u j e)

pub least_low : (n : ℕ) (l : List View) → least n l ≤ n
least_low n [] = omega arith
least_low n (x ∷ xs) = omega (arith, least_low n xs)

pub least_at : (n : ℕ) (l : List View) (i : ℕ) (v : View) → get_elem? l i ≡ some v → least n l ≤ v.announced
least_at n [] i v e = absurd (some-ne-none v (sym e))
least_at n (x ∷ xs) zero v e = let p = ap (λ (u : View). u.announced) (some-injective x v e) in omega arith
least_at n (x ∷ xs) (suc i) v e = omega (arith, least_at n xs i v e)

pub least_set : (n : ℕ) (l : List View) (i : ℕ) (v w : View) → get_elem? l i ≡ some v → min (least n (set l i w)) v.announced ≡ min (least n l) w.announced
least_set n [] i v w e = absurd (some-ne-none v (sym e))
least_set n (x ∷ xs) zero v w e = let p = ap (λ (u : View). u.announced) (some-injective x v e) in omega arith
least_set n (x ∷ xs) (suc i) v w e = let r = least_set n xs i v w e in omega arith

pub least_snoc : (n : ℕ) (l : List View) (w : View) → least n (l ++ w ∷ []) ≡ min (least n l) w.announced
least_snoc n [] w = omega arith
least_snoc n (x ∷ xs) w = omega (arith, least_snoc n xs w)

pub least_quiet : (n : ℕ) (l : List View) → n ≤ none_known → ((j : ℕ) (u : View) → get_elem? l j ≡ some u → u.announced ≡ none_known) → least n l ≡ n
least_quiet n [] s h = refl
least_quiet n (x ∷ xs) s h = omega (arith, least_quiet n xs s (λ j u e. h (suc j) u e), h zero x refl)

pub least_alone : (n : ℕ) (l : List View) (i : ℕ) (v : View) → n ≤ none_known → get_elem? l i ≡ some v → ((j : ℕ) (u : View) → j ≢ i → get_elem? l j ≡ some u → u.announced ≡ none_known)
    → least n l ≡ min n v.announced
least_alone n [] i v s e h = absurd (some-ne-none v (sym e))
least_alone n (x ∷ xs) zero v s e h = let p = ap (λ (u : View). u.announced) (some-injective x v e) in
    omega (arith, least_quiet n xs s (λ j u d. h (suc j) u (λ q. absurd (omega arith)) d))
least_alone n (x ∷ xs) (suc i) v s e h = omega (arith, least_alone n xs i v s e (λ j u m d. h (suc j) u (λ q. m (omega arith)) d), h zero x (λ q. absurd (omega arith)) refl)

pub set_there : {A : Type 0} (l : List A) (i : ℕ) (v w : A) → get_elem? l i ≡ some v → get_elem? (set l i w) i ≡ some w
set_there [] i v w e = absurd (some-ne-none v (sym e))
set_there (x ∷ xs) zero v w e = refl
set_there (x ∷ xs) (suc i) v w e = set_there xs i v w e

pub empty_of_length : {A : Type 0} (l : List A) → length l ≡ 0 → l ≡ []
empty_of_length [] e = refl
empty_of_length (x ∷ xs) e = absurd (omega arith)
