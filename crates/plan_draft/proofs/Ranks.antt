-- Lists of numbers that are compared, the first that differs deciding.
use Rattle.std.proofs.Common.{◌≡◌, ℕ, ◌<◌, ◌≤◌, ◌==◌, inl, inr, List, [], ◌∷◌, true, false, nat_lt, sym, arith, length}
use Rattle.std.proofs.lemmas.Bool.{cases_Bool, cases_lt}
use Rattle.std.proofs.lemmas.Bool.Decides.{nat_tests}
use Rattle.plan_draft.specs.Drafts.{NotAfter}
use Rattle.plan_draft.specs.inner.Places.{not_after}

-- by the first number, or where it is the same by the others
pub by_first : (n m : ℕ) (xs ys : List ℕ) → n ≤ m → (n ≡ m → NotAfter xs ys) → NotAfter (n ∷ xs) (m ∷ ys)
by_first n m xs ys le rest = elim (cases_lt n m) [ inl lt ↦ inl lt | inr more ↦ let e : n ≡ m = omega (arith, le, more) in inr (e, rest e) ]

equal_test : (n m : ℕ) → (n == m) ≡ true → n ≡ m
equal_test n m e = grind (arith, nat_tests)

less_test : (n m : ℕ) → nat_lt n m ≡ true → n < m
less_test n m e = grind (arith, nat_tests)

more_test : (n m : ℕ) → (n == m) ≡ false → nat_lt n m ≡ false → m < n
more_test n m e l = grind (arith, nat_tests)

-- the test tells which of two lists of the same length comes first
pub decided : (xs ys : List ℕ) → length xs ≡ length ys → not_after xs ys ≡ true → NotAfter xs ys
decided [] ys same e = tt
decided (n ∷ xs) [] same e = cc
decided (n ∷ xs) (m ∷ ys) same e =
    elim (cases_Bool (n == m)) [
      | inl is ↦ inr (equal_test n m is, decided xs ys (omega (arith, same)) (rw is at e))
      | inr isnt ↦ inl (less_test n m (rw isnt at e))
    ]

pub decided_back : (xs ys : List ℕ) → length xs ≡ length ys → not_after xs ys ≡ false → NotAfter ys xs
decided_back [] ys same e = cc
decided_back (n ∷ xs) [] same e = absurd (omega (arith, same))
decided_back (n ∷ xs) (m ∷ ys) same e =
    elim (cases_Bool (n == m)) [
      | inl is ↦ inr (sym (equal_test n m is), decided_back xs ys (omega (arith, same)) (rw is at e))
      | inr isnt ↦ inl (more_test n m isnt (rw isnt at e))
    ]

-- what comes no later than one that comes no later
pub follows : (xs ys zs : List ℕ) → NotAfter xs ys → NotAfter ys zs → NotAfter xs zs
follows [] ys zs h k = tt
follows (n ∷ xs) [] zs h k = absurd h
follows (n ∷ xs) (m ∷ ys) [] h k = absurd k
follows (n ∷ xs) (m ∷ ys) (o ∷ zs) (inl lt) (inl less) = inl (omega (arith, lt, less))
follows (n ∷ xs) (m ∷ ys) (o ∷ zs) (inl lt) (inr h) = inl (omega (arith, lt, h.0))
follows (n ∷ xs) (m ∷ ys) (o ∷ zs) (inr h) (inl lt) = inl (omega (arith, h.0, lt))
follows (n ∷ xs) (m ∷ ys) (o ∷ zs) (inr h) (inr k) = inr (omega (arith, h.0, k.0), follows xs ys zs h.1 k.1)
