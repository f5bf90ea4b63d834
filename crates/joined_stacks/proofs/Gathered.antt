-- Sums over the stacks that have one home.
use Rattle.std.proofs.Common.{◌≡◌, ◌≢◌, ℕ, zero, suc, ◌+◌, ◌<◌, ◌≤◌, ◌⊎◌, inl, inr, ◌==◌, Bool, true, false, cond, List, refl, sym, ap, subst, arith}
use Rattle.std.proofs.lemmas.Bool.Decides.{nat_tests}
use Rattle.joined_stacks.specs.inner.Homes.{home_of, at_home}

below_last : (stack k : ℕ) → stack < suc k → (stack < k) ⊎ (stack ≡ k)
below_last stack k lt = grind arith

pub same_or_not : (m n : ℕ) → (m ≡ n) ⊎ (m ≢ n)
same_or_not m n = grind arith

when_same : (m n a : ℕ) → m ≡ n → cond (m == n) a 0 ≡ a
when_same m n a e = grind (arith, nat_tests)

cond_le : (t : Bool) (m n : ℕ) → m ≤ n → cond t m 0 ≤ cond t n 0
cond_le true m n le = le
cond_le false m n le = omega arith

-- a sum is no greater than that of greater numbers
pub at_home-le : (homes : List ℕ) (f g : ℕ → ℕ) (home k : ℕ) → ((stack : ℕ) → f stack ≤ g stack) → at_home homes f home k ≤ at_home homes g home k
at_home-le homes f g home zero le = omega arith
at_home-le homes f g home (suc k) le =
    omega (arith, at_home-le homes f g home k le, cond_le (home_of homes k == home) (f k) (g k) (le k))

-- and the other numbers of the sum have no more room than all have
pub at_home-room : (homes : List ℕ) (f g : ℕ → ℕ) (home k stack : ℕ) → ((s : ℕ) → f s ≤ g s) → stack < k → home_of homes stack ≡ home → at_home homes f home k + g stack ≤ at_home homes g home k + f stack
at_home-room homes f g home zero stack le lt is = absurd (omega arith)
at_home-room homes f g home (suc k) stack le lt is =
    elim (below_last stack k lt) [
      | inl below ↦ omega (arith, at_home-room homes f g home k stack le below is, cond_le (home_of homes k == home) (f k) (g k) (le k))
      | inr e ↦
          let own : home_of homes k ≡ home = subst (λ n. home_of homes n ≡ home) e is in
          omega (arith, at_home-le homes f g home k le, when_same (home_of homes k) home (f k) own, when_same (home_of homes k) home (g k) own, ap f e, ap g e)
    ]

-- one number is no greater than the sum
pub at_home-one : (homes : List ℕ) (f : ℕ → ℕ) (home k stack : ℕ) → stack < k → home_of homes stack ≡ home → f stack ≤ at_home homes f home k
at_home-one homes f home zero stack lt is = absurd (omega arith)
at_home-one homes f home (suc k) stack lt is =
    elim (below_last stack k lt) [
      | inl below ↦ omega (arith, at_home-one homes f home k stack below is)
      | inr e ↦
          let own : home_of homes k ≡ home = subst (λ n. home_of homes n ≡ home) e is in
          omega (arith, when_same (home_of homes k) home (f k) own, ap f e)
    ]

-- the same numbers, the same sum
pub at_home-same : (homes : List ℕ) (f g : ℕ → ℕ) (home k : ℕ) → ((stack : ℕ) → stack < k → f stack ≡ g stack) → at_home homes f home k ≡ at_home homes g home k
at_home-same homes f g home zero same = refl
at_home-same homes f g home (suc k) same =
    omega (arith, at_home-same homes f g home k (λ stack lt. same stack (omega arith)), ap (λ n. cond (home_of homes k == home) n 0) (same k (omega arith)))

-- one number more by one, the sum is
pub at_home-next : (homes : List ℕ) (f g : ℕ → ℕ) (home k stack : ℕ) → stack < k → home_of homes stack ≡ home → g stack ≡ suc (f stack) → ((s : ℕ) → s ≢ stack → g s ≡ f s) → at_home homes g home k ≡ suc (at_home homes f home k)
at_home-next homes f g home zero stack lt is more same = absurd (omega arith)
at_home-next homes f g home (suc k) stack lt is more same =
    elim (below_last stack k lt) [
      | inl below ↦
          omega (arith, at_home-next homes f g home k stack below is more same, ap (λ n. cond (home_of homes k == home) n 0) (same k (omega arith)))
      | inr e ↦
          let own : home_of homes k ≡ home = subst (λ n. home_of homes n ≡ home) e is in
          omega (
            arith,
            at_home-same homes g f home k (λ s below. same s (omega arith)),
            when_same (home_of homes k) home (f k) own,
            when_same (home_of homes k) home (g k) own,
            ap f e,
            ap g e,
            more,
          )
    ]

unless_same : (m n a c : ℕ) → m ≢ n → cond (m == n) a 0 ≡ cond (m == n) c 0
unless_same m n a c apart = grind (arith, nat_tests)

-- the sum of another home is the same
pub at_home-other : (homes : List ℕ) (f g : ℕ → ℕ) (home k stack : ℕ) → home_of homes stack ≢ home → ((s : ℕ) → s ≢ stack → g s ≡ f s) → at_home homes g home k ≡ at_home homes f home k
at_home-other homes f g home zero stack apart same = refl
at_home-other homes f g home (suc k) stack apart same =
    elim (same_or_not k stack) [
      | inl e ↦ omega (arith, at_home-other homes f g home k stack apart same, unless_same (home_of homes k) home (f k) (g k) (subst (λ n. home_of homes n ≢ home) (sym e) apart))
      | inr ne ↦ omega (arith, at_home-other homes f g home k stack apart same, ap (λ n. cond (home_of homes k == home) n 0) (same k ne))
    ]
