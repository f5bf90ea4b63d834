-- The tickets of the notes are the numbers below their count.
use Rattle.std.proofs.Common.{◌≡◌, ◌≢◌, ℕ, zero, suc, ◌+◌, ◌<◌, ◌≤◌, ◌⊎◌, inl, inr, cond, nat_lt, List, [], ◌∷◌, length, min, refl, sym, ap, ◌∙◌, arith, All}
use Rattle.std.specs.Prelude.{sum_by}
use Rattle.std.specs.List.{Contains}
use Rattle.std.proofs.lemmas.Bool.Decides.{nat_tests}
use Rattle.std.proofs.lemmas.List.Elements.{All-contains}
use Rattle.cert_log.specs.Lawful.{times, once_below}
use Rattle.cert_log.proofs.Sames.{test_of, tested, test_same}
use Rattle.cert_log.proofs.Counts.{sum_same, sum_two, sum_none, sum_at}
use Rattle.shared_best.proofs.Counts.{below_once}
use Rattle.box_workers.proofs.Lists.{ones}

abbrev less_of : ℕ → ℕ → ℕ
less_of k t = cond (nat_lt t k) 1 0

one_less : (k t : ℕ) → less_of (suc k) t ≡ less_of k t + test_of t k
one_less k t = grind (arith, nat_tests)

is_less : (k t : ℕ) → t < k → less_of k t ≡ 1
is_less k t h = grind (arith, nat_tests)

none_less : (t : ℕ) → less_of 0 t ≡ 0
none_less t = grind (arith, nat_tests)

pub below_is : (x k : ℕ) → x < k → once_below x k ≡ 1
below_is x k h = grind (arith, nat_tests)

pub above_is : (x k : ℕ) → k ≤ x → once_below x k ≡ 0
above_is x k h = grind (arith, nat_tests)

-- a list in which each number below k stands once, and no other, has k elements
module _ (k : ℕ) (xs : List ℕ) (each : (x : ℕ) → times x xs ≡ once_below x k) where
  so_far : (n : ℕ) → n ≤ k → sum_by (less_of n) xs ≡ n
  so_far zero h = sum_none (less_of 0) xs (λ t _. none_less t)
  so_far (suc n) h =
      let i = so_far n (omega arith) in let e = each n in let o = below_is n k (omega arith) in
      let s = sum_same (less_of (suc n)) (λ t. less_of n t + test_of t n) xs (λ t _. one_less n t) in let t = sum_two (less_of n) (λ t. test_of t n) xs in omega arith

  pub as_many : length xs ≡ k
  as_many =
      sym (ones xs) ∙ sum_same (λ (_ : ℕ). 1) (less_of k) xs (λ t at. sym (is_less k t (below_once t k (let c = sum_at (λ (u : ℕ). test_of u t) xs t at in let o = test_same t t refl in let e = each t in omega arith))))
      ∙ so_far k (omega arith)

-- no number of the list is this one
pub stands_not : (x : ℕ) (xs : List ℕ) → ((t : ℕ) → Contains xs t → t ≢ x) → times x xs ≡ 0
stands_not x xs other = sum_none (λ (t : ℕ). test_of t x) xs (λ t at. elim (tested t x) [ inl same ↦ absurd (other t at same.0) | inr not ↦ not.1 ])

pub record AreTickets (budget : ℕ) (ts spent : List ℕ) : Type 0 where
  pub each : (x : ℕ) → times x ts ≡ once_below x (length ts)
  pub few : length ts ≤ budget
  pub all : spent ≢ [] → length ts ≡ budget

-- tickets below the budget and tickets beyond it
module _ (budget : ℕ) (ts spent : List ℕ) (each : (x : ℕ) → times x ts + times x spent ≡ once_below x (length ts + length spent)) (under : (t : ℕ) → Contains ts t → t < budget) (beyond : All (λ t. budget ≤ t) spent) where
  most : ℕ
  most = min (length ts + length spent) budget

  not_spent : (x : ℕ) → x < budget → times x spent ≡ 0
  not_spent x low = stands_not x spent (λ t at same. absurd (let h = All-contains (λ t. budget ≤ t) spent t beyond at in omega arith))

  not_noted : (x : ℕ) → budget ≤ x → times x ts ≡ 0
  not_noted x high = stands_not x ts (λ t at same. absurd (let h = under t at in omega arith))

  side : (x n : ℕ) → (x < n) ⊎ (n ≤ x)
  side x zero = inr (omega arith)
  side zero (suc n) = inl (omega arith)
  side (suc x) (suc n) = elim (side x n) [ inl low ↦ inl (omega arith) | inr high ↦ inr (omega arith) ]

  each_most : (x : ℕ) → times x ts ≡ once_below x (min (length ts + length spent) budget)
  each_most x =
      let e = each x in let n = length ts + length spent in
      elim (side x budget) [
        | inl low ↦
            (let z = not_spent x low in
            elim (side x n)
            [ inl within ↦ (let a = below_is x n within in let c = below_is x (min n budget) (omega arith) in omega arith) | inr past ↦ (let a = above_is x n past in let c = above_is x (min n budget) (omega arith) in omega arith) ])
        | inr high ↦ (let z = not_noted x high in let c = above_is x (min n budget) (omega arith) in omega arith)
      ]

  pub are_tickets : AreTickets budget ts spent
  are_tickets =
      let n = as_many (min (length ts + length spent) budget) ts each_most in record {
        each = λ x. (each_most x ∙ ap (once_below x) (sym n));
        few = omega arith;
        all = λ some. (let l = some_length spent some in omega arith);
      }
    where
      some_length : (xs : List ℕ) → xs ≢ [] → 1 ≤ length xs
      some_length [] some = absurd (some refl)
      some_length (x ∷ xs) some = omega arith
