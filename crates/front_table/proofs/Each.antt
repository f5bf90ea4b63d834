-- What holds of each element so far.
use Rattle.std.proofs.Common.{◌≡◌, ℕ, ◌+◌, ◌<◌, inl, inr, List, length, get_or, sym, subst, arith, map, ap, ◌∙◌, Contains, Option, Some, unwrap_or}
use Rattle.std.proofs.lemmas.Bool.{cases_lt}
use Rattle.std.proofs.lemmas.List.{get_or_default, get_or-map}

-- one element more
pub up_to : {X : Type 0} (P : X → Type 0) (xs : List X) (n : ℕ) (e : X) → n < length xs → ((k : ℕ) (d : X) → k < n → P (get_or xs k d)) → P (get_or xs n e) → (k : ℕ) (d : X) → k < n + 1 → P (get_or xs k d)
up_to {X} P xs n e lt before here k d le =
    elim (cases_lt k n) [
      | inl below ↦ before k d below
      | inr ge ↦
          let same : n ≡ k = omega (arith, le, ge) in
          subst (λ (i : ℕ). P (get_or xs i d)) same (subst P (get_or_default xs n e d lt) here)
    ]

-- an element of a list that is seen by `f`
pub seen_at : {X Y : Type 0} (xs : List X) (f : X → Y) (at : ℕ) (x : X) (y : Y) → at < length xs → x ≡ get_or xs at x → get_or (map f xs) at y ≡ f x
seen_at xs f at x y lt is = get_or-map f xs at x y lt ∙ ap f (sym is)

-- one number more
pub below_next : (P : ℕ → Type 0) (n : ℕ) → ((k : ℕ) → k < n → P k) → P n → (k : ℕ) → k < n + 1 → P k
below_next P n before here k le =
    elim (cases_lt k n) [
      | inl below ↦ before k below
      | inr ge ↦ let same : n ≡ k = omega (arith, le, ge) in subst P same here
    ]

-- what holds at each place holds of what the list contains
pub contained_each : {X : Type 0} (P : X → Type 0) (xs : List X) → ((k : ℕ) (d : X) → k < length xs → P (get_or xs k d)) → (x : X) → Contains xs x → P x
contained_each P xs each x (k, lt, is) = subst P is (each k x lt)

pub same_some : {X : Type 0} (x y : X) → Some x ≡ Some y → x ≡ y
same_some {X} x y e = ap (λ (o : Option X). unwrap_or o x) e
