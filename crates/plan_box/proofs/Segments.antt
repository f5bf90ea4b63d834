-- The part of a list from one place up to another.
use Rattle.std.proofs.Common.{◌≡◌, ℕ, ◌+◌, ◌-◌, ◌<◌, ◌≤◌, List, ◌∷◌, length, take, drop, get_or, refl, ap, ◌∙◌, arith, add-one}
use Rattle.std.proofs.Math.ListN.{set, length-set}
use Rattle.std.proofs.lemmas.List.{drop_more, drop-set-lt, get_or-set_same}

take_some : {X : Type 0} (n : ℕ) (x : X) (xs : List X) (m : ℕ) → n ≡ m + 1 → take n (x ∷ xs) ≡ x ∷ take m xs
take_some n x xs m e = rw (e, add-one) refl

-- its first element, and the part behind it
pub segment_more : {X : Type 0} (xs : List X) (i n : ℕ) (d : X) → i < n → n ≤ length xs → take (n - i) (drop i xs) ≡ get_or xs i d ∷ take (n - (i + 1)) (drop (i + 1) xs)
segment_more xs i n d lt le =
    ap (take (n - i)) (drop_more xs i d (omega arith)) ∙ take_some (n - i) (get_or xs i d) (drop (i + 1) xs) (n - (i + 1)) (omega arith)

-- with another first element
pub segment_set : {X : Type 0} (xs : List X) (i n : ℕ) (d new : X) → i < n → n ≤ length xs → take (n - i) (drop i (set xs i new)) ≡ new ∷ take (n - (i + 1)) (drop (i + 1) xs)
segment_set xs i n d new lt le =
    segment_more (set xs i new) i n d lt (simp length-set le)
    ∙ ap (λ x. x ∷ take (n - (i + 1)) (drop (i + 1) (set xs i new))) (get_or-set_same xs i new d (omega arith))
    ∙ ap (λ ys. new ∷ take (n - (i + 1)) ys) (drop-set-lt (i + 1) xs i new (omega arith))
