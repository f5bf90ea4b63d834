-- Elements of lists, and how many there are.
use Rattle.std.proofs.Common.{◌≡◌, ℕ, inl, inr, List, [], ◌∷◌, ◌++◌, length, map, reverse, refl, sym, ap, subst, arith, All}
use Rattle.std.specs.List.{Contains}
use Rattle.std.specs.Prelude.{sum_by}
use Rattle.std.proofs.lemmas.List.{reverse-append}
use Rattle.std.proofs.lemmas.List.Elements.{All-nil, All-head, All-tail, All-push}
use Rattle.std.proofs.lemmas.List.Sums.{sum_by-cons, sum_by_push}
use Rattle.cert_log.proofs.Members.{first_or_later, is_first, is_later, contains_none}

-- where each element weighs one, all of them weigh their number
pub ones : {X : Type 0} (xs : List X) → sum_by (λ (_ : X). 1) xs ≡ length xs
ones [] = refl
ones {X} (x ∷ xs) = omega (arith, ones xs, sum_by-cons (λ (_ : X). 1) x xs)

-- what weighs nothing then has no element
pub empty : {X : Type 0} (xs : List X) → sum_by (λ (_ : X). 1) xs ≡ 0 → xs ≡ []
empty [] none = refl
empty (x ∷ xs) none = absurd (let n = ones (x ∷ xs) in omega arith)

pub contains_image : {X Y : Type 0} (f : X → Y) (xs : List X) (x : X) → Contains xs x → Contains (map f xs) (f x)
contains_image f [] x at = absurd (contains_none x at)
contains_image f (z ∷ zs) x at =
    elim (first_or_later z zs x at) [
      | inl is ↦ subst (λ y. Contains (f z ∷ map f zs) (f y)) is (is_first (f z) (map f zs))
      | inr later ↦ is_later (f z) (map f zs) (f x) (contains_image f zs x later)
    ]

-- an element of the images is the image of an element
pub found_by : {X Y : Type 0} (f : X → Y) (xs : List X) (y : Y) → Contains (map f xs) y → (x : X) × Contains xs x × (f x ≡ y)
found_by f [] y at = absurd (contains_none y at)
found_by f (z ∷ zs) y at =
    elim (first_or_later (f z) (map f zs) y at) [ inl is ↦ (z, is_first z zs, is) | inr later ↦ (let r = found_by f zs y later in (r.0, is_later z zs r.0 r.1, r.2)) ]

-- in the other order
pub all_reverse : {X : Type 0} (P : X → Type 0) (xs : List X) → All P xs → All P (reverse xs)
all_reverse P [] a = All-nil P
all_reverse P (x ∷ xs) a = subst (All P) (sym (reverse-append (x ∷ []) xs)) (All-push P (reverse xs) x (all_reverse P xs (All-tail P x xs a)) (All-head P x xs a))

pub sum_reverse : {X : Type 0} (f : X → ℕ) (xs : List X) → sum_by f (reverse xs) ≡ sum_by f xs
sum_reverse f [] = refl
sum_reverse f (x ∷ xs) =
    let r = ap (sum_by f) (reverse-append (x ∷ []) xs) in let i = sum_reverse f xs in let p = sum_by_push f (reverse xs) x in let c = sum_by-cons f x xs in omega arith

-- the parts of an empty list are empty
pub nil_front : {X : Type 0} (xs ys : List X) → xs ++ ys ≡ [] → xs ≡ []
nil_front [] ys e = refl
nil_front (x ∷ xs) ys e = absurd (let n = ap (λ l. length l) e in omega arith)

pub nil_back : {X : Type 0} (xs ys : List X) → xs ++ ys ≡ [] → ys ≡ []
nil_back [] ys e = e
nil_back (x ∷ xs) ys e = absurd (let n = ap (λ l. length l) e in omega arith)
