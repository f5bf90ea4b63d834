-- What `find` and `any` say of a list, and how pairs and elements stand in lists that are put together.
use Rattle.std.proofs.Common.{◌≡◌, zero, suc, ◌-◌, ◌<◌, Bool, true, false, ◌⊎◌, inl, inr, List, [], ◌∷◌, ◌++◌, length, get_or, map, reverse, find, refl, sym, ap, subst, ◌∙◌, arith, Option, Some, None, IsSome, is_some, All, AllPairs, Any, Contains, length-append}
use Rattle.std.specs.List.{filter_map, cons_option}
use Rattle.std.proofs.lemmas.Bool.{cases_Bool}
use Rattle.std.proofs.lemmas.Option.{none-some, same_Some}
use Rattle.std.proofs.lemmas.List.{get_or-reverse, length-reverse, get_or-map, length-map, reverse-append, append-nil}
use Rattle.std.proofs.lemmas.List.Elements.{filter_map-append}
use Rattle.std.proofs.Math.ListN.{get_or-append}
use Rattle.std.proofs.Math.Seq.{get_or-append_seam}
use Rattle.glass_base.proofs.Pairs.{contained_first, contained_later, contained_cases, contained_map}

-- what is found is an element, and passes the test
pub find_some : {X : Type 0} (p : X → Bool) (xs : List X) (y : X) → find p xs ≡ Some y → Contains xs y × (p y ≡ true)
find_some p [] y e = absurd (none-some y e)
find_some p (x ∷ xs) y e = elim (cases_Bool (p x)) [
  | inl is ↦
      let same : x ≡ y = same_Some x y (rw is at e) in
      (subst (λ z. Contains (x ∷ xs) z) same (contained_first x xs), subst (λ z. p z ≡ true) same is)
  | inr isnt ↦
      let h = find_some p xs y (rw isnt at e) in
      (contained_later x xs y h.0, h.1)
]

-- where an element passes the test, one is found
pub find_is_some : {X : Type 0} (p : X → Bool) (xs : List X) (y : X) → Contains xs y → p y ≡ true → IsSome (find p xs)
find_is_some p [] y h passes = absurd (omega (arith, h.1))
find_is_some p (x ∷ xs) y h passes = elim (cases_Bool (p x)) [
  | inl is ↦ rw is refl
  | inr isnt ↦ elim (contained_cases x xs y h) [
    | inl same ↦ absurd (cc (ap p same))
    | inr later ↦ rw isnt (find_is_some p xs y later passes)
  ]
]

-- where none is found, no element passes the test
pub find_none : {X : Type 0} (p : X → Bool) (xs : List X) (y : X) → find p xs ≡ None → Contains xs y → p y ≡ true → ⊥
find_none p xs y none h passes =
    let clash : is_some (find p xs) ≡ false = ap is_some none in
    let some : is_some (find p xs) ≡ true = find_is_some p xs y h passes in
    absurd (cc)

-- an element of the list turned round is one of the list
pub contained_reverse : {X : Type 0} (xs : List X) (y : X) → Contains (reverse xs) y → Contains xs y
contained_reverse xs y (k, lt, e) =
    let within : k < length xs = omega (arith, lt, length-reverse xs) in
    (length xs - 1 - k, omega (arith, within), sym (get_or-reverse xs k y within) ∙ e)

-- what is kept of a list turned round is what is kept of it, turned round
pub filter_map-reverse : {X Y : Type 0} (h : X → Option Y) (xs : List X) → filter_map h (reverse xs) ≡ reverse (filter_map h xs)
filter_map-reverse h [] = refl
filter_map-reverse {X = X} {Y = Y} h (x ∷ xs) =
    ap (filter_map h) (reverse-append (x ∷ []) xs) ∙ filter_map-append h (reverse xs) (x ∷ []) ∙ ap (λ (l : List Y). l ++ cons_option (h x) []) (filter_map-reverse h xs)
    ∙ by (h x)
  where
    by : (o : Option Y) → reverse (filter_map h xs) ++ cons_option o [] ≡ reverse (cons_option o (filter_map h xs))
    by None = append-nil (reverse (filter_map h xs))
    by (Some y) = sym (reverse-append (y ∷ []) (filter_map h xs))

-- an element before another one of the list is in its relation to it
pub pair_across : {X : Type 0} (R : X → X → Type 0) (xs : List X) (y : X) (ys : List X) (x : X) → AllPairs R (xs ++ y ∷ ys) → Contains xs x → R x y
pair_across R xs y ys x pairs (k, lt, e) =
    let here : R (get_or (xs ++ y ∷ ys) k x) (get_or (xs ++ y ∷ ys) (length xs) x) = pairs k (length xs) x lt (omega (arith, length-append xs (y ∷ ys))) in
    let right : R (get_or (xs ++ y ∷ ys) k x) y = subst (λ z. R (get_or (xs ++ y ∷ ys) k x) z) (get_or-append_seam xs y ys x) here in
    subst (λ z. R z y) (get_or-append xs (y ∷ ys) x k lt ∙ e) right

-- what holds of each value of a list's elements holds of the values of each
pub all_unmap : {X Y : Type 0} (P : Y → Type 0) (f : X → Y) (xs : List X) → All P (map f xs) → All (λ x. P (f x)) xs
all_unmap P f xs h k d lt = subst P (get_or-map f xs k d (f d) lt) (h k (f d) (omega (arith, lt, length-map xs f)))

-- what holds of each pair of values holds of the values of each pair
pub pairs_unmap : {X Y : Type 0} (R : Y → Y → Type 0) (f : X → Y) (xs : List X) → AllPairs R (map f xs) → AllPairs (λ a c. R (f a) (f c)) xs
pairs_unmap R f xs h i j d lt within =
    let left : get_or (map f xs) i (f d) ≡ f (get_or xs i d) = get_or-map f xs i d (f d) (omega (arith, lt, within)) in
    let right : get_or (map f xs) j (f d) ≡ f (get_or xs j d) = get_or-map f xs j d (f d) within in
    let mapped : R (get_or (map f xs) i (f d)) (get_or (map f xs) j (f d)) = h i j (f d) lt (omega (arith, within, length-map xs f)) in
    subst (λ z. R (f (get_or xs i d)) z) right (subst (λ z. R z (get_or (map f xs) j (f d))) left mapped)

-- where some element has a property, it is the first one or one of the others
pub any_cases : {X : Type 0} (P : X → Type 0) (x : X) (xs : List X) → Any P (x ∷ xs) → P x ⊎ Any P xs
any_cases P x xs (zero, y, lt, e, holds) = inl (subst P (sym e) holds)
any_cases P x xs (suc k, y, lt, e, holds) = inr (k, y, omega (arith, lt), e, holds)

-- the first element has the property
pub any_first : {X : Type 0} (P : X → Type 0) (x : X) (xs : List X) → P x → Any P (x ∷ xs)
any_first P x xs holds = (zero, x, omega arith, refl, holds)

-- one of the others has the property
pub any_later : {X : Type 0} (P : X → Type 0) (x : X) (xs : List X) → Any P xs → Any P (x ∷ xs)
any_later P x xs (k, y, lt, e, holds) = (suc k, y, omega (arith, lt), e, holds)

-- no element of the empty list has a property
pub any_none : {X : Type 0} (P : X → Type 0) → Any P [] → ⊥
any_none P (k, y, lt, e, holds) = omega (arith, lt)

-- the value of some element is among the values of the list
pub contained_from_any : {X Y : Type 0} (f : X → Y) (xs : List X) (y : Y) → Any (λ x. f x ≡ y) xs → Contains (map f xs) y
contained_from_any f xs y (k, x, lt, e, is) = subst (λ z. Contains (map f xs) z) is (contained_map f xs x (k, lt, e))

-- a value of the list is that of some element
pub any_from_contained : {X Y : Type 0} (f : X → Y) (xs : List X) (y : Y) → Contains (map f xs) y → Any (λ x. f x ≡ y) xs
any_from_contained f [] y h = absurd (omega (arith, h.1))
any_from_contained f (x ∷ xs) y h = elim (contained_cases (f x) (map f xs) y h) [
  | inl is ↦ any_first (λ z. f z ≡ y) x xs is
  | inr later ↦ any_later (λ z. f z ≡ y) x xs (any_from_contained f xs y later)
]
