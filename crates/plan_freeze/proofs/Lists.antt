-- Lists that are put together, and what is kept of them.
use Rattle.std.proofs.Common.{◌≡◌, zero, suc, ◌⊎◌, inl, inr, List, [], ◌∷◌, ◌++◌, map, filter, Bool, true, false, refl, sym, ap, subst, ◌∙◌, arith, Option, Some, None, IfSome, All, AllPairs, Any}
use Rattle.std.specs.List.{cons_option, filter_map}
use Rattle.std.proofs.lemmas.List.Elements.{All-cons, All-head, All-nil, All-tail}
use Rattle.glass_base.proofs.Pairs.{pairs_cons, pairs_head, pairs_nil, pairs_tail}
use Rattle.loss_area.proofs.Areas.{All-both}

-- a test that each element passes keeps all
pub filter_all : {X : Type 0} (p : X → Bool) (xs : List X) → All (λ x. p x ≡ true) xs → filter p xs ≡ xs
filter_all p [] h = refl
filter_all {X} p (x ∷ xs) h =
    let here : p x ≡ true = All-head (λ (y : X). p y ≡ true) x xs h in
    rw here (ap (λ (l : List X). x ∷ l) (filter_all p xs (All-tail (λ (y : X). p y ≡ true) x xs h)))

-- one that none passes keeps none
pub filter_none : {X : Type 0} (p : X → Bool) (xs : List X) → All (λ x. p x ≡ false) xs → filter p xs ≡ []
filter_none p [] h = refl
filter_none {X} p (x ∷ xs) h =
    let here : p x ≡ false = All-head (λ (y : X). p y ≡ false) x xs h in
    rw here (filter_none p xs (All-tail (λ (y : X). p y ≡ false) x xs h))

any_later : {X : Type 0} (P : X → Type 0) (x : X) (xs : List X) → Any P xs → Any P (x ∷ xs)
any_later P x xs (k, y, lt, e, holds) = (suc k, y, omega (arith, lt), e, holds)

pub any_right : {X : Type 0} (P : X → Type 0) (xs ys : List X) → Any P ys → Any P (xs ++ ys)
any_right P [] ys h = h
any_right P (x ∷ xs) ys h = any_later P x (xs ++ ys) (any_right P xs ys h)

pub any_left : {X : Type 0} (P : X → Type 0) (xs ys : List X) → Any P xs → Any P (xs ++ ys)
any_left P [] ys (k, x, lt, is, holds) = absurd (omega (arith, lt))
any_left P (y ∷ xs) ys (zero, x, lt, is, holds) = (zero, x, omega arith, is, holds)
any_left P (y ∷ xs) ys (suc k, x, lt, is, holds) = any_later P y (xs ++ ys) (any_left P xs ys (k, x, omega (arith, lt), is, holds))

-- an element of both lists is one of the first or one of the second
pub any_cases : {X : Type 0} (P : X → Type 0) (xs ys : List X) → Any P (xs ++ ys) → Any P xs ⊎ Any P ys
any_cases P [] ys h = inr h
any_cases P (y ∷ xs) ys (zero, x, lt, is, holds) = inl (zero, x, omega arith, is, holds)
any_cases P (y ∷ xs) ys (suc k, x, lt, is, holds) = elim (any_cases P xs ys (k, x, omega (arith, lt), is, holds)) [
  | inl left ↦ inl (any_later P y xs left)
  | inr right ↦ inr right
]

-- no element has a property that none has
pub any_none : {X : Type 0} (P : X → Type 0) (xs : List X) → All (λ x. ¬ P x) xs → Any P xs → ⊥
any_none P xs h (k, x, lt, is, holds) = h k x lt (subst P (sym is) holds)

-- of lists that others were made of, element by element
pub any_unmap : {X Y : Type 0} (P : Y → Type 0) (f : X → Y) (xs : List X) → Any P (map f xs) → Any (λ x. P (f x)) xs
any_unmap P f [] (k, y, lt, is, holds) = absurd (omega (arith, lt))
any_unmap P f (x ∷ xs) (zero, y, lt, is, holds) = (zero, x, omega arith, refl, subst P (sym is) holds)
any_unmap P f (x ∷ xs) (suc k, y, lt, is, holds) = any_later (λ z. P (f z)) x xs (any_unmap P f xs (k, y, omega (arith, lt), is, holds))

pub any_map : {X Y : Type 0} (P : Y → Type 0) (f : X → Y) (xs : List X) → Any (λ x. P (f x)) xs → Any P (map f xs)
any_map P f [] (k, x, lt, is, holds) = absurd (omega (arith, lt))
any_map P f (y ∷ xs) (zero, x, lt, is, holds) = (zero, f y, omega arith, refl, subst (λ z. P (f z)) (sym is) holds)
any_map P f (y ∷ xs) (suc k, x, lt, is, holds) = any_later P (f y) (map f xs) (any_map P f xs (k, x, omega (arith, lt), is, holds))

pub any_weaker : {X : Type 0} (P Q : X → Type 0) → ((x : X) → P x → Q x) → (xs : List X) → Any P xs → Any Q xs
any_weaker P Q so xs (k, x, lt, is, holds) = (k, x, lt, is, so x holds)

pub all_unmap : {X Y : Type 0} (P : Y → Type 0) (f : X → Y) (xs : List X) → All P (map f xs) → All (λ x. P (f x)) xs
all_unmap P f [] h = All-nil (λ x. P (f x))
all_unmap P f (x ∷ xs) h = All-cons (λ z. P (f z)) x xs (All-head P (f x) (map f xs) h) (all_unmap P f xs (All-tail P (f x) (map f xs) h))

-- pairs of both lists are pairs of the first, pairs of the second, and pairs across
pub pairs_apart : {X : Type 0} (R : X → X → Type 0) (xs ys : List X) → AllPairs R (xs ++ ys) → AllPairs R xs × AllPairs R ys × All (λ x. All (R x) ys) xs
pairs_apart R [] ys h = (pairs_nil R, h, All-nil _)
pairs_apart R (x ∷ xs) ys h =
    let rest = pairs_apart R xs ys (pairs_tail R x (xs ++ ys) h) in
    let here = All-both (R x) xs ys (pairs_head R x (xs ++ ys) h) in
    (pairs_cons R x xs here.0 rest.0, rest.1, All-cons (λ z. All (R z) ys) x xs here.1 rest.2)

-- what is found for the elements of a list, where it is found
pub all_found : {X Y : Type 0} (f : X → Option Y) (P : Y → Type 0) (xs : List X) → All (λ x. IfSome (f x) P) xs → All P (filter_map f xs)
all_found f P [] h = All-nil P
all_found {X} {Y} f P (x ∷ xs) h = by (f x) (All-head (λ z. IfSome (f z) P) x xs h) (all_found f P xs (All-tail (λ z. IfSome (f z) P) x xs h))
  where
    by : (o : Option Y) → IfSome o P → All P (filter_map f xs) → All P (cons_option o (filter_map f xs))
    by None here rest = rest
    by (Some y) here rest = All-cons P y (filter_map f xs) here rest

pub found_all : {X Y : Type 0} (f : X → Option Y) (P : Y → Type 0) (xs : List X) → All P (filter_map f xs) → All (λ x. IfSome (f x) P) xs
found_all f P [] h = All-nil (λ x. IfSome (f x) P)
found_all {X} {Y} f P (x ∷ xs) h = by (f x) refl (found_all f P xs) h
  where
    by : (o : Option Y) → f x ≡ o → (All P (filter_map f xs) → All (λ z. IfSome (f z) P) xs) → All P (cons_option o (filter_map f xs)) → All (λ z. IfSome (f z) P) (x ∷ xs)
    by None is later h = All-cons (λ z. IfSome (f z) P) x xs (subst (λ (o : Option Y). IfSome o P) (sym is) tt) (later h)
    by (Some y) is later h =
        All-cons (λ z. IfSome (f z) P) x xs (subst (λ (o : Option Y). IfSome o P) (sym is) (All-head P y (filter_map f xs) h))
        (later (All-tail P y (filter_map f xs) h))

-- two questions with one answer at each element find the same
pub found_alike : {X Y : Type 0} (f g : X → Option Y) (xs : List X) → All (λ x. f x ≡ g x) xs → filter_map f xs ≡ filter_map g xs
found_alike f g [] h = refl
found_alike {X} {Y} f g (x ∷ xs) h =
    ap (λ (o : Option Y). cons_option o (filter_map f xs)) (All-head (λ z. f z ≡ g z) x xs h)
    ∙ ap (cons_option (g x)) (found_alike f g xs (All-tail (λ z. f z ≡ g z) x xs h))
