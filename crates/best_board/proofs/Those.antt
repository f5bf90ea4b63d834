-- The elements of a list of which something holds.
use Rattle.std.proofs.Common.{◌≡◌, ℕ, suc, ◌<◌, List, [], ◌∷◌, ◌++◌, length, All, AllPairs, refl, sym, ap, subst, inl, inr, arith}
use Rattle.std.proofs.lemmas.List.Elements.{All-append, All-cons, All-head, All-nil, All-tail}
use Rattle.std.proofs.lemmas.List.Kept.{AllPairs-cons}
use Rattle.best_board.specs.Settles.{AreThose}

pub pairs_head : {A : Type 0} (R : A → A → Type 0) (x : A) (xs : List A) → AllPairs R (x ∷ xs) → All (R x) xs
pairs_head R x xs h k d lt = h 0 (suc k) d (omega arith) (omega arith)

pub pairs_tail : {A : Type 0} (R : A → A → Type 0) (x : A) (xs : List A) → AllPairs R (x ∷ xs) → AllPairs R xs
pairs_tail R x xs h i j d lt len = h (suc i) (suc j) d (omega arith) (omega arith)

pub pairs_append : {A : Type 0} (R : A → A → Type 0) (xs ys : List A) → AllPairs R xs → AllPairs R ys → All (λ (x : A). All (R x) ys) xs → AllPairs R (xs ++ ys)
pairs_append R [] ys h k across = k
pairs_append {A} R (x ∷ xs) ys h k across =
    let P : A → Type 0 = λ y. All (R y) ys in
    AllPairs-cons R x (xs ++ ys) (All-append (R x) xs ys (pairs_head R x xs h) (All-head P x xs across)) (pairs_append R xs ys (pairs_tail R x xs h) k (All-tail P x xs across))

-- it holds of each of them
pub those_hold : {A : Type 0} (P : A → Type 0) (xs ys : List A) → AreThose P xs ys → All P ys
those_hold P [] ys h = subst (All P) (sym h) (All-nil P)
those_hold P (x ∷ xs) ys (inl h) = subst (All P) (sym h.1.1) (All-cons P x h.1.0 h.0 (those_hold P xs h.1.0 h.1.2))
those_hold P (x ∷ xs) ys (inr h) = those_hold P xs ys h.1

-- what holds of all elements holds of them
pub those_of : {A : Type 0} (P Q : A → Type 0) (xs ys : List A) → AreThose P xs ys → All Q xs → All Q ys
those_of P Q [] ys h all = subst (All Q) (sym h) (All-nil Q)
those_of P Q (x ∷ xs) ys (inl h) all = subst (All Q) (sym h.1.1) (All-cons Q x h.1.0 (All-head Q x xs all) (those_of P Q xs h.1.0 h.1.2 (All-tail Q x xs all)))
those_of P Q (x ∷ xs) ys (inr h) all = those_of P Q xs ys h.1 (All-tail Q x xs all)

pub those_pairs : {A : Type 0} (P : A → Type 0) (R : A → A → Type 0) (xs ys : List A) → AreThose P xs ys → AllPairs R xs → AllPairs R ys
those_pairs P R [] ys h pairs = subst (AllPairs R) (sym h) pairs
those_pairs P R (x ∷ xs) ys (inl h) pairs =
    subst (AllPairs R) (sym h.1.1) (AllPairs-cons R x h.1.0 (those_of P (R x) xs h.1.0 h.1.2 (pairs_head R x xs pairs)) (those_pairs P R xs h.1.0 h.1.2 (pairs_tail R x xs pairs)))
those_pairs P R (x ∷ xs) ys (inr h) pairs = those_pairs P R xs ys h.1 (pairs_tail R x xs pairs)

-- one more element, of which it holds
pub those_more : {A : Type 0} (P : A → Type 0) (xs ys : List A) (x : A) → AreThose P xs ys → P x → AreThose P (xs ++ x ∷ []) (ys ++ x ∷ [])
those_more P [] ys x h is = inl (is, ([], ap (λ zs. zs ++ x ∷ []) h, refl))
those_more P (y ∷ xs) ys x (inl h) is = inl (h.0, (h.1.0 ++ x ∷ [], ap (λ zs. zs ++ x ∷ []) h.1.1, those_more P xs h.1.0 x h.1.2 is))
those_more P (y ∷ xs) ys x (inr h) is = inr (h.0, those_more P xs ys x h.1 is)

-- and one of which it does not
pub those_less : {A : Type 0} (P : A → Type 0) (xs ys : List A) (x : A) → AreThose P xs ys → ¬ P x → AreThose P (xs ++ x ∷ []) ys
those_less P [] ys x h isnt = inr (isnt, h)
those_less P (y ∷ xs) ys x (inl h) isnt = inl (h.0, (h.1.0, h.1.1, those_less P xs h.1.0 x h.1.2 isnt))
those_less P (y ∷ xs) ys x (inr h) isnt = inr (h.0, those_less P xs ys x h.1 isnt)
