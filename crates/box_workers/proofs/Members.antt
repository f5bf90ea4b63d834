-- Workers by their places, and one after the other.
use Rattle.std.proofs.Common.{◌≡◌, ℕ, suc, slice_index_or, take, drop, ◌<◌, List, [], ◌∷◌, ◌++◌, length, ap, refl, ◌∙◌, subst, arith}
use Rattle.std.proofs.lemmas.List.{take-append-le}
use Rattle.glass_base.specs.Problem.{Problem}
use Rattle.shared_best.specs.Seats.{Words}
use Rattle.box_workers.specs.declared.member.Member.{Member}
use Rattle.box_workers.specs.inner.Members.{HasDone, EachDone}

pub each_done : (b : Problem) (w : Words) (starts : ℕ) (xs ys : List Member) → length ys ≡ length xs
    → ((i : ℕ) (d : Member) → i < length xs → HasDone b w starts (slice_index_or xs i d) (slice_index_or ys i d)) → EachDone b w starts xs ys
each_done b w starts [] [] e h = tt
each_done b w starts [] (y ∷ ys) e h = absurd (omega arith)
each_done b w starts (x ∷ xs) [] e h = absurd (omega arith)
each_done b w starts (x ∷ xs) (y ∷ ys) e h = (h 0 x (omega arith), each_done b w starts xs ys (omega arith) (λ i d less. h (suc i) d (omega arith)))

take_all : {A : Type 0} (xs : List A) → take (length xs) xs ≡ xs
take_all [] = refl
take_all (x ∷ xs) = ap (λ l. x ∷ l) (take_all xs)

-- what a list holds after all of it was written
pub written : (n : ℕ) (old new : List Member) → length new ≡ n → take n (new ++ drop (length new) old) ≡ new
written n old new e = subst (λ (k : ℕ). take k (new ++ drop (length new) old) ≡ new) e (take-append-le (length new) new (drop (length new) old) (omega arith) ∙ take_all new)
