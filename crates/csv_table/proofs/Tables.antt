-- What rows said that were read so far, and what those that are left say.
use Rattle.std.proofs.Common.{◌≡◌, ◌+◌, ℕ, List, [], ◌∷◌, ◌++◌, refl, ap, append_assoc}
use Rattle.std.specs.Prelude.{Result, Ok, Err}
use Rattle.csv_table.specs.Readings.{◌>>=◌, each_row}
use Rattle.glass_base.specs.declared.bad_text.BadText.{BadText}

-- what a row says
abbrev pub Saying : Type 0 → Type 0
Saying A = ℕ → List (List ℕ) → Result A BadText

abbrev pub with_front : {A : Type 0} → List A → Result (List A) BadText → Result (List A) BadText
with_front front said = said >>= λ xs. Ok (front ++ xs)

pub with_front-none : {A : Type 0} (said : Result (List A) BadText) → with_front [] said ≡ said
with_front-none (Ok xs) = refl
with_front-none (Err e) = refl

-- one more row
pub with_front-more : {A : Type 0} (say : Saying A) (front : List A) (row : ℕ) (fields : List (List ℕ)) (rest : List (List (List ℕ))) (x : A)
    → say row fields ≡ Ok x → with_front (front ++ x ∷ []) (each_row say (row + 1) rest) ≡ with_front front (each_row say row (fields ∷ rest))
with_front-more {A = A} say front row fields rest x e = rw e (by (each_row say (row + 1) rest))
  where
    by : (said : Result (List A) BadText) → with_front (front ++ x ∷ []) said ≡ with_front front (said >>= λ xs. Ok (x ∷ xs))
    by (Ok xs) = ap (λ ys. Ok ys) (append_assoc front (x ∷ []) xs)
    by (Err e) = refl

-- a row that is refused
pub with_front-refused : {A : Type 0} (say : Saying A) (front : List A) (row : ℕ) (fields : List (List ℕ)) (rest : List (List (List ℕ))) (e : BadText)
    → say row fields ≡ Err e → with_front front (each_row say row (fields ∷ rest)) ≡ Err e
with_front-refused say front row fields rest e h = rw h refl
