-- What a field says.
use Rattle.std.specs.Prelude.{◌≡◌, ℕ, List, [], ◌∷◌, ◌++◌, Option, Some, None}
use Rattle.std.specs.Fmt.{decimal}
use Rattle.std.proofs.Common.{Bor}
use Rattle.plan_box.specs.declared.reason.Reason.{Reason}
use Rattle.plan_box.specs.Reasons.{reason_number}

-- no byte of the text is this one
abbrev pub Lacks : ℕ → List ℕ → Type 0
Lacks d [] = Unit {0}
Lacks d (x ∷ xs) = (x ≡ d → ⊥) × Lacks d xs

-- the text is that of this value, or of no value at all
abbrev pub Tells : {A : Type 0} → (A → List ℕ) → (A → Type 0) → List ℕ → Option A → Type 0
Tells text_of Is text (Some a) = Is a × (text ≡ text_of a)
Tells {A} text_of Is text None = (a : A) → Is a → text ≡ text_of a → ⊥

-- the text begins with this value and the mark, or with no value and the mark
abbrev pub Takes : {A : Type 0} → (A → List ℕ) → (A → Type 0) → ℕ → List ℕ → Option (A × Bor (List ℕ)) → Type 0
Takes text_of Is mark text (Some p) = Is p.0 × (text ≡ text_of p.0 ++ mark ∷ p.1.now)
Takes {A} text_of Is mark text None = (a : A) (rest : List ℕ) → Is a → text ≡ text_of a ++ mark ∷ rest → ⊥

-- any value
abbrev pub IsAny : {A : Type 0} → A → Type 0
IsAny a = Unit {0}

-- the number of a reason
abbrev pub reason_text : Reason → List ℕ
reason_text r = decimal (reason_number r)
