-- What stands before the first mark.
use Rattle.std.proofs.Common.{◌≡◌, ℕ, ◌+◌, ◌^◌, ◌<◌, ◌≤◌, Bool, true, false, IsTrue, List, [], ◌∷◌, ◌++◌, length, take, get_or, sym, ◌∙◌, subst, refl, arith, Option, None, Some}
use Rattle.std.proofs.lemmas.List.{take_more}
use Rattle.std.proofs.lemmas.Fmt.{decimal_injective}
use Rattle.std.specs.Prelude.{◌==◌}
use Rattle.std.specs.Fmt.{decimal}
use Rattle.glass_base.specs.Digits.{number_within}
use Rattle.glass_base.proofs.NumberTexts.{read_is_text, unread_is_no_text}
use Rattle.plan_box.specs.declared.reason.Reason.{Reason}
use Rattle.plan_box.specs.Reasons.{reason_number}
use Rattle.cert_log.specs.Values.{IsNumber, IsVersionNumber}
use Rattle.cert_log.specs.inner.Fields.{IsAny, Lacks, Tells, reason_text}
use Rattle.cert_log.proofs.Spelling.{ends_alike}

-- a text with a mark does not lack it
pub marked : (d : ℕ) (text xs s : List ℕ) → Lacks d text → text ≡ xs ++ d ∷ s → ⊥
marked d text xs s l e = in_front xs (subst (Lacks d) e l)
  where
    in_front : (ys : List ℕ) → Lacks d (ys ++ d ∷ s) → ⊥
    in_front [] m = m.0 refl
    in_front (y ∷ ys) m = in_front ys m.1

-- no value is said before the first mark, so none is said before any
pub none_taken : {A : Type 0} (text_of : A → List ℕ) (Is : A → Type 0) (d : ℕ) (text front behind : List ℕ) → ((a : A) → Is a → Lacks d (text_of a)) → text ≡ front ++ d ∷ behind → Lacks d front
    → Tells text_of Is front None → (a : A) (rest : List ℕ) → Is a → text ≡ text_of a ++ d ∷ rest → ⊥
none_taken text_of Is d text front behind lack e l none a rest is f = none a is (ends_alike d front (text_of a) behind rest l (lack a is) (sym e ∙ f)).front

lacks_push : (d : ℕ) (xs : List ℕ) (y : ℕ) → Lacks d xs → (y ≡ d → ⊥) → Lacks d (xs ++ y ∷ [])
lacks_push d [] y l n = (n, tt)
lacks_push d (x ∷ xs) y l n = (l.0, lacks_push d xs y l.1 n)

-- one more byte that is not the mark
pub lacks_more : (d i k : ℕ) (xs : List ℕ) → i < length xs → Lacks d (take i xs) → (get_or xs i k ≡ d → ⊥) → Lacks d (take (i + 1) xs)
lacks_more d i k xs within l n = subst (Lacks d) (sym (take_more xs i k within)) (lacks_push d (take i xs) (get_or xs i k) l n)

pub no_true : (b : Bool) → IsTrue b → b ≡ false → ⊥
no_true b t e = grind (arith, t, e)

-- what is read of digits is the number that they say
pub number_told : (text : List ℕ) (o : Option ℕ) → o ≡ number_within 0 18446744073709551615 text → Tells decimal IsNumber text o
number_told text (Some n) is = let h = read_is_text 0 18446744073709551615 text n (omega arith) (sym is) in (omega (arith, h.1), h.2)
number_told text None is = λ n small e. unread_is_no_text 0 18446744073709551615 text (omega arith) (sym is) n (omega arith) (omega (arith, small)) e

pub not_empty : (text : List ℕ) → false ≡ (length text == 0) → text ≡ [] → ⊥
not_empty text e is = let h : false ≡ (0 == 0) = subst (λ (t : List ℕ). false ≡ (length t == 0)) is e in let g : false ≡ true = h in cc

pub version_small : (n : ℕ) → IsVersionNumber n → n < 2 ^ 64
version_small n is = omega (arith, is.1)

-- a text that says another number says no version
pub other_than : (value a : ℕ) (text : List ℕ) → value < 2 ^ 64 → text ≡ decimal value → (1 ≤ value → 3 < value) → IsVersionNumber a → text ≡ decimal a → ⊥
other_than value a text small e out is f =
    let same = decimal_injective value a small (version_small a is) (sym e ∙ f) in let from = is.0 in let upto = is.1 in let high = out (omega arith) in omega arith

pub reason_range : (r : Reason) → (0 < reason_number r) × (reason_number r < 8)
reason_range Reason.R1 = (omega arith, omega arith)
reason_range Reason.R2 = (omega arith, omega arith)
reason_range Reason.R3 = (omega arith, omega arith)
reason_range Reason.R4 = (omega arith, omega arith)
reason_range Reason.R5 = (omega arith, omega arith)
reason_range Reason.R6 = (omega arith, omega arith)
reason_range Reason.R7 = (omega arith, omega arith)

-- a text that says another number says no reason
pub no_reason : (value : ℕ) (text : List ℕ) → value < 2 ^ 64 → text ≡ decimal value → (0 < value → 7 < value) → (r : Reason) → IsAny r → text ≡ reason_text r → ⊥
no_reason value text small e out r any f =
    let range = reason_range r in let same = decimal_injective value (reason_number r) small (omega arith) (sym e ∙ f) in omega arith
