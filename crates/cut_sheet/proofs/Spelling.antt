-- One instruction has one line: lines end at their line feed, and are told apart by their letters and digits.
use Rattle.std.proofs.Common.{◌≡◌, ◌≢◌, ℕ, suc, ◌+◌, ◌%◌, ◌^◌, ◌<◌, ◌≤◌, ◌⊎◌, inl, inr, List, [], ◌∷◌, ◌++◌, refl, sym, ap, ◌∙◌, subst, arith, append_assoc}
use Rattle.std.specs.Prelude.{ℤ, pos, negsuc}
use Rattle.std.specs.Fmt.{decimal, signed_decimal}
use Rattle.std.proofs.lemmas.Fmt.{decimal_digit, decimal_injective, decimal_by_steps, signed_decimal_injective}
use Rattle.std.specs.Int.Signed.{mag}
use Rattle.std.proofs.lemmas.List.Elements.{All-cons, All-head, All-nil, All-push, All-tail}
use Rattle.glass_base.specs.declared.limits.TheConstants.{MOST_NUMBER}
use Rattle.cut_sheet.specs.declared.instr.Instr.{Instr}
use Rattle.cut_sheet.specs.Readings.{NoLine}
use Rattle.cut_sheet.specs.Texts.{IsPieceType, IsWritable, instr_line}
use Rattle.cut_sheet.specs.inner.Lines.{IsUnbroken, body}

-- the same before the first line feed, and behind it
pub record EndsAlike (xs ys s t : List ℕ) : Type 0 where
  pub front : xs ≡ ys
  pub back : s ≡ t

pub ends_alike : (xs ys s t : List ℕ) → IsUnbroken xs → IsUnbroken ys → xs ++ 10 ∷ s ≡ ys ++ 10 ∷ t → EndsAlike xs ys s t
ends_alike [] [] s t no_x no_y e = record { front = refl; back = cc }
ends_alike [] (y ∷ ys) s t no_x no_y e = absurd (All-head (λ b. b ≢ 10) y ys no_y (let f : y ≡ 10 = cc in f))
ends_alike (x ∷ xs) [] s t no_x no_y e = absurd (All-head (λ b. b ≢ 10) x xs no_x (let f : x ≡ 10 = cc in f))
ends_alike (x ∷ xs) (y ∷ ys) s t no_x no_y e =
    let h : x ≡ y = cc in
    let f : xs ++ 10 ∷ s ≡ ys ++ 10 ∷ t = cc in
    let r = ends_alike xs ys s t (All-tail (λ b. b ≢ 10) x xs no_x) (All-tail (λ b. b ≢ 10) y ys no_y) f in
    let q = r.front in
    record { front = cc (h, q); back = r.back }

-- a text with a line feed is broken
pub broken : (xs s : List ℕ) → IsUnbroken (xs ++ 10 ∷ s) → ⊥
broken [] s h = All-head (λ b. b ≢ 10) 10 s h refl
broken (x ∷ xs) s h = broken xs s (All-tail (λ b. b ≢ 10) x (xs ++ 10 ∷ s) h)

unbroken_number : (n : ℕ) → n < 2 ^ 64 → IsUnbroken (decimal n)
unbroken_number n small =
    decimal_by_steps (λ n ds. IsUnbroken ds) (λ n few. All-cons (λ b. b ≢ 10) (48 + n) [] (λ e. omega arith) (All-nil (λ b. b ≢ 10)))
    (λ n ds many h. All-push (λ b. b ≢ 10) ds (48 + n % 10) h (λ e. omega arith)) n small

below_few : (below : ℕ) → (below ≡ 0) ⊎ (below ≡ 2) → suc below < 2 ^ 62
below_few below (inl is) = omega arith
below_few below (inr is) = omega arith

unbroken_type : (number : ℤ) → IsPieceType number → IsUnbroken (signed_decimal number)
unbroken_type (pos n) is = unbroken_number n (omega arith)
unbroken_type (negsuc below) is =
    All-cons (λ b. b ≢ 10) 45 (decimal (suc below)) (λ e. omega arith) (unbroken_number (suc below) (omega (arith, below_few below is)))

behind_letter : (letter : ℕ) (number : ℤ) → letter ≢ 10 → IsPieceType number → IsUnbroken (letter ∷ 59 ∷ signed_decimal number)
behind_letter letter number other is =
    All-cons (λ b. b ≢ 10) letter (59 ∷ signed_decimal number) other
    (All-cons (λ b. b ≢ 10) 59 (signed_decimal number) (λ e. omega arith) (unbroken_type number is))

pub body_unbroken : (instr : Instr) → IsWritable instr → IsUnbroken (body instr)
body_unbroken (Instr.Load plate) is = behind_letter 76 (pos plate) (λ e. omega arith) (omega arith)
body_unbroken (Instr.Off size) is = behind_letter 75 (pos size) (λ e. omega arith) (omega arith)
body_unbroken Instr.Whole is = All-cons (λ b. b ≢ 10) 84 [] (λ e. omega arith) (All-nil (λ b. b ≢ 10))
body_unbroken (Instr.Done kind) is = behind_letter 68 kind (λ e. omega arith) is

-- a line is its body and a line feed
pub line_ends : (instr : Instr) (rest : List ℕ) → instr_line instr ++ rest ≡ body instr ++ 10 ∷ rest
line_ends (Instr.Load plate) rest = ap (λ (t : List ℕ). 76 ∷ 59 ∷ t) (append_assoc (signed_decimal (pos plate)) (10 ∷ []) rest)
line_ends (Instr.Off size) rest = ap (λ (t : List ℕ). 75 ∷ 59 ∷ t) (append_assoc (signed_decimal (pos size)) (10 ∷ []) rest)
line_ends Instr.Whole rest = refl
line_ends (Instr.Done kind) rest = ap (λ (t : List ℕ). 68 ∷ 59 ∷ t) (append_assoc (signed_decimal kind) (10 ∷ []) rest)

mag_few : (number : ℤ) → IsPieceType number → mag number < 2 ^ 63
mag_few (pos n) is = omega arith
mag_few (negsuc below) is = omega (arith, below_few below is)

types_alike : (y z : ℤ) → IsPieceType y → IsPieceType z → signed_decimal y ≡ signed_decimal z → y ≡ z
types_alike y z is_y is_z e = signed_decimal_injective y z (mag_few y is_y) (mag_few z is_z) e

pub waste_text : signed_decimal (negsuc 0) ≡ 45 ∷ 49 ∷ []
waste_text = ap (λ (t : List ℕ). 45 ∷ t) (decimal_digit 1 (omega arith))

pub residual_text : signed_decimal (negsuc 2) ≡ 45 ∷ 51 ∷ []
residual_text = ap (λ (t : List ℕ). 45 ∷ t) (decimal_digit 3 (omega arith))

-- a text that is neither of the two words and says no number says no type
pub no_type : (text : List ℕ) → text ≢ 45 ∷ 49 ∷ [] → text ≢ 45 ∷ 51 ∷ [] → ((n : ℕ) → n ≤ MOST_NUMBER → text ≡ decimal n → ⊥) → (number : ℤ) → IsPieceType number → text ≡ signed_decimal number → ⊥
no_type text waste residual none (pos n) is said = none n is said
no_type text waste residual none (negsuc below) (inl is) said = waste (said ∙ ap (λ (m : ℕ). signed_decimal (negsuc m)) is ∙ waste_text)
no_type text waste residual none (negsuc below) (inr is) said = residual (said ∙ ap (λ (m : ℕ). signed_decimal (negsuc m)) is ∙ residual_text)

same_letter : {m n : ℕ} {xs ys : List ℕ} → m ∷ xs ≡ n ∷ ys → m ≡ n
same_letter e = cc

behind_same : {m n : ℕ} {xs ys : List ℕ} → m ∷ xs ≡ n ∷ ys → xs ≡ ys
behind_same e = cc

pub bodies_alike : (a b : Instr) → IsWritable a → IsWritable b → body a ≡ body b → a ≡ b
bodies_alike (Instr.Load p) (Instr.Load q) is_a is_b e = ap Instr.Load (decimal_injective p q (omega arith) (omega arith) (behind_same (behind_same e)))
bodies_alike (Instr.Load p) (Instr.Off q) is_a is_b e = absurd (omega (arith, same_letter e))
bodies_alike (Instr.Load p) Instr.Whole is_a is_b e = absurd (omega (arith, same_letter e))
bodies_alike (Instr.Load p) (Instr.Done q) is_a is_b e = absurd (omega (arith, same_letter e))
bodies_alike (Instr.Off p) (Instr.Load q) is_a is_b e = absurd (omega (arith, same_letter e))
bodies_alike (Instr.Off p) (Instr.Off q) is_a is_b e = ap Instr.Off (decimal_injective p q (omega arith) (omega arith) (behind_same (behind_same e)))
bodies_alike (Instr.Off p) Instr.Whole is_a is_b e = absurd (omega (arith, same_letter e))
bodies_alike (Instr.Off p) (Instr.Done q) is_a is_b e = absurd (omega (arith, same_letter e))
bodies_alike Instr.Whole (Instr.Load q) is_a is_b e = absurd (omega (arith, same_letter e))
bodies_alike Instr.Whole (Instr.Off q) is_a is_b e = absurd (omega (arith, same_letter e))
bodies_alike Instr.Whole Instr.Whole is_a is_b e = refl
bodies_alike Instr.Whole (Instr.Done q) is_a is_b e = absurd (omega (arith, same_letter e))
bodies_alike (Instr.Done p) (Instr.Load q) is_a is_b e = absurd (omega (arith, same_letter e))
bodies_alike (Instr.Done p) (Instr.Off q) is_a is_b e = absurd (omega (arith, same_letter e))
bodies_alike (Instr.Done p) Instr.Whole is_a is_b e = absurd (omega (arith, same_letter e))
bodies_alike (Instr.Done p) (Instr.Done q) is_a is_b e = ap Instr.Done (types_alike p q is_a is_b (behind_same (behind_same e)))

-- no line stands at the front of a text without a line feed
pub no_line_unbroken : (text : List ℕ) → IsUnbroken text → NoLine text
no_line_unbroken text h instr rest is e = broken (body instr) rest (subst IsUnbroken (e ∙ line_ends instr rest) h)

-- nor of one whose first line is none
pub no_line_first : (text line behind : List ℕ) → IsUnbroken line → text ≡ line ++ 10 ∷ behind → ((instr : Instr) → IsWritable instr → line ≡ body instr → ⊥) → NoLine text
no_line_first text line behind whole is none instr rest fits e =
    none instr fits (ends_alike line (body instr) behind rest whole (body_unbroken instr fits) (sym is ∙ e ∙ line_ends instr rest)).front

-- a text whose first line is that of an instruction begins with its line
pub line_first : (text line behind : List ℕ) (instr : Instr) → text ≡ line ++ 10 ∷ behind → line ≡ body instr → text ≡ instr_line instr ++ behind
line_first text line behind instr is said = is ∙ ap (λ (t : List ℕ). t ++ 10 ∷ behind) said ∙ sym (line_ends instr behind)
