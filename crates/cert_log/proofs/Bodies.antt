-- Which lines a text may be.
use Rattle.std.proofs.Common.{◌≡◌, ℕ, ◌^◌, ◌<◌, inr, List, ◌∷◌, ◌++◌, sym, ◌∙◌, subst, arith, None}
use Rattle.std.specs.Fmt.{decimal}
use Rattle.std.proofs.lemmas.Fmt.{decimal_injective}
use Rattle.plan_box.specs.declared.var.Var.{Var}
use Rattle.cert_log.specs.declared.place.Place.{Place}
use Rattle.cert_log.specs.Texts.{Line, splits, closes, opens_one, opens, letter}
use Rattle.cert_log.specs.Follow.{MayCome, NoLine}
use Rattle.cert_log.specs.inner.Fields.{Lacks, IsAny}
use Rattle.cert_log.specs.inner.LineForms.{body, IsFormed, SaysLine}
use Rattle.cert_log.proofs.Spelling.{HasNumber, ends_alike, decimal_lacks, first_is, rest_is, body_lacks, bodies_alike, line_ends}
use Rattle.cert_log.proofs.Marks.{marked}

pub splits_only : (text : List ℕ) → ((s : ℕ) (v : Var) → s < 2 ^ 32 → text ≡ decimal s ++ 59 ∷ letter v → ⊥) → (l : Line) → IsFormed l → 83 ∷ 59 ∷ text ≡ body l → ⊥
splits_only text none (splits s v) f e = none s v f (rest_is 59 59 _ _ (rest_is 83 83 _ _ e))
splits_only text none (closes k) f e = let g = first_is 83 67 _ _ e in omega arith
splits_only text none opens_one f e = let g = first_is 83 79 _ _ e in omega arith
splits_only text none (opens n) f e = let g = first_is 83 79 _ _ e in omega arith

pub no_letter : (text rest : List ℕ) (n : ℕ) → n < 2 ^ 64 → text ≡ decimal n ++ 59 ∷ rest → ((v : Var) → IsAny v → rest ≡ letter v → ⊥) → (s : ℕ) (v : Var) → s < 2 ^ 32 → text ≡ decimal s ++ 59 ∷ letter v → ⊥
no_letter text rest n small e none s v below f =
    none v tt (ends_alike 59 (decimal n) (decimal s) rest (letter v) (decimal_lacks 59 n (inr (omega arith)) small) (decimal_lacks 59 s (inr (omega arith)) (omega arith)) (sym e ∙ f)).back

pub no_step : (text rest : List ℕ) (n : ℕ) → n < 2 ^ 64 → text ≡ decimal n ++ 59 ∷ rest → (n < 2 ^ 32 → ⊥) → (s : ℕ) (v : Var) → s < 2 ^ 32 → text ≡ decimal s ++ 59 ∷ letter v → ⊥
no_step text rest n small e not s v below f =
    let front = (ends_alike 59 (decimal n) (decimal s) rest (letter v) (decimal_lacks 59 n (inr (omega arith)) small) (decimal_lacks 59 s (inr (omega arith)) (omega arith)) (sym e ∙ f)).front in
    let same = decimal_injective n s small (omega arith) front in not (omega arith)

pub has_number : (l : Line) → IsFormed l → HasNumber l
has_number (splits step v) f = omega arith
has_number (closes k) f = tt
has_number opens_one f = tt
has_number (opens n) f = f

pub formed : (version : ℕ) (at : Place) (l : Line) → at.places < 2 ^ 64 → MayCome version at l → IsFormed l
formed version at (splits step v) small may = omega arith
formed version at (closes k) small may = tt
formed version at opens_one small may = tt
formed version at (opens n) small may = let few = may.2 in omega arith

pub no_line_feed : (version : ℕ) (at : Place) (text : List ℕ) → Lacks 10 text → NoLine version at text
no_line_feed version at text lack = λ l rest may e. marked 10 text (body l) rest lack (e ∙ line_ends l rest)

pub no_such_line : (version : ℕ) (at : Place) (text front behind : List ℕ) → at.places < 2 ^ 64 → text ≡ front ++ 10 ∷ behind → Lacks 10 front → SaysLine front None → NoLine version at text
no_such_line version at text front behind small e lack none = λ l rest may f.
    let is = formed version at l small may in none l is (ends_alike 10 front (body l) behind rest lack (body_lacks l (has_number l is)) (sym e ∙ f ∙ line_ends l rest)).front

pub other_line : (version : ℕ) (at : Place) (text front behind : List ℕ) (m : Line) → at.places < 2 ^ 64 → text ≡ front ++ 10 ∷ behind → Lacks 10 front → IsFormed m → front ≡ body m → (MayCome version at m → ⊥) → NoLine version at text
other_line version at text front behind m small e lack fits is not = λ l rest may f.
    let formed_l = formed version at l small may in
    let same = bodies_alike m l (has_number m fits) (has_number l formed_l) (sym is ∙ (ends_alike 10 front (body l) behind rest lack (body_lacks l (has_number l formed_l)) (sym e ∙ f ∙ line_ends l rest)).front) in
    not (subst (MayCome version at) (sym same) may)
