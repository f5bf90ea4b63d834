-- The place of the first defect in the way, against the rule that none is.
use Rattle.std.proofs.Common.{◌≡◌, ℕ, ◌<◌, ◌≤◌, Bool, false, cond, nat_lt, List, [], ◌∷◌, length, Option, Some, None, All, IsTrue, MatchOption, sym, ◌∙◌, arith}
use Rattle.std.specs.Prelude.{position}
use Rattle.glass_base.specs.declared.item.Defect.{Defect}
use Rattle.cut_model.specs.declared.family.Row.{Row}
use Rattle.cut_model.specs.Rules.{IsSound, HasClearBorder}
use Rattle.glass_base.specs.Problem.{Problem}
use Rattle.cut_rules.specs.declared.cut_rule.CutRule.{CutRule}
use Rattle.cut_model.specs.declared.family.Family.{Family}
use Rattle.cut_model.specs.declared.family.Sort.{Sort}
use Rattle.cut_rules.specs.Breaches.{meets, crosses, border}
use Rattle.cut_rules.specs.inner.Tests.{Breaks}
use Rattle.std.specs.List.{position_or_len}
use Rattle.std.proofs.lemmas.Bool.{false≢true}
use Rattle.std.proofs.lemmas.Bool.Decides.{nat_tests}
use Rattle.std.proofs.lemmas.List.Quantifiers.{position-Some}
use Rattle.std.proofs.lemmas.List.Sums.{fails_before_first}

not_below : (m n i : ℕ) → cond (nat_lt m n) (Some i) None ≡ None → n ≤ m
not_below m n i e = grind (arith, nat_tests)

-- where no place is found the test fails everywhere
none_found : {A : Type 0} (p : A → Bool) (xs : List A) → position p xs ≡ None → All (λ x. ¬ IsTrue (p x)) xs
none_found p xs e k d lt hit =
    false≢true (sym (fails_before_first p xs k d (omega (arith, lt, not_below (position_or_len p xs) (length xs) (position_or_len p xs) e))) ∙ hit)

-- where one is found it does not fail everywhere
one_found : {A : Type 0} (p : A → Bool) (xs : List A) (i : ℕ) → position p xs ≡ Some i → ¬ All (λ x. ¬ IsTrue (p x)) xs
one_found p [] i e all = cc
one_found p (x ∷ xs) i e all = let at = position-Some p (x ∷ xs) i x e in all i x at.0 at.1

-- a row with an inside is sound exactly where no place is found
pub place_if_unsound : (defects : List Defect) (row : Row) (found : Option ℕ) → 0 < row.width → 0 < row.height → found ≡ position (meets row) defects →
    MatchOption found (IsSound defects row) (λ i. (¬ IsSound defects row) × (position (meets row) defects ≡ Some i))
place_if_unsound defects row None wide high e = λ _ _. none_found (meets row) defects (sym e)
place_if_unsound defects row (Some i) wide high e = (λ sound. one_found (meets row) defects i (sym e) (sound wide high), sym e)

-- an item that is unsound
pub item_breaks : (b : Problem) (f : Family) (defects : List Defect) (number i : ℕ) → f.sort ≡ Sort.Item number → defects ≡ b.defects →
    (¬ IsSound defects f.row) × (position (meets f.row) defects ≡ Some i) → Breaks b CutRule.L7 f (number, i)
item_breaks b f defects number i sort same h = record {
  fails = λ keeps. h.0 (rw same (rw sort at keeps));
  shows = (sort, rw (← same) h.1);
}

-- a border that has a length is clear exactly where no defect passes the test
pub place_if_long : {Long : Type 0} (p : Defect → Bool) (defects : List Defect) (found : Option ℕ) → Long → found ≡ position p defects →
    MatchOption found (Long → All (λ d. ¬ IsTrue (p d)) defects) (λ i. (¬ (Long → All (λ d. ¬ IsTrue (p d)) defects)) × (position p defects ≡ Some i))
place_if_long p defects None long e = λ _. none_found p defects (sym e)
place_if_long p defects (Some i) long e = (λ clear. one_found p defects i (sym e) (clear long), sym e)

-- a border that is crossed
pub border_breaks : (b : Problem) (f : Family) (defects : List Defect) (line i : ℕ) → f.first ≡ false → defects ≡ b.defects → line ≡ border f.along f.row →
    (¬ HasClearBorder defects f.along f.row) × (position (crosses f.along f.row) defects ≡ Some i) → Breaks b CutRule.L8 f (line, i)
border_breaks b f defects line i behind same at h = record {
  fails = λ keeps. h.0 (rw same (keeps behind));
  shows = (at, rw (← same) h.1);
}
