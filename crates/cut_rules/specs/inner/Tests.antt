-- What a test of one rule says of a piece, and of the pieces that were seen.
use Rattle.std.specs.Prelude.{ℕ, List, Option, All, MatchOption}
use Rattle.glass_base.specs.Problem.{Problem}
use Rattle.cut_model.specs.declared.broken.Broken.{Broken}
use Rattle.cut_model.specs.declared.family.Family.{Family}
use Rattle.cut_rules.specs.declared.cut_rule.CutRule.{CutRule}
use Rattle.cut_rules.specs.Breaches.{IsFirstBreach, KeepsCutRule, Names, Shows}

-- what a test of one rule tells of a piece: the two numbers, where the piece breaks the rule
pub record Breaks (b : Problem) (rule : CutRule) (f : Family) (numbers : ℕ × ℕ) : Type 0 where
  pub fails : ¬ KeepsCutRule b rule f
  pub shows : Shows b rule f numbers.0 numbers.1

abbrev pub Tests : Problem → CutRule → Family → Option (ℕ × ℕ) → Type 0
Tests b rule f found = MatchOption found (KeepsCutRule b rule f) (Breaks b rule f)

-- the piece breaks the rule, and this is the breach
pub record BreaksWith (b : Problem) (rule : CutRule) (f : Family) (broken : Broken) : Type 0 where
  pub fails : ¬ KeepsCutRule b rule f
  pub names : Names b rule f broken

-- what is known of a rule once these pieces were seen: that all keep it, or its first breach
abbrev pub Watched : Problem → CutRule → List Family → Option Broken → Type 0
Watched b rule fs first = MatchOption first (All (KeepsCutRule b rule) fs) (IsFirstBreach b rule fs)
