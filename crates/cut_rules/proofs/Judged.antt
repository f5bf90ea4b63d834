-- One more piece, one more rule, and all rules on cuts together.
use Rattle.std.proofs.Common.{◌≡◌, ℕ, ◌<◌, List, [], ◌∷◌, ◌++◌, length, take, get_or, Option, Some, None, All, MatchOption, sym, subst, arith}
use Rattle.std.proofs.lemmas.List.Elements.{All-push}
use Rattle.glass_base.specs.Problem.{Problem}
use Rattle.cut_rules.specs.declared.cut_rule.CutRule.{CutRule}
use Rattle.cut_model.specs.declared.broken.Broken.{Broken}
use Rattle.cut_model.specs.declared.family.Family.{Family}
use Rattle.cut_model.specs.Rules.{KeepsCutRules}
use Rattle.cut_model.proofs.Firsts.{first_at, first_pushed, first_stays, first_not_all}
use Rattle.cut_rules.specs.Breaches.{KeepsCutRule, IsFirstBreach, IsBreachOf, cut_rules}
use Rattle.cut_rules.specs.inner.Tests.{BreaksWith, Watched}

-- one more piece was seen: where the rule was kept before, the piece is asked, else the first breach stays
pub watched_more : (b : Problem) (rule : CutRule) (seen : List Family) (f : Family) (before now : Option Broken) → Watched b rule seen before →
    MatchOption before (MatchOption now (KeepsCutRule b rule f) (BreaksWith b rule f)) (λ broken. now ≡ Some broken) → Watched b rule (seen ++ f ∷ []) now
watched_more b rule seen f None None kept asked = All-push (KeepsCutRule b rule) seen f kept asked
watched_more b rule seen f None (Some broken) kept asked = record { piece = f; first = first_pushed seen f kept asked.fails; names = asked.names }
watched_more b rule seen f (Some broken) now found same =
    let P : Option Broken → Type 0 = λ o. Watched b rule (seen ++ f ∷ []) o in
    subst P (sym same) (record { piece = found.piece; first = first_stays seen (f ∷ []) found.piece found.first; names = found.names })

-- the first rule that is broken, found while the rules are gone through
pub breach_found : (b : Problem) (fs : List Family) (rules : List CutRule) (i : ℕ) (rule d : CutRule) (broken : Broken) → i < length rules → rule ≡ get_or rules i d →
    All (λ r. All (KeepsCutRule b r) fs) (take i rules) → IsFirstBreach b rule fs broken → IsBreachOf b fs rules broken
breach_found b fs rules i rule d broken lt is before h = record {
  rule = rule;
  first = first_at rules i rule d lt is before (first_not_all fs h.piece h.first);
  place = h;
}

-- each rule is kept by all pieces just if each piece keeps all rules
pub pieces_keep : (b : Problem) (fs : List Family) → All (λ rule. All (KeepsCutRule b rule) fs) cut_rules → All (KeepsCutRules b) fs
pieces_keep b fs h k d lt = record {
  l1 = h 0 CutRule.L1 (omega arith) k d lt;
  l2 = h 1 CutRule.L1 (omega arith) k d lt;
  l3 = h 2 CutRule.L1 (omega arith) k d lt;
  l4 = h 3 CutRule.L1 (omega arith) k d lt;
  l5 = h 4 CutRule.L1 (omega arith) k d lt;
  l6 = h 5 CutRule.L1 (omega arith) k d lt;
  l7 = h 6 CutRule.L1 (omega arith) k d lt;
  l8 = h 7 CutRule.L1 (omega arith) k d lt;
}

rule_kept : (b : Problem) (fs : List Family) → All (KeepsCutRules b) fs → (rule : CutRule) → All (KeepsCutRule b rule) fs
rule_kept b fs h CutRule.L1 k d lt = (h k d lt).l1
rule_kept b fs h CutRule.L2 k d lt = (h k d lt).l2
rule_kept b fs h CutRule.L3 k d lt = (h k d lt).l3
rule_kept b fs h CutRule.L4 k d lt = (h k d lt).l4
rule_kept b fs h CutRule.L5 k d lt = (h k d lt).l5
rule_kept b fs h CutRule.L6 k d lt = (h k d lt).l6
rule_kept b fs h CutRule.L7 k d lt = (h k d lt).l7
rule_kept b fs h CutRule.L8 k d lt = (h k d lt).l8

-- where some piece breaks one of the rules, not every piece keeps all of them
pub broken_not_kept : (b : Problem) (fs : List Family) (broken : Broken) → IsBreachOf b fs cut_rules broken → ¬ All (KeepsCutRules b) fs
broken_not_kept b fs broken h kept = first_not_all cut_rules h.rule h.first (λ k d lt. rule_kept b fs kept (get_or cut_rules k d))
