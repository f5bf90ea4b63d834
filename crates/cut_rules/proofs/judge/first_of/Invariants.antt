use Rattle.std.proofs.Common.{All, take}
use Rattle.cut_model.specs.Families.{families_of}
use Rattle.cut_model.specs.Tree.{tree}
use Rattle.cut_rules.specs.Breaches.{KeepsCutRule}
use Rattle.cut_rules.proofs.judge.first_of.Given as goal

abbrev pub invariant-loop-rule : goal.invariant-loop-rule
invariant-loop-rule l = All (λ rule. All (KeepsCutRule l.ground.instance.now rule) (families_of l.ground.instance.now (tree l.plan))) (take l.rule-index l.rules)
