use Rattle.std.proofs.Common.{refl}
use Rattle.cut_model.specs.Families.{families_of}
use Rattle.cut_model.specs.Tree.{tree}
use Rattle.std.proofs.Common.{All}
use Rattle.std.proofs.lemmas.List.{take_all}
use Rattle.std.proofs.lemmas.List.Elements.{All-more}
use Rattle.cut_rules.specs.Breaches.{KeepsCutRule}
use Rattle.cut_rules.proofs.Judged.{breach_found}
use Rattle.cut_rules.proofs.judge.first_of.Goals as goal

pub returns-in-Some : goal.returns-in-Some
returns-in-Some c =
    let b = c.args.ground.instance.now in
    breach_found b (families_of b (tree c.args.plan.now)) c.args.rules.now c.loop-rule.rule-index _ _ c.in-Some.broken c.loop-rule-test.true refl c.loop-rule.invariant c.in-Some.ensures

pub loop-rule-preserved : goal.loop-rule-preserved
loop-rule-preserved c =
    let b = c.args.ground.instance.now in
    All-more (λ rule. All (KeepsCutRule b rule) (families_of b (tree c.args.plan.now))) c.args.rules.now c.loop-rule.rule-index _ c.loop-rule-test.true c.loop-rule.invariant c.in-None.ensures

pub returns : goal.returns
returns c = rw (← take_all c.loop-rule.rule-index c.args.rules.now c.loop-rule-test.false) c.loop-rule.invariant
