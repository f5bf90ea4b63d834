use Rattle.std.proofs.Common.{arith}
use Rattle.cut_model.specs.Tree.{tree}
use Rattle.run_search.proofs.Searched.{best_plan}
use Rattle.run_search.proofs.StoredTexts.{plan_again, plan_short}
use Rattle.run_search.proofs.planning.best_plan.Goals as goal

pub returns-in_ok-plan-in-Some-clause-loss : goal.returns-in_ok-plan-in-Some-clause-loss
returns-in_ok-plan-in-Some-clause-loss c =
    let is = rw c.in-Some.is at c.requires in
    best_plan c.args.instance.now c.args.history.now.best c.in-Some.trace.steps.items (tree c.in_ok-plan-in-Some.plan) (omega (arith, is.0)) is.2
    c.in_ok-plan-in-Some.ensures.good.lawful c.in_ok-plan-in-Some.ensures.loses

pub returns-in_ok-plan-in-Some-clause-said : goal.returns-in_ok-plan-in-Some-clause-said
returns-in_ok-plan-in-Some-clause-said c = plan_again c.args.instance.now c.in_ok-plan-in-Some.plan c.items-items.ensures.rules c.in_ok-plan-in-Some.ensures.good

pub returns-in_ok-plan-in-Some-clause-short : goal.returns-in_ok-plan-in-Some-clause-short
returns-in_ok-plan-in-Some-clause-short c = plan_short c.args.instance.now c.in_ok-plan-in-Some.plan c.items-items.ensures.rules c.in_ok-plan-in-Some.ensures.good
