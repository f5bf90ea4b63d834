use Rattle.std.proofs.Common.{refl}
use Rattle.std.proofs.lemmas.Bool.{false≢true}
use Rattle.cut_model.specs.Tree.{tree}
use Rattle.cut_model.proofs.Shapes.{tree_shaped}
use Rattle.run_plans.proofs.Judged.{broken_order, unbroken}
use Rattle.run_plans.proofs.judging.order_breach.Goals as goal

pub returns-in-Err : goal.returns-in-Err
returns-in-Err c =
    let kept = rw c.in-Err.is at c.in_ok-judge_order.ensures.lawful in
    let first = rw c.in-Err.is at c.in_ok-judge_order.ensures.first in
    broken_order c.args.instance.now (tree c.args.plan.now) c.in-Err.broken c.requires.cuts (λ keeps. false≢true (kept.1 keeps)) first

pub returns-in-Ok : goal.returns-in-Ok
returns-in-Ok c =
    let kept = rw c.in-Ok.is at c.in_ok-judge_order.ensures.lawful in
    unbroken c.args.instance.now (tree c.args.plan.now) (tree_shaped c.args.plan.now) c.requires.cuts (kept.0 refl)
