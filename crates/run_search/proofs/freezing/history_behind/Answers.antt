use Rattle.std.proofs.lemmas.Result.{IfOk-weaker}
use Rattle.cut_model.specs.Tree.{tree}
use Rattle.run_search.proofs.Known.{behind_known}
use Rattle.run_search.proofs.freezing.history_behind.Goals as goal

pub returns : goal.returns
returns g c =
    let options = c.args.workforce.now.options in
    let start = c.in_ok-start.start in
    let begun = c.in_ok-start.ensures in
    IfOk-weaker c.history_of_all_plans.result _ _
    (λ h is.
    behind_known c.args.ground.instance.now (tree c.args.plan.now) options.budget options.fronts c.in_ok-known.known start.first start.floor h (c.in_ok-known.ensures.loss c.requires.lawful) begun.no_worse begun.unasked is)
    c.history_of_all_plans.ensures
