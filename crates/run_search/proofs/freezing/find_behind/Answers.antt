use Rattle.std.proofs.Common.{◌∙◌}
use Rattle.cut_model.specs.Tree.{tree}
use Rattle.run_search.proofs.FoundBehind.{behind, if_all}
use Rattle.run_search.proofs.freezing.find_behind.Goals as goal

pub returns-clause-found : goal.returns-clause-found
returns-clause-found g c =
    let options = c.args.workforce.now.options in
    let same = c.ground.ensures ∙ c.in_ok-behind.ensures in
    if_all c.find_from.result _ _ _ _
    (λ f is few head.
    behind c.args.instance.now c.in_ok-left.left (tree c.args.plan.now) (tree c.in_ok-left.tail) c.args.k options.budget options.fronts f.certificate (tree f.best) c.in_ok-left.ensures.instance c.in_ok-left.ensures.plan is few head)
    (rw same at c.find_from.ensures.found) (rw same at c.find_from.ensures.few) c.find_from.ensures.head
