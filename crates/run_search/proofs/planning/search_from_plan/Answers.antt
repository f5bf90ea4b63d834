use Rattle.std.proofs.Common.{◌∙◌}
use Rattle.std.specs.Prelude.{option_map}
use Rattle.std.proofs.lemmas.Result.{IfOk-weaker}
use Rattle.cut_model.specs.Tree.{tree}
use Rattle.box_workers.specs.Runs.{first_loss}
use Rattle.run_search.proofs.Known.{at_most_known, has_first}
use Rattle.run_search.proofs.Resumed.{known_at_most, small_too}
use Rattle.run_search.proofs.Searched.{from_both, from_first}
use Rattle.run_search.proofs.planning.search_from_plan.Goals as goal

pub returns-clause-history : goal.returns-clause-history
returns-clause-history g c =
    let b = c.args.ground.instance.now in
    let options = c.args.workforce.now.options in
    let start = c.in_ok-start.start in
    let begun = c.in_ok-start.ensures in
    from_both c.search_all_plans.result _ _ _ c.search_all_plans.ensures.history c.search_all_plans.ensures.watched
    (λ s is watched. from_first b options.budget options.watch start.first start.floor s.history s.improvements begun.plan begun.none is watched)

pub returns-clause-unasked : goal.returns-clause-unasked
returns-clause-unasked g c =
    IfOk-weaker c.search_all_plans.result _ _ (λ s is unasked. is.lawful.floor_is ∙ c.in_ok-start.ensures.unasked unasked) c.search_all_plans.ensures.history

pub returns-clause-no_worse : goal.returns-clause-no_worse
returns-clause-no_worse g c =
    let b = c.args.ground.instance.now in
    let before = c.args.before.now in
    let known = c.in_ok-known.known in
    let first = c.in_ok-start.start.first in
    let is_known = c.in_ok-known.ensures.known in
    let no_worse = c.in_ok-start.ensures.no_worse in
    IfOk-weaker c.search_all_plans.result _ _
    (λ s is.
    known_at_most b (option_map tree before) s.history.best (first_loss b first) is.lawful.best_first (at_most_known b before known first is_known c.in_ok-known.ensures.no_worse no_worse)
    (small_too before first (first_loss b first) (has_first b before known first is_known no_worse) is.known))
    c.search_all_plans.ensures.history
