use Rattle.std.specs.Prelude.{option_map}
use Rattle.std.proofs.lemmas.Result.{IfOk-weaker}
use Rattle.cut_model.specs.Tree.{tree}
use Rattle.run_search.specs.inner.Searches.{losses_in}
use Rattle.run_search.proofs.planning.plan_from.Goals as goal

pub returns : goal.returns
returns g c =
    let found = c.in_ok-found.found in
    IfOk-weaker c.reply_with_found.result _ _
    (λ r is names. record {
      certificate = found.certificate;
      plan = option_map tree found.plan;
      told = losses_in found.improvements;
      found = c.in_ok-found.ensures.found.found;
      improvements = c.in_ok-found.ensures.found.improvements;
      unasked = c.in_ok-found.ensures.unasked;
      no_worse = c.in_ok-found.ensures.no_worse;
      answer_is = is names;
    })
    c.reply_with_found.ensures
