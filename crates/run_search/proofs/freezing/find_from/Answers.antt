use Rattle.std.proofs.Common.{Option, subst}
use Rattle.std.specs.Prelude.{option_map}
use Rattle.cut_model.specs.Tree.{tree}
use Rattle.cut_model.specs.declared.plan.Plan.{Plan}
use Rattle.cert_log.specs.Lawful.{loss_of}
use Rattle.run_search.specs.Plans.{HasLoss}
use Rattle.run_search.proofs.FoundBehind.{found_from}
use Rattle.run_search.proofs.freezing.find_from.Goals as goal

pub returns-clause-found : goal.returns-clause-found
returns-clause-found g c =
    let b = c.args.ground.instance.now in
    let h = c.in_ok-history.history in
    let is = c.in_ok-history.ensures in
    found_from b (tree c.args.plan.now) c.args.workforce.now.options.budget c.args.workforce.now.options.fronts h c.in_ok-certificate.certificate (tree c.in-Some.best) c.items-items.ensures.rules is (c.in_ok-certificate.ensures.certifies c.args.workforce.now.options.budget is.to_beat is.lawful)
    c.in_ok-certificate.ensures.head c.args.workforce.now.options.bounded.1
    (subst (λ (o : Option Plan). HasLoss b (loss_of h.best) (option_map tree o)) c.in-Some.is c.in_ok-plan.ensures.loss)
