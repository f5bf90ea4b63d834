use Rattle.std.proofs.Common.{ℕ, ◌∙◌, sym, subst, Option}
use Rattle.std.specs.Prelude.{option_map}
use Rattle.cut_model.specs.Tree.{tree}
use Rattle.cert_resume.specs.Joins.{IsAtMost}
use Rattle.run_checks.specs.Checks.{loss_in}
use Rattle.run_search.specs.inner.Searches.{losses_in}
use Rattle.run_search.proofs.Searched.{found}
use Rattle.run_search.proofs.Told.{told}
use Rattle.run_search.proofs.planning.find_plan.Goals as goal

pub certificate_of-requires : goal.certificate_of-requires
certificate_of-requires g c = let is = c.in_ok-searched.ensures.history.history in (c.args.workforce.now.options.budget, is.to_beat, is.lawful)

pub returns-clause-found : goal.returns-clause-found
returns-clause-found g c =
    let b = c.args.ground.instance.now in
    let rules = c.items-items.ensures.rules in
    let searched = c.in_ok-searched.searched in
    let is = c.in_ok-searched.ensures.history.history in
    let certifies = c.in_ok-certificate.ensures.certifies c.args.workforce.now.options.budget is.to_beat is.lawful in
    let improvements = told b is.to_beat searched.history.best c.in_ok-certificate.certificate.loss c.args.workforce.now.options.watch searched.improvements rules certifies.good.loss_is c.in_ok-searched.ensures.history.watched in
    found b c.args.workforce.now.options.budget c.args.workforce.now.options.watch searched.history c.in_ok-certificate.certificate _ (losses_in searched.improvements) rules c.args.workforce.now.options.bounded.1 is
    certifies c.in_ok-plan.ensures.loss c.in_ok-plan.ensures.said c.in_ok-plan.ensures.short c.in_ok-certificate.ensures.head improvements

pub returns-clause-unasked : goal.returns-clause-unasked
returns-clause-unasked g c unasked =
    let is = c.in_ok-searched.ensures.history.history in
    (c.in_ok-certificate.ensures.certifies c.args.workforce.now.options.budget is.to_beat is.lawful).version.1 ∙ c.in_ok-searched.ensures.unasked unasked

pub returns-clause-no_worse : goal.returns-clause-no_worse
returns-clause-no_worse g c =
    let is = c.in_ok-searched.ensures.history.history in
    let certifies = c.in_ok-certificate.ensures.certifies c.args.workforce.now.options.budget is.to_beat is.lawful in
    subst (λ (o : Option ℕ). IsAtMost o (loss_in c.args.ground.instance.now (option_map tree c.args.before.now))) (sym certifies.good.loss_is) c.in_ok-searched.ensures.no_worse
