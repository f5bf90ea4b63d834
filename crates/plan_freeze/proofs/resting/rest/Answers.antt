use Rattle.std.proofs.Common.{sym, subst, arith}
use Rattle.cut_model.specs.Fits.{Fits}
use Rattle.cut_model.specs.Lawful.{IsLawful}
use Rattle.cut_model.specs.Tree.{tree}
use Rattle.plan_freeze.proofs.Forests.{later_fits}
use Rattle.plan_freeze.proofs.FrozenLaw.{tail_lawful}
use Rattle.plan_freeze.proofs.resting.rest.Goals as goal

pub later_plan-requires : goal.later_plan-requires
later_plan-requires c = omega (arith, c.requires.fewer)

pub returns-clause-lawful : goal.returns-clause-lawful
returns-clause-lawful c =
    let plan = tree c.args.plan.now in
    subst (IsLawful c.in_ok-left.left) (sym c.in_ok-tail.ensures)
    (tail_lawful c.args.instance.now plan c.args.k c.in_ok-left.left c.items-items.ensures.rules c.requires.lawful c.requires.fewer c.in_ok-left.ensures)

pub returns-clause-fits : goal.returns-clause-fits
returns-clause-fits c = subst Fits (sym c.in_ok-tail.ensures) (later_fits c.args.k (tree c.args.plan.now) c.requires.fits)
