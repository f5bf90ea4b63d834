use Rattle.std.proofs.Common.{ap, arith}
use Rattle.front_table.specs.Tails.{AreBehindBand, tail_at, tails_at}
use Rattle.front_table.proofs.StackTails.{behind_all, behind_by}
use Rattle.front_table.proofs.tails.lower_by_band.Goals as goal

pub returns-then-band-levels-clause-behind : goal.returns-then-band-levels-clause-behind
unfolding AreBehindBand
returns-then-band-levels-clause-behind c = λ lt. absurd (omega (arith, lt, c.if-band-levels.true))

pub returns-then-saturating_add-tails-clause-behind : goal.returns-then-saturating_add-tails-clause-behind
unfolding AreBehindBand
returns-then-saturating_add-tails-clause-behind c = λ lt. behind_all c.lower_to.new.tails (tails_at c.args.levels.now c.args.band.now.to c.args.class) c.args.unit c.args.band.now.label.along.least c.lower_to.ensures.to

pub returns-clause-behind : goal.returns-clause-behind
unfolding AreBehindBand
returns-clause-behind c = λ lt.
    behind_by c.lower_by.new.tails (tails_at c.args.levels.now c.args.band.now.to c.args.class) c.args.unit c.args.band.now.label.along.least c.units_in-skipped.result c.units_in-skipped.ensures.least
    (λ j. omega (arith, c.lower_by.ensures.behind j, ap (λ l. tail_at l j) c.tails_of-others.ensures))
