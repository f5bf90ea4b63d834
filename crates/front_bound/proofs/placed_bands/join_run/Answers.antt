use Rattle.std.proofs.Common.{◌+◌, sym, subst, arith}
use Rattle.std.proofs.lemmas.Nat.{mul-le}
use Rattle.front_table.specs.declared.sets.SizeSet.{SizeSet}
use Rattle.front_table.specs.Sets.{Has}
use Rattle.front_bound.specs.inner.Placed.{BandJoined, RunJoined, IsSlack}
use Rattle.front_table.proofs.HeldLists.{least_first}
use Rattle.front_bound.proofs.placed_bands.join_run.Goals as goal

pub returns-then-waste-onward-clause-joined : goal.returns-then-waste-onward-clause-joined
unfolding RunJoined IsSlack
returns-then-waste-onward-clause-joined c = λ d w right low next own cells can gap.
    let high = least_first c.band_of-band.result.along d (c.band_of-band.ensures.sizes w d cells.0).0 in
    let less = mul-le c.args.onward.now.stretch.now.limits.top c.band_of-band.result.along.least c.args.onward.now.stretch.now.limits.top d (omega arith) high in
    absurd (omega (arith, less, c.args.onward.now.lean c.args.to d w right low own can, c.waste_left-waste.ensures, c.if-waste-onward.true))

pub returns-clause-joined : goal.returns-clause-joined
unfolding RunJoined BandJoined
returns-clause-joined c = λ d w right low next own cells can gap.
    c.in_ok-join_band.ensures.joined d w right low next own
    (c.band_of-band.ensures.sizes w d cells.0, subst (λ (s : SizeSet). Has s right) (sym c.band_of-band.ensures.right) cells.1, omega (arith, c.band_of-band.ensures.up, cells.2)) can.end gap
