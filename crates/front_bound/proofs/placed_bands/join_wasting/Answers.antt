use Rattle.std.proofs.Common.{arith}
use Rattle.front_bound.specs.inner.Placed.{WasteJoined}
use Rattle.front_bound.proofs.placed_bands.join_wasting.Goals as goal

pub returns-then-waste-onward-clause-joined : goal.returns-then-waste-onward-clause-joined
unfolding WasteJoined
returns-then-waste-onward-clause-joined c = λ low. absurd (omega (arith, low, c.waste_left-waste.ensures, c.if-waste-onward.true))

pub returns-clause-joined : goal.returns-clause-joined
unfolding WasteJoined
returns-clause-joined c = λ low. c.in_ok-join_move.ensures.joined
