use Rattle.std.proofs.Common.{◌+◌, arith}
use Rattle.front_bound.specs.inner.Placed.{BandJoined, MoveJoined}
use Rattle.front_bound.proofs.placed_bands.join_move.Goals as goal

pub returns-then-to-row-clause-joined : goal.returns-then-to-row-clause-joined
unfolding MoveJoined
returns-then-to-row-clause-joined c = λ d w right low next own fits can gap. absurd (omega (arith, can.down, c.if-to-row.true))

pub returns-clause-joined : goal.returns-clause-joined
unfolding MoveJoined BandJoined
returns-clause-joined c = λ d w right low next own fits can gap. c.in_ok-join_band.ensures.joined d w right low next own (fits, c.all.ensures.each right, omega arith) can.end gap
