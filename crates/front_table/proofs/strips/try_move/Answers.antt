use Rattle.std.proofs.Common.{arith}
use Rattle.front_table.specs.Tries.{BandTried}
use Rattle.front_table.proofs.strips.try_move.Goals as goal

pub returns-then-to-extension-clause-tried : goal.returns-then-to-extension-clause-tried
unfolding BandTried
returns-then-to-extension-clause-tried c = λ down low. absurd (omega (arith, down, c.if-to-extension.true))

pub returns-then-waste-extension-clause-tried : goal.returns-then-waste-extension-clause-tried
unfolding BandTried
returns-then-waste-extension-clause-tried c = λ down low. absurd (omega (arith, low, c.waste_left-waste.ensures, c.if-waste-extension.true))

pub returns-clause-tried : goal.returns-clause-tried
unfolding BandTried
returns-clause-tried c = λ down low. c.in_ok-try_band.ensures.tried
