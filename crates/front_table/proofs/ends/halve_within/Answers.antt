use Rattle.std.proofs.Common.{◌+◌, ◌-◌, ◌/◌, inr, arith}
use Rattle.front_table.proofs.Staircases.{falls_at}
use Rattle.front_table.proofs.ends.halve_within.Goals as goal

pub returns-then-to_go_in-within-clause-below : goal.returns-then-to_go_in-within-clause-below
returns-then-to_go_in-within-clause-below c = λ i lt.
    inr (omega (arith, (falls_at c.args.ends.now i (c.args.low + (c.args.high - c.args.low) / 2) c.requires.falls (omega (arith, lt)) (omega (arith, c.requires.some, c.requires.bound))).1, c.if-to_go_in-within.true, c.to_go_in.ensures))
