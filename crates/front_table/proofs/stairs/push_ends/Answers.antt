use Rattle.std.proofs.Common.{arith}
use Rattle.front_table.proofs.Staircases.{ended_each}
use Rattle.front_table.proofs.stairs.push_ends.Goals as goal

pub returns-clause-new : goal.returns-clause-new
returns-clause-new c = ended_each c.args.ends.now c.loop-end.stairs.items (λ k d lt. c.loop-end.invariant.new k d (omega (arith, lt, c.loop-end-test.false)))
