use Rattle.std.proofs.Common.{arith}
use Rattle.front_table.proofs.Staircases.{ended_behind}
use Rattle.front_table.proofs.stairs.append_all_behind.Goals as goal

pub returns-clause-new : goal.returns-clause-new
returns-clause-new c = ended_behind c.args.ends.now c.loop-end.all.items c.args.area c.args.most (λ k d lt. c.loop-end.invariant.new k d (omega (arith, lt, c.loop-end-test.false)))
