use Rattle.std.proofs.Common.{arith}
use Rattle.first_plan.proofs.comparing.length_of_plan.Goals as goal

pub length-requires-clause-some : goal.length-requires-clause-some
length-requires-clause-some c = omega (arith, c.requires.problem.some, c.requires.complete.each_item)

pub length-requires-clause-kinds : goal.length-requires-clause-kinds
length-requires-clause-kinds c = c.traces_keep_their_kinds.ensures c.args.instance.now c.requires.problem c.args.trace.now.steps.items c.requires.complete.meets
