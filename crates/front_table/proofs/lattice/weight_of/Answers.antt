use Rattle.std.proofs.Common.{arith}
use Rattle.front_table.specs.Lattice.{count_at}
use Rattle.front_table.proofs.RowLemmas.{weight_none}
use Rattle.front_table.proofs.lattice.weight_of.Goals as goal

pub returns : goal.returns
returns c =
    omega (
      arith,
      c.loop-stack.invariant,
      weight_none c.args.weights.now c.loop-stack.stack c.loop-stack.stack (count_at c.args.rows.now c.args.row) (omega (arith, c.requires, c.loop-stack-test.false, c.stacks-stack-end.ensures.value)),
    )
