use Rattle.std.proofs.Common.{rules, arith}
use Rattle.front_table.proofs.lattice.is_lattice.Goals as goal

pub returns-then-is_first : goal.returns-then-is_first
returns-then-is_first c = λ yes. record {
  weights = c.args.weights.now;
  few = omega (arith, c.if-weights-stacks.false, c.stacks.ensures.value);
  some = search rules;
  first = search rules;
  each = c.are_rows.ensures yes;
}
