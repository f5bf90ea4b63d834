use Rattle.std.proofs.Common.{inr, arith}
use Rattle.front_bound.proofs.placed_cells.cells_from.Goals as goal

pub returns-clause-placed : goal.returns-clause-placed
returns-clause-placed c = record {
  begun = λ x y left top gap tall has. c.in_ok-spread_cells.ensures.spreads.kept c.args.sought.now.start x y left top (c.in_ok-offer.ensures.stands x y left top ((gap, inr (omega (arith, tall))), has, omega arith));
  goes_on = c.in_ok-spread_cells.ensures.goes_on;
}
