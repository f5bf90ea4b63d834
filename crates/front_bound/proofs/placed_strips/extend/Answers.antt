use Rattle.front_bound.proofs.PlacedRows.{none_extended}
use Rattle.front_bound.proofs.placed_strips.extend.Goals as goal

pub returns-in_default-clause-extended : goal.returns-in_default-clause-extended
returns-in_default-clause-extended c = none_extended c.args.stretch.now c.args.pool.now c.args.row c.args.label.now c.in_default.ensures.none
