use Rattle.front_bound.proofs.PlacedRows.{all_joined}
use Rattle.front_bound.proofs.placed_strips.extend_freely.Goals as goal

pub returns-clause-extended : goal.returns-clause-extended
returns-clause-extended c =
    all_joined c.args.onward.now.stretch.now c.join_moves.new.pool c.args.onward.now.row c.args.onward.now.label.now c.args.onward.now.slack c.requires.stretch.bound c.args.onward.now.lean c.in_ok-join_moves.ensures.joined
