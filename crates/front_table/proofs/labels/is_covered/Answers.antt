use Rattle.front_table.proofs.HeldLists.{held_to_at}
use Rattle.front_table.proofs.labels.is_covered.Goals as goal

pub returns-then-covers : goal.returns-then-covers
returns-then-covers c = λ yes x y right up stands. held_to_at c.args.labels.now c.loop-held.held-index _ x y right up c.loop-held-test.true (c.covers.ensures c.if-covers.true x y right up stands)
