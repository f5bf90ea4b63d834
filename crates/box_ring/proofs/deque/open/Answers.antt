use Rattle.std.proofs.Common.{rules}
use Rattle.box_ring.proofs.Keeps.{begins, seeds, unseeds, finds_none, seed_stays}
use Rattle.box_ring.proofs.deque.open.Goals as goal

pub push_as-requires-clause-pushes : goal.push_as-requires-clause-pushes
push_as-requires-clause-pushes c = seeds _ _ _ (search rules)

pub pop_as-requires-clause-lifo : goal.pop_as-requires-clause-lifo
pop_as-requires-clause-lifo c _ = unseeds _ _ c.of_frame-seed.result c.in-Ok.ensures.rule.0

pub pop_as-requires-clause-empty : goal.pop_as-requires-clause-empty
pop_as-requires-clause-empty c = finds_none _ _

pub unreachable-requires : goal.unreachable-requires
unreachable-requires c = seed_stays _ c.of_frame-seed.result c.in-Ok.ensures.rule.0 c.in_default-pop_as.ensures.rule.1

pub lifo_as-requires : goal.lifo_as-requires
lifo_as-requires c = begins
