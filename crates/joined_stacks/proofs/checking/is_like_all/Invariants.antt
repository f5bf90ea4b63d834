use Rattle.std.proofs.Common.{ℕ, ◌+◌, ◌<◌}
use Rattle.glass_base.specs.Problem.{item_at}
use Rattle.joined_stacks.specs.inner.Homes.{AreAlike}
use Rattle.joined_stacks.proofs.checking.is_like_all.Given as goal

abbrev pub invariant-loop-more : goal.invariant-loop-more
invariant-loop-more l = (k : ℕ) → k < l.more → AreAlike (item_at l.instance l.stack l.place) (item_at l.other l.home (l.place + k))
