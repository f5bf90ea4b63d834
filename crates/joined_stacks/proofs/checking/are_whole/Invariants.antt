use Rattle.std.proofs.Common.{◌≡◌, ℕ, ◌<◌, length}
use Rattle.joined_stacks.specs.inner.Homes.{at_home, items_in}
use Rattle.joined_stacks.proofs.checking.are_whole.Given as goal

abbrev pub invariant-loop-home : goal.invariant-loop-home
invariant-loop-home l = (home : ℕ) → home < l.home → at_home l.homes (items_in l.instance) home (length l.instance.stacks) ≡ items_in l.other home
