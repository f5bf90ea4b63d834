use Rattle.std.proofs.Common.{ℕ, ◌<◌, length}
use Rattle.joined_stacks.specs.inner.Homes.{home_of, FitsIn}
use Rattle.joined_stacks.proofs.checking.are_at_home.Given as goal

abbrev pub invariant-loop-stack : goal.invariant-loop-stack
invariant-loop-stack l = (stack : ℕ) → stack < l.stack → (home_of l.homes stack < length l.other.stacks) × FitsIn l.instance l.other stack (home_of l.homes stack)
