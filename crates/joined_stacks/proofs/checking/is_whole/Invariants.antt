use Rattle.std.proofs.Common.{◌≡◌, ◌+◌}
use Rattle.joined_stacks.specs.inner.Homes.{at_home, items_in}
use Rattle.joined_stacks.proofs.checking.is_whole.Given as goal

abbrev pub invariant-loop-stack : goal.invariant-loop-stack
invariant-loop-stack l = at_home l.homes (items_in l.instance) l.home l.stack + l.left ≡ items_in l.other l.home
