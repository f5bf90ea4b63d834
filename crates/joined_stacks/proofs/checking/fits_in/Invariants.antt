use Rattle.std.proofs.Common.{ℕ, ◌+◌, ◌<◌, ◌≤◌}
use Rattle.glass_base.specs.Problem.{item_at}
use Rattle.joined_stacks.specs.inner.Homes.{AreAlike}
use Rattle.joined_stacks.proofs.checking.fits_in.Given as goal

abbrev pub invariant-loop-place : goal.invariant-loop-place
invariant-loop-place l = (place more : ℕ) → place < l.place → more ≤ l.most → AreAlike (item_at l.instance l.stack place) (item_at l.other l.home (place + more))
