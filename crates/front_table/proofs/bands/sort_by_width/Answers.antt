use Rattle.std.proofs.lemmas.List.Sorted.{Contains-permutation}
use Rattle.front_table.specs.Lattice.{Led}
use Rattle.front_table.proofs.bands.sort_by_width.Goals as goal

pub returns-clause-kept : goal.returns-clause-kept
unfolding Led
returns-clause-kept c = λ n x y led. (led.0, Contains-permutation c.args.bands.now.items _ led.0 c.sort_unstable_by_key.ensures.permutation led.1, led.2, led.3)
