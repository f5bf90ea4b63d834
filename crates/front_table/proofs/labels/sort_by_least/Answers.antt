use Rattle.std.proofs.lemmas.List.Sorted.{Contains-permutation}
use Rattle.front_table.specs.Sets.{HeldTo, Keeps}
use Rattle.front_table.proofs.labels.sort_by_least.Goals as goal

pub returns : goal.returns
unfolding Keeps HeldTo
returns c = λ x y right up held. (held.0, Contains-permutation c.args.labels.now.items _ held.0 c.sort_unstable_by_key.ensures.permutation held.1, held.2)
