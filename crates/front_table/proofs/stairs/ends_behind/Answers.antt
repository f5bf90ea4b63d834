use Rattle.std.proofs.Common.{sym, subst}
use Rattle.std.proofs.Math.Logic.{∥∥₁_map}
use Rattle.front_table.specs.Ends.{Ended}
use Rattle.front_table.specs.Levels.{to_go_at}
use Rattle.front_table.proofs.Known.{ends_behind_known}
use Rattle.front_table.proofs.Staircases.{ended_permuted}
use Rattle.front_table.proofs.Paths.{gathered_behind, gathered_kept}
use Rattle.front_table.proofs.stairs.ends_behind.Goals as goal

pub returns-clause-ends : goal.returns-clause-ends
returns-clause-ends c =
    ends_behind_known c.args.fronts.now.instance.now c.args.fronts.now.rows.now c.args.fronts.now.cover (to_go_at c.args.fronts.now.levels.now) c.args.row c.in_ok-stairs.stairs.items (∥∥₁_map c.args.fronts.now.lattice (λ lattice.
    gathered_behind c.args.fronts.now.instance.now c.args.fronts.now.rows.now lattice c.args.fronts.now.cover (to_go_at c.args.fronts.now.levels.now) c.args.fronts.now.levels.now c.args.row _ c.in_ok-stairs.stairs.items c.requires.below c.requires.ends
    (λ to has down. gathered_kept c.args.fronts.now.rows.now c.args.fronts.now.levels.now c.args.row c.args.fronts.now.cover to c.in_ok-all.all.items c.in_ok-stairs.stairs.items
    (λ area far ended. c.in_ok-stairs.ensures.ends area far (subst (λ l. Ended l area far) (sym c.as_slice.ensures.value) (ended_permuted c.in_ok-all.all.items _ area far c.sort_unstable_by_key.ensures.permutation ended))) (c.in_ok-all.ensures to has down))))
