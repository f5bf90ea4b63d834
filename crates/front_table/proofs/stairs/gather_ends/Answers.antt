use Rattle.std.proofs.Common.{ℕ, ◌<◌, length, get_or, ap, subst, arith}
use Rattle.front_table.specs.Lattice.{links_at}
use Rattle.front_table.specs.Levels.{Gathered}
use Rattle.front_table.proofs.Each.{up_to, contained_each}
use Rattle.front_table.proofs.Paths.{gathered_kept}
use Rattle.front_table.proofs.stairs.gather_ends.Goals as goal

pub loop-to-preserved : goal.loop-to-preserved
loop-to-preserved c =
    let P : ℕ → Type 0 = λ to. to < length c.args.fronts.now.levels.now → Gathered c.args.fronts.now.rows.now c.args.fronts.now.levels.now c.args.row c.args.fronts.now.cover c.gather_from.new.all.items to in
    up_to P (links_at c.args.fronts.now.rows.now c.args.row) c.loop-to.to-index 0 (subst (λ l. c.loop-to.to-index < length l) c.links_of-to-items.ensures c.loop-to-test.true)
    (λ k d lt down. gathered_kept c.args.fronts.now.rows.now c.args.fronts.now.levels.now c.args.row c.args.fronts.now.cover (get_or (links_at c.args.fronts.now.rows.now c.args.row) k d) c.loop-to.all.items c.gather_from.new.all.items c.in_ok-gather_from.ensures.kept (c.loop-to.invariant k d lt down))
    (subst (λ l. P (get_or l c.loop-to.to-index 0)) c.links_of-to-items.ensures c.in_ok-gather_from.ensures.new)

pub returns : goal.returns
returns c =
    contained_each (λ to. to < length c.args.fronts.now.levels.now → Gathered c.args.fronts.now.rows.now c.args.fronts.now.levels.now c.args.row c.args.fronts.now.cover c.loop-to.all.items to) (links_at c.args.fronts.now.rows.now c.args.row)
    (λ k d lt. c.loop-to.invariant k d (omega (arith, lt, c.loop-to-test.false, ap length c.links_of-to-items.ensures)))
