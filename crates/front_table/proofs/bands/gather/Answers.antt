use Rattle.std.proofs.Common.{sym, subst}
use Rattle.front_table.specs.Sets.{Held}
use Rattle.front_table.specs.Lattice.{Led}
use Rattle.front_table.specs.Pools.{HeldAt, row_at}
use Rattle.front_table.proofs.Each.{below_next}
use Rattle.front_table.proofs.HeldLists.{fits_none}
use Rattle.front_table.proofs.RowLemmas.{led_kept}
use Rattle.front_table.proofs.bands.gather.Goals as goal

pub loop-row-preserved : goal.loop-row-preserved
loop-row-preserved c = λ n x y lt.
    below_next (λ n. HeldAt c.args.pool.now n x y → Led c.append_bands.new.bands.items n y x) c.loop-row.row
    (λ k before held. led_kept c.loop-row.bands.items c.append_bands.new.bands.items k y x c.in_ok-append_bands.ensures.kept (c.loop-row.invariant k x y before held))
    (λ held. c.in_ok-append_bands.ensures.new x y (subst (λ l. Held l x y) (sym c.labels.ensures) held)) n lt

pub loop-row-init : goal.loop-row-init
loop-row-init c = λ n x y lt held. absurd (fits_none (row_at c.args.pool.now n) x y (c.low-low.ensures n lt) held)
