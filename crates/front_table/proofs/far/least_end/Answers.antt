use Rattle.std.proofs.Common.{◌+◌, ◌≤◌, sym, subst, arith}
use Rattle.front_table.specs.Levels.{to_go_at}
use Rattle.front_table.specs.Pools.{HeldAt, row_at}
use Rattle.front_table.specs.Sets.{Held}
use Rattle.front_table.proofs.Each.{below_next}
use Rattle.front_table.proofs.HeldLists.{fits_none}
use Rattle.front_table.proofs.far.least_end.Goals as goal

pub loop-row-preserved : goal.loop-row-preserved
loop-row-preserved c = λ m w lt.
    below_next (λ m. HeldAt c.args.pool.now m c.args.height w → c.least_in-least.result ≤ w + to_go_at c.args.levels.now m) c.loop-row.row
    (λ k before held. omega (arith, c.least_in-least.ensures.found, c.loop-row.invariant k w before held))
    (λ held. omega (arith, c.least_in-least.ensures.labels w (subst (λ l. Held l c.args.height w) (sym c.labels.ensures) held), c.to_go.ensures)) m lt

pub loop-row-init : goal.loop-row-init
loop-row-init c = λ m w lt held. absurd (fits_none (row_at c.args.pool.now m) c.args.height w (c.low-low.ensures m lt) held)
