use Rattle.std.proofs.Common.{◌≡◌, ◌+◌, ◌<◌, length, map, ap, sym, subst, arith}
use Rattle.std.proofs.Math.ListN.{set}
use Rattle.front_table.specs.Sets.{Keeps}
use Rattle.front_table.specs.Pools.{row_at, Spreads}
use Rattle.front_table.proofs.PoolRows.{rows_len, row_view, view_spreads, span_set}
use Rattle.front_table.proofs.pools.LabelPool.sort_by_plate.Goals as goal

pub returns : goal.returns
returns c =
    let rows = c.self.inside.rows.items in
    let lt : c.args.row < length rows = omega (arith, c.requires, ap length c.self.view_is, rows_len rows (λ r. r.items)) in
    let row : row_at (map (λ r. r.items) rows) c.args.row ≡ c.index_mut.result.now.items = row_view rows (λ r. r.items) c.args.row c.index_mut.result.now lt c.index_mut.ensures.value in
    subst (λ old. Spreads (c.args.row + 1) old (map (λ r. r.items) (set rows c.args.row c.sort_by_plate.new.labels))) c.self.view_is
    (view_spreads rows (λ r. r.items) c.args.row c.sort_by_plate.new.labels lt (subst (λ l. Keeps l c.sort_by_plate.new.labels.items) (sym row) c.sort_by_plate.ensures))

pub invariant_of-self : goal.invariant_of-self
invariant_of-self c =
    let rows = c.self.inside.rows.items in
    let lt : c.args.row < length rows = omega (arith, c.requires, ap length c.self.view_is, rows_len rows (λ r. r.items)) in
    span_set rows (λ r. r.items) c.args.row c.sort_by_plate.new.labels lt c.self.inside.low c.self.inside.last c.min-self-inside.result c.max-self-inside.result c.self.invariant (omega (arith, c.min-self-inside.ensures)) (omega (arith, c.min-self-inside.ensures)) (omega (arith, c.max-self-inside.ensures)) (omega (arith, c.max-self-inside.ensures))
