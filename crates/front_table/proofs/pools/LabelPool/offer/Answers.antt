use Rattle.std.proofs.Common.{◌≡◌, ◌+◌, ◌<◌, length, map, ap, sym, subst, arith}
use Rattle.std.proofs.Math.ListN.{set}
use Rattle.front_table.specs.Sets.{Keeps}
use Rattle.front_table.specs.Pools.{row_at, Spreads}
use Rattle.front_table.proofs.PoolRows.{rows_len, row_view, view_held, view_stands, view_spreads, span_set}
use Rattle.front_table.proofs.pools.LabelPool.offer.Goals as goal

pub returns-clause-spreads : goal.returns-clause-spreads
returns-clause-spreads c =
    let rows = c.self.inside.rows.items in
    let lt : c.args.row < length rows = omega (arith, c.requires, ap length c.self.view_is, rows_len rows (λ r. r.items)) in
    let row : row_at (map (λ r. r.items) rows) c.args.row ≡ c.index_mut.result.now.items = row_view rows (λ r. r.items) c.args.row c.index_mut.result.now lt c.index_mut.ensures.value in
    subst (λ old. Spreads (c.args.row + 1) old (map (λ r. r.items) (set rows c.args.row c.offer.new.labels))) c.self.view_is
    (view_spreads rows (λ r. r.items) c.args.row c.offer.new.labels lt (subst (λ l. Keeps l c.offer.new.labels.items) (sym row) c.in_ok-offer.ensures.kept))

pub returns-clause-held : goal.returns-clause-held
returns-clause-held c = λ x y fits.
    let rows = c.self.inside.rows.items in
    let lt : c.args.row < length rows = omega (arith, c.requires, ap length c.self.view_is, rows_len rows (λ r. r.items)) in
    view_held rows (λ r. r.items) c.args.row c.offer.new.labels lt x y (c.in_ok-offer.ensures.held x y fits)

pub returns-clause-stands : goal.returns-clause-stands
returns-clause-stands c = λ x y right up stands.
    let rows = c.self.inside.rows.items in
    let lt : c.args.row < length rows = omega (arith, c.requires, ap length c.self.view_is, rows_len rows (λ r. r.items)) in
    view_stands rows (λ r. r.items) c.args.row c.offer.new.labels lt x y right up (c.in_ok-offer.ensures.stands x y right up stands)

pub invariant_of-self : goal.invariant_of-self
invariant_of-self c =
    let rows = c.self.inside.rows.items in
    let lt : c.args.row < length rows = omega (arith, c.requires, ap length c.self.view_is, rows_len rows (λ r. r.items)) in
    span_set rows (λ r. r.items) c.args.row c.offer.new.labels lt c.self.inside.low c.self.inside.last c.min-self-inside.result c.max-self-inside.result c.self.invariant (omega (arith, c.min-self-inside.ensures)) (omega (arith, c.min-self-inside.ensures)) (omega (arith, c.max-self-inside.ensures)) (omega (arith, c.max-self-inside.ensures))

pub invariant_of-self-2 : goal.invariant_of-self-2
invariant_of-self-2 c =
    let rows = c.self.inside.rows.items in
    let lt : c.args.row < length rows = omega (arith, c.requires, ap length c.self.view_is, rows_len rows (λ r. r.items)) in
    span_set rows (λ r. r.items) c.args.row c.offer.new.labels lt c.self.inside.low c.self.inside.last c.min-self-inside.result c.max-self-inside.result c.self.invariant (omega (arith, c.min-self-inside.ensures)) (omega (arith, c.min-self-inside.ensures)) (omega (arith, c.max-self-inside.ensures)) (omega (arith, c.max-self-inside.ensures))
