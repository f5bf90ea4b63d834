use Rattle.std.proofs.Common.{◌≡◌, ◌+◌, ◌<◌, List, length, get_or, ◌∙◌, sym, ap, subst, arith}
use Rattle.front_table.specs.declared.labels.FrontLabel.{FrontLabel}
use Rattle.front_bound.specs.inner.Placed.{Extended, RowPlaced}
use Rattle.front_table.specs.Pools.{row_at}
use Rattle.front_table.proofs.Each.{up_to}
use Rattle.front_table.proofs.PoolRows.{spreads_then, spreads_from}
use Rattle.front_bound.proofs.PlacedRows.{extended_kept}
use Rattle.front_bound.proofs.placed_strips.extend_row.Goals as goal

pub loop-at-preserved : goal.loop-at-preserved
loop-at-preserved c =
    let xs : List FrontLabel = row_at c.sort.new.self c.args.row in
    let P : FrontLabel → Type 0 = Extended c.args.stretch.now c.extend.new.pool c.args.row in
    let same : row_at c.loop-at.pool c.args.row ≡ xs = c.loop-at.invariant.spreads.same c.args.row (omega arith) in
    let is : c.label-label.result ≡ get_or xs c.loop-at.at c.label-label.result = c.label-label.ensures ∙ ap (λ l. get_or l c.loop-at.at c.label-label.result) same in
    let lt : c.loop-at.at < length xs = omega (arith, c.loop-at-test.true, ap length c.labels-at-end.ensures) in
    record {
      cells = c.in_ok-next.ensures.len ∙ c.loop-at.invariant.cells;
      spreads = spreads_then c.args.row c.sort.new.self c.loop-at.pool c.extend.new.pool c.loop-at.invariant.spreads c.in_ok-next.ensures.spreads;
      made = c.in_ok-next.ensures.made;
      extended = up_to P xs c.loop-at.at c.label-label.result lt
          (λ k d before. extended_kept c.args.stretch.now c.args.row c.loop-at.pool c.extend.new.pool c.in_ok-next.ensures.spreads c.args.row (get_or xs k d) (c.loop-at.invariant.extended k d before))
          (subst P is c.in_ok-next.ensures.extended);
    }

pub returns-clause-spreads : goal.returns-clause-spreads
returns-clause-spreads c = spreads_then (c.args.row + 1) c.args.pool.now c.sort.new.self c.loop-at.pool c.sort.ensures (spreads_from c.args.row (c.args.row + 1) c.sort.new.self c.loop-at.pool (omega arith) c.loop-at.invariant.spreads)

pub returns-clause-placed : goal.returns-clause-placed
unfolding RowPlaced
returns-clause-placed c =
    let same : row_at c.loop-at.pool c.args.row ≡ row_at c.sort.new.self c.args.row = c.loop-at.invariant.spreads.same c.args.row (omega arith) in
    λ k d lt. subst (λ l. Extended c.args.stretch.now c.loop-at.pool c.args.row (get_or l k d)) (sym same)
    (c.loop-at.invariant.extended k d (omega (arith, lt, ap length same, c.loop-at-test.false, ap length c.labels-at-end.ensures)))
