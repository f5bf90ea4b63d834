use Rattle.std.proofs.Common.{◌≡◌, ◌<◌, List, length, get_or, ◌∙◌, sym, ap, subst, arith, All}
use Rattle.front_table.specs.declared.labels.FrontLabel.{FrontLabel}
use Rattle.front_bound.specs.inner.Placed.{CellJoined}
use Rattle.front_table.specs.Pools.{row_at}
use Rattle.front_table.proofs.Each.{up_to}
use Rattle.front_table.proofs.PoolRows.{spreads_then}
use Rattle.front_bound.proofs.PlacedRows.{cell_joined_kept, cells_go_on}
use Rattle.front_bound.proofs.placed_cells.grow_cells.Goals as goal

pub loop-at-preserved : goal.loop-at-preserved
loop-at-preserved c =
    let xs : List FrontLabel = row_at c.args.space.now.pool c.args.row in
    let P : FrontLabel → Type 0 = λ l. All (CellJoined c.args.stretch.now c.args.sought.now c.join_cells.new.space.pool l) c.args.cells.now in
    let same : row_at c.loop-at.space.pool c.args.row ≡ xs = c.loop-at.invariant.spreads.same c.args.row (omega arith) in
    let is : c.label-label.result ≡ get_or xs c.loop-at.at c.label-label.result = c.label-label.ensures ∙ ap (λ l. get_or l c.loop-at.at c.label-label.result) same in
    let lt : c.loop-at.at < length xs = omega (arith, c.loop-at-test.true, ap length c.labels-at-end.ensures) in
    record {
      spreads = spreads_then c.args.row c.args.space.now.pool c.loop-at.space.pool c.join_cells.new.space.pool c.loop-at.invariant.spreads c.in_ok-join_cells.ensures.spreads;
      joined = up_to P xs c.loop-at.at c.label-label.result lt
          (λ k d before i m within. cell_joined_kept c.args.stretch.now c.args.sought.now c.args.row c.loop-at.space.pool c.join_cells.new.space.pool (get_or xs k d) (get_or c.args.cells.now i m) c.in_ok-join_cells.ensures.spreads (c.loop-at.invariant.joined k d before i m within))
          (subst P is c.in_ok-join_cells.ensures.joined);
    }

pub returns-clause-goes_on : goal.returns-clause-goes_on
returns-clause-goes_on c =
    let same : row_at c.loop-at.space.pool c.args.row ≡ row_at c.args.space.now.pool c.args.row = c.loop-at.invariant.spreads.same c.args.row (omega arith) in
    cells_go_on c.args.stretch.now c.args.sought.now c.loop-at.space.pool c.args.row c.args.cells.now
    (λ k d lt. subst (λ l. All (CellJoined c.args.stretch.now c.args.sought.now c.loop-at.space.pool (get_or l k d)) c.args.cells.now) (sym same)
    (c.loop-at.invariant.joined k d (omega (arith, lt, ap length same, c.loop-at-test.false, ap length c.labels-at-end.ensures))))
