use Rattle.std.proofs.Common.{◌≡◌, ℕ, ◌-◌, ◌<◌, inl, inr, sym, subst, arith, All}
use Rattle.std.proofs.lemmas.Bool.{cases_lt}
use Rattle.front_table.specs.declared.moves.Move.{Move}
use Rattle.front_table.specs.Lattice.{LeadDown, moves_at}
use Rattle.front_bound.specs.inner.Placed.{CellsGoOn}
use Rattle.front_table.proofs.PoolRows.{spreads_then, spreads_from}
use Rattle.front_bound.proofs.PlacedRows.{cells_kept, cells_none}
use Rattle.front_bound.proofs.placed_cells.spread_cells.Goals as goal

pub grow_cells-requires-clause-down : goal.grow_cells-requires-clause-down
unfolding LeadDown
grow_cells-requires-clause-down c =
    let row : ℕ = c.args.sought.now.start - c.loop-done.done in
    subst (All (λ (m : Move). m.to < row)) (sym c.moves_of.ensures) (c.requires.down row (omega (arith, c.requires.start)))

pub loop-done-preserved : goal.loop-done-preserved
loop-done-preserved c =
    let start : ℕ = c.args.sought.now.start in
    let row : ℕ = start - c.loop-done.done in
    record {
      spreads =
          spreads_then start c.args.space.now.pool c.loop-done.space.pool c.grow_cells.new.space.pool c.loop-done.invariant.spreads
          (spreads_from row start c.loop-done.space.pool c.grow_cells.new.space.pool (omega arith) c.in_ok-grow_cells.ensures.spreads);
      goes_on = λ n after le.
          elim (cases_lt row n) [
            | inl above ↦
                cells_kept c.args.stretch.now c.args.sought.now row c.loop-done.space.pool c.grow_cells.new.space.pool n (moves_at c.args.stretch.now.fronts.rows.now n) c.in_ok-grow_cells.ensures.spreads (omega (arith, above))
                (c.loop-done.invariant.goes_on n (omega (arith, above, c.loop-done-test.true)) le)
            | inr below ↦
                let same : row ≡ n = omega (arith, below, after, le, c.loop-done-test.true) in
                subst (λ k. CellsGoOn c.args.stretch.now c.args.sought.now c.grow_cells.new.space.pool k (moves_at c.args.stretch.now.fronts.rows.now k)) same
                (subst (λ l. CellsGoOn c.args.stretch.now c.args.sought.now c.grow_cells.new.space.pool row l) c.moves_of.ensures c.in_ok-grow_cells.ensures.goes_on)
          ];
    }

pub returns-then-row-low-clause-goes_on : goal.returns-then-row-low-clause-goes_on
returns-then-row-low-clause-goes_on c = λ n le.
    let row : ℕ = c.args.sought.now.start - c.loop-done.done in
    elim (cases_lt row n) [
      | inl above ↦ c.loop-done.invariant.goes_on n (omega (arith, above, c.loop-done-test.true)) le
      | inr below ↦ cells_none c.args.stretch.now c.args.sought.now c.loop-done.space.pool n (moves_at c.args.stretch.now.fronts.rows.now n) (c.low-low.ensures n (omega (arith, below, c.if-row-low.true)))
    ]
