use Rattle.std.proofs.Common.{◌≡◌, ℕ, ◌+◌, ◌-◌, ◌∙◌, inl, inr, subst, arith}
use Rattle.std.proofs.lemmas.Bool.{cases_lt}
use Rattle.front_bound.specs.inner.Placed.{RowPlaced}
use Rattle.front_table.proofs.HeldLists.{least_first}
use Rattle.front_table.proofs.PoolRows.{spreads_then, spreads_from}
use Rattle.front_bound.proofs.PlacedRows.{placed_kept, row_none, first_gap}
use Rattle.front_bound.proofs.placed_strips.placed_from.Goals as goal

pub loop-done-preserved : goal.loop-done-preserved
loop-done-preserved c =
    let row : ℕ = c.args.start - c.loop-done.done in
    record {
      cells = c.in_ok-extend_row.ensures.len ∙ c.loop-done.invariant.cells;
      spreads =
          spreads_then (c.args.start + 1) c.offer.new.self c.loop-done.pool c.extend_row.new.pool c.loop-done.invariant.spreads
          (spreads_from (row + 1) (c.args.start + 1) c.loop-done.pool c.extend_row.new.pool (omega arith) c.in_ok-extend_row.ensures.spreads);
      placed = λ n after le.
          elim (cases_lt row n) [
            | inl above ↦
                placed_kept c.args.stretch.now (row + 1) c.loop-done.pool c.extend_row.new.pool c.in_ok-extend_row.ensures.spreads n (omega (arith, above))
                (c.loop-done.invariant.placed n (omega (arith, above, c.loop-done-test.true)) le)
            | inr below ↦
                let same : row ≡ n = omega (arith, below, after, le, c.loop-done-test.true) in
                subst (RowPlaced c.args.stretch.now c.extend_row.new.pool) same c.in_ok-extend_row.ensures.placed
          ];
    }

pub returns-then-row-first-clause-placed : goal.returns-then-row-first-clause-placed
returns-then-row-first-clause-placed c = λ n le.
    let row : ℕ = c.args.start - c.loop-done.done in
    elim (cases_lt row n) [
      | inl above ↦ c.loop-done.invariant.placed n (omega (arith, above, c.loop-done-test.true)) le
      | inr below ↦ row_none c.args.stretch.now c.loop-done.pool n (c.low-first.ensures n (omega (arith, below, c.if-row-first.true)))
    ]

pub returns-then-row-first-clause-begun : goal.returns-then-row-first-clause-begun
returns-then-row-first-clause-begun c = λ at left w gap wide has.
    c.loop-done.invariant.spreads.kept c.args.start at w (left + w) 0 (c.in_ok-offer.ensures.stands at w (left + w) 0 ((first_gap c.args.stretch.now.site.waste at gap, inr (omega (arith, wide))), inr (omega (arith, c.above.ensures, c.from.ensures, c.from-2.ensures, least_first c.args.stretch.now.site.left left has, wide)), omega arith))

pub returns-clause-begun : goal.returns-clause-begun
returns-clause-begun c = λ at left w gap wide has.
    c.loop-done.invariant.spreads.kept c.args.start at w (left + w) 0 (c.in_ok-offer.ensures.stands at w (left + w) 0 ((first_gap c.args.stretch.now.site.waste at gap, inr (omega (arith, wide))), inr (omega (arith, c.above.ensures, c.from.ensures, c.from-2.ensures, least_first c.args.stretch.now.site.left left has, wide)), omega arith))
