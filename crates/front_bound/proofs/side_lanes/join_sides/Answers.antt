use Rattle.std.proofs.Common.{ℕ, ◌+◌, ◌<◌, inl, inr, sym, subst, arith}
use Rattle.std.proofs.lemmas.Bool.{cases_lt}
use Rattle.front_table.specs.Pools.{HeldAt, row_at}
use Rattle.front_table.specs.Sets.{Held}
use Rattle.front_table.proofs.Each.{below_next}
use Rattle.front_table.proofs.HeldLists.{fits_none}
use Rattle.front_table.proofs.PoolRows.{kept_at, spreads_same, spreads_then, spreads_from}
use Rattle.front_bound.proofs.side_lanes.join_sides.Goals as goal

pub loop-row-init : goal.loop-row-init
loop-row-init c = record {
  spreads = spreads_same c.args.below c.args.sides.now;
  held = λ n lt x y held. absurd (fits_none (row_at c.args.offered.now n) x y (c.low-row.ensures n lt) held);
}

pub loop-row-preserved : goal.loop-row-preserved
loop-row-preserved c = record {
  spreads = spreads_then c.args.below c.args.sides.now c.loop-row.sides c.join_row.new.sides c.loop-row.invariant.spreads
      (spreads_from (c.loop-row.row + 1) c.args.below c.loop-row.sides c.join_row.new.sides (omega (arith, c.loop-row-test.true)) c.in_ok-join_row.ensures.spreads);
  held = below_next (λ n. (x y : ℕ) → HeldAt c.args.offered.now n x y → HeldAt c.join_row.new.sides n x y) c.loop-row.row
      (λ n lt x y held. kept_at (c.loop-row.row + 1) c.loop-row.sides c.join_row.new.sides c.in_ok-join_row.ensures.spreads n x y (c.loop-row.invariant.held n lt x y held))
      (λ x y held. c.in_ok-join_row.ensures.held x y (subst (λ l. Held l x y) (sym c.labels.ensures) held));
}

pub returns-clause-held : goal.returns-clause-held
returns-clause-held c = λ n x y held.
    elim (cases_lt n c.loop-row.row) [
      | inl before ↦ c.loop-row.invariant.held n before x y held
      | inr behind ↦ absurd (fits_none (row_at c.args.offered.now n) x y (c.ends_before.ensures c.if-not-ends_before.false n (omega (arith, behind, c.loop-row-test.false))) held)
    ]
