use Rattle.std.proofs.Common.{◌≡◌, ℕ, ◌-◌, inl, inr, subst, arith}
use Rattle.std.proofs.lemmas.Bool.{cases_lt}
use Rattle.front_table.specs.Levels.{bands_at, ends_at}
use Rattle.front_table.specs.Tries.{RowExtended}
use Rattle.front_table.proofs.PoolRows.{spreads_then, spreads_from}
use Rattle.front_table.proofs.StripTries.{row_kept, row_empty}
use Rattle.front_table.proofs.strips.extend_below.Goals as goal

pub loop-done-preserved : goal.loop-done-preserved
loop-done-preserved c =
    let row : ℕ = c.args.below - 1 - c.loop-done.done in
    let search = c.args.search.now in
    record {
      spreads =
          spreads_then c.args.below c.args.pool.now c.loop-done.pool c.extend_known.new.pool c.loop-done.invariant.spreads
          (spreads_from row c.args.below c.loop-done.pool c.extend_known.new.pool (omega arith) c.in_ok-extend_known.ensures.spreads);
      extended = λ n after lt.
          elim (cases_lt row n) [
            | inl above ↦
                row_kept search.fronts.rows.now search.fronts.levels.now search.limits row c.loop-done.pool c.extend_known.new.pool n n (bands_at search.fronts.levels.now n) (ends_at search.fronts.levels.now n) c.in_ok-extend_known.ensures.spreads (omega (arith, above))
                (c.loop-done.invariant.extended n (omega (arith, above, c.loop-done-test.true)) lt)
            | inr under ↦
                let same : row ≡ n = omega (arith, under, after, lt, c.loop-done-test.true) in
                subst (RowExtended search.fronts.rows.now search.fronts.levels.now search.limits c.extend_known.new.pool) same c.in_ok-extend_known.ensures.extended
          ];
    }

pub returns-then-row-first-clause-extended : goal.returns-then-row-first-clause-extended
returns-then-row-first-clause-extended c = λ n lt.
    let row : ℕ = c.args.below - 1 - c.loop-done.done in
    let search = c.args.search.now in
    elim (cases_lt row n) [
      | inl above ↦ c.loop-done.invariant.extended n (omega (arith, above, c.loop-done-test.true)) lt
      | inr under ↦ row_empty search.fronts.rows.now search.fronts.levels.now search.limits c.loop-done.pool n (c.low-first.ensures n (omega (arith, under, c.if-row-first.true)))
    ]
