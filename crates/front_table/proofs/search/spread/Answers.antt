use Rattle.std.proofs.Common.{◌≡◌, ℕ, ◌-◌, ◌<◌, inl, inr, sym, subst, arith, All}
use Rattle.std.proofs.lemmas.Bool.{cases_lt}
use Rattle.front_table.specs.declared.moves.Move.{Move}
use Rattle.front_table.specs.Lattice.{LeadDown, moves_at}
use Rattle.front_table.specs.Pools.{GoesOn}
use Rattle.front_table.proofs.PoolRows.{spreads_then, spreads_from, goes_on_kept, goes_on_none}
use Rattle.front_table.proofs.search.spread.Goals as goal

pub grow-requires-clause-down : goal.grow-requires-clause-down
unfolding LeadDown
grow-requires-clause-down c =
    let row : ℕ = c.args.start - c.loop-done.done in
    subst (All (λ (m : Move). m.to < row)) (sym c.moves_of.ensures) (c.requires.down row (omega (arith, c.requires.start)))

pub loop-done-preserved : goal.loop-done-preserved
loop-done-preserved c =
    let row : ℕ = c.args.start - c.loop-done.done in
    record {
      spreads =
          spreads_then c.args.start c.args.pool.now c.loop-done.pool c.grow.new.pool c.loop-done.invariant.spreads
          (spreads_from row c.args.start c.loop-done.pool c.grow.new.pool (omega arith) c.in_ok-grow.ensures.spreads);
      goes_on = λ n after le.
          elim (cases_lt row n) [
            | inl above ↦
                goes_on_kept c.args.within.along c.args.within.across row c.loop-done.pool c.grow.new.pool n (moves_at c.args.rows.now n) c.in_ok-grow.ensures.spreads (omega (arith, above))
                (c.loop-done.invariant.goes_on n (omega (arith, above, c.loop-done-test.true)) le)
            | inr below ↦
                let same : row ≡ n = omega (arith, below, after, le, c.loop-done-test.true) in
                subst (λ k. GoesOn c.args.within.along c.args.within.across c.grow.new.pool k (moves_at c.args.rows.now k)) same
                (subst (λ l. GoesOn c.args.within.along c.args.within.across c.grow.new.pool row l) c.moves_of.ensures c.in_ok-grow.ensures.goes_on)
          ];
    }

pub returns-then-row-low-clause-goes_on : goal.returns-then-row-low-clause-goes_on
returns-then-row-low-clause-goes_on c = λ n le.
    let row : ℕ = c.args.start - c.loop-done.done in
    elim (cases_lt row n) [
      | inl above ↦ c.loop-done.invariant.goes_on n (omega (arith, above, c.loop-done-test.true)) le
      | inr below ↦ goes_on_none c.args.within.along c.args.within.across c.loop-done.pool n (moves_at c.args.rows.now n) (c.low-low.ensures n (omega (arith, below, c.if-row-low.true)))
    ]
