use Rattle.std.proofs.Common.{◌≡◌, ◌<◌, List, length, get_or, ◌∙◌, sym, ap, subst, arith, All}
use Rattle.front_table.specs.declared.labels.FrontLabel.{FrontLabel}
use Rattle.front_table.specs.Pools.{Joined, row_at}
use Rattle.front_table.proofs.Each.{up_to}
use Rattle.front_table.proofs.PoolRows.{spreads_then, joined_kept, goes_on}
use Rattle.front_table.proofs.search.grow.Goals as goal

pub loop-at-preserved : goal.loop-at-preserved
loop-at-preserved c =
    let xs : List FrontLabel = row_at c.args.pool.now c.args.row in
    let P : FrontLabel → Type 0 = λ l. All (Joined c.args.within.along c.args.within.across c.join_all.new.pool l) c.args.moves.now in
    let same : row_at c.loop-at.pool c.args.row ≡ xs = c.loop-at.invariant.spreads.same c.args.row (omega arith) in
    let is : c.label-label.result ≡ get_or xs c.loop-at.at c.label-label.result = c.label-label.ensures ∙ ap (λ l. get_or l c.loop-at.at c.label-label.result) same in
    let lt : c.loop-at.at < length xs = omega (arith, c.loop-at-test.true, ap length c.labels-at-end.ensures) in
    record {
      spreads = spreads_then c.args.row c.args.pool.now c.loop-at.pool c.join_all.new.pool c.loop-at.invariant.spreads c.in_ok-join_all.ensures.spreads;
      joined = up_to P xs c.loop-at.at c.label-label.result lt
          (λ k d before i m within. joined_kept c.args.within.along c.args.within.across c.args.row c.loop-at.pool c.join_all.new.pool (get_or xs k d) (get_or c.args.moves.now i m) c.in_ok-join_all.ensures.spreads (c.loop-at.invariant.joined k d before i m within))
          (subst P is c.in_ok-join_all.ensures.joined);
    }

pub returns-clause-goes_on : goal.returns-clause-goes_on
returns-clause-goes_on c =
    let same : row_at c.loop-at.pool c.args.row ≡ row_at c.args.pool.now c.args.row = c.loop-at.invariant.spreads.same c.args.row (omega arith) in
    goes_on c.args.within.along c.args.within.across c.loop-at.pool c.args.row c.args.moves.now
    (λ k d lt. subst (λ l. All (Joined c.args.within.along c.args.within.across c.loop-at.pool (get_or l k d)) c.args.moves.now) (sym same)
    (c.loop-at.invariant.joined k d (omega (arith, lt, ap length same, c.loop-at-test.false, ap length c.labels-at-end.ensures))))
