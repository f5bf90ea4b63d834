use Rattle.std.proofs.Common.{◌≡◌, ◌<◌, List, length, get_or, ◌∙◌, sym, ap, subst, arith}
use Rattle.front_table.specs.declared.labels.FrontLabel.{FrontLabel}
use Rattle.front_table.specs.Packed.{unpacked_all}
use Rattle.front_table.specs.Pools.{row_at}
use Rattle.front_table.specs.Tries.{Extended}
use Rattle.front_table.proofs.Each.{up_to}
use Rattle.front_table.proofs.PoolRows.{spreads_then}
use Rattle.front_table.proofs.StripTries.{extended_kept, row_extended}
use Rattle.front_table.proofs.strips.extend_row.Goals as goal

pub loop-at-preserved : goal.loop-at-preserved
loop-at-preserved c =
    let search = c.args.search.now in
    let view = c.args.view.now in
    let xs : List FrontLabel = row_at c.args.pool.now view.row in
    let P : FrontLabel → Type 0 = Extended search.fronts.rows.now search.fronts.levels.now search.limits c.extend.new.pool view.row view.below (unpacked_all view.bands.now) view.ends.now in
    let same : row_at c.loop-at.pool view.row ≡ xs = c.loop-at.invariant.spreads.same view.row (omega (arith, c.requires.below)) in
    let is : c.label-label.result ≡ get_or xs c.loop-at.at c.label-label.result = c.label-label.ensures ∙ ap (λ l. get_or l c.loop-at.at c.label-label.result) same in
    let lt : c.loop-at.at < length xs = omega (arith, c.loop-at-test.true, ap length c.labels-at-end.ensures) in
    record {
      spreads = spreads_then view.below c.args.pool.now c.loop-at.pool c.extend.new.pool c.loop-at.invariant.spreads c.in_ok-extend.ensures.spreads;
      extended = up_to P xs c.loop-at.at c.label-label.result lt
          (λ k d before. extended_kept search.fronts.rows.now search.fronts.levels.now search.limits view.below c.loop-at.pool c.extend.new.pool view.row view.below (unpacked_all view.bands.now) view.ends.now (get_or xs k d) c.in_ok-extend.ensures.spreads (c.loop-at.invariant.extended k d before))
          (subst P is c.in_ok-extend.ensures.extended);
    }

pub returns-clause-extended : goal.returns-clause-extended
returns-clause-extended c =
    let search = c.args.search.now in
    let view = c.args.view.now in
    let same : row_at c.loop-at.pool view.row ≡ row_at c.args.pool.now view.row = c.loop-at.invariant.spreads.same view.row (omega (arith, c.requires.below)) in
    row_extended search.fronts.rows.now search.fronts.levels.now search.limits c.loop-at.pool view.row view.below (unpacked_all view.bands.now) view.ends.now
    (λ k d lt. subst (λ l. Extended search.fronts.rows.now search.fronts.levels.now search.limits c.loop-at.pool view.row view.below (unpacked_all view.bands.now) view.ends.now (get_or l k d)) (sym same)
    (c.loop-at.invariant.extended k d (omega (arith, lt, ap length same, c.loop-at-test.false, ap length c.labels-at-end.ensures))))
