use Rattle.std.proofs.Common.{sym, subst}
use Rattle.glass_base.specs.declared.params.Params.{Params}
use Rattle.front_table.specs.Packed.{unpacked_all}
use Rattle.front_table.specs.Sets.{Has}
use Rattle.front_table.proofs.PoolRows.{kept_at}
use Rattle.front_table.proofs.StripTries.{row_kept}
use Rattle.front_table.proofs.strips.strips_by.Goals as goal

pub returns-clause-begun : goal.returns-clause-begun
returns-clause-begun c = λ x w none wide.
    let view = c.args.view.now in
    kept_at view.below c.extend_row.new.pool c.extend_below.new.pool c.in_ok-extend_below.ensures.spreads view.row x w
    (kept_at view.below c.begin.new.pool c.extend_row.new.pool c.in_ok-extend_row.ensures.spreads view.row x w
    (c.in_ok-begin.ensures.begun x w (subst (λ (p : Params). Has (record { least = 0; more = p.waste }) x) (sym c.params.ensures.value) none) wide))

pub returns-clause-own : goal.returns-clause-own
returns-clause-own c =
    let search = c.args.search.now in
    let view = c.args.view.now in
    row_kept search.fronts.rows.now search.fronts.levels.now search.limits view.below c.extend_row.new.pool c.extend_below.new.pool view.row view.below (unpacked_all view.bands.now) view.ends.now c.in_ok-extend_below.ensures.spreads c.requires.searchable.low
    c.in_ok-extend_row.ensures.extended
