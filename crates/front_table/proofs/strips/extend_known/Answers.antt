use Rattle.std.proofs.Common.{sym, subst}
use Rattle.front_table.specs.Ends.{Falls}
use Rattle.front_table.specs.Levels.{ends_at}
use Rattle.front_table.specs.Packed.{unpacked_all}
use Rattle.front_table.specs.Tries.{ExtendedBy}
use Rattle.front_table.specs.Widths.{Rises}
use Rattle.front_table.proofs.strips.extend_known.Goals as goal

pub extend_row-requires-clause-rises : goal.extend_row-requires-clause-rises
extend_row-requires-clause-rises c = subst Rises (sym c.bands_of.ensures) c.requires.rises

pub extend_row-requires-clause-falls : goal.extend_row-requires-clause-falls
extend_row-requires-clause-falls c = subst Falls (sym c.ends_of.ensures) c.requires.falls

pub returns-clause-extended : goal.returns-clause-extended
returns-clause-extended c =
    let search = c.args.search.now in
    subst (λ l. ExtendedBy search.fronts.rows.now search.fronts.levels.now search.limits c.extend_row.new.pool c.args.row c.args.row l (ends_at search.fronts.levels.now c.args.row)) c.bands_of.ensures
    (subst (ExtendedBy search.fronts.rows.now search.fronts.levels.now search.limits c.extend_row.new.pool c.args.row c.args.row (unpacked_all c.bands_of.result.now)) c.ends_of.ensures c.in_ok-extend_row.ensures.extended)
