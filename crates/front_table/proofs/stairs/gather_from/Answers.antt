use Rattle.std.proofs.Common.{arith}
use Rattle.front_table.proofs.Paths.{gathered_by}
use Rattle.front_table.proofs.stairs.gather_from.Goals as goal

pub returns-clause-new : goal.returns-clause-new
returns-clause-new c = λ lt.
    gathered_by c.args.fronts.now.rows.now c.args.fronts.now.levels.now c.args.row c.args.fronts.now.cover c.args.to c.append_all_behind.new.all.items c.ends_of.result.now c.saturating_sub-area.result c.ends_of.ensures
    (omega (arith, c.saturating_sub-area.ensures, c.area_left.ensures, c.area_left-2.ensures)) c.in_ok-append_all_behind.ensures.new
