use Rattle.std.proofs.Common.{arith}
use Rattle.std.specs.Prelude.{pos}
use Rattle.cut_sheet.specs.declared.instr.Made.{Made}
use Rattle.cut_sheet.proofs.Balances.{waste_within}
use Rattle.cut_sheet.proofs.amounts.waste.Goals as goal

pub overflow_add-area : goal.overflow_add-area
overflow_add-area c =
    let none : Made = record { plate = 0; x = 0; y = 0; width = 0; height = 0; kind = pos 0; cut = 0 } in
    omega (arith, c.requires, c.loop-piece.invariant, c.wasted-area.ensures, waste_within c.args.made.now c.loop-piece.piece-index none c.loop-piece-test.true)
