use Rattle.std.proofs.Common.{◌≡◌, take}
use Rattle.cut_sheet.specs.Areas.{waste_area}
use Rattle.cut_sheet.proofs.amounts.waste.Given as goal

abbrev pub invariant-loop-piece : goal.invariant-loop-piece
invariant-loop-piece l = l.area ≡ waste_area (take l.piece-index l.made)
