use Rattle.std.proofs.Common.{take}
use Rattle.cut_sheet.specs.inner.Lines.{IsUnbroken}
use Rattle.cut_sheet.proofs.reading.first_line.Given as goal

abbrev pub invariant-loop-at : goal.invariant-loop-at
invariant-loop-at l = IsUnbroken (take l.at l.text)
