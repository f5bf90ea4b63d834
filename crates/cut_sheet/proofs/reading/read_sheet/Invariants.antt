use Rattle.std.proofs.Common.{length}
use Rattle.cut_sheet.proofs.SoFar.{IsSoFar}
use Rattle.cut_sheet.proofs.reading.read_sheet.Given as goal

abbrev pub invariant-loop-rest : goal.invariant-loop-rest
invariant-loop-rest l = IsSoFar l.fn.bytes l.sheet.items l.rest l.line

abbrev pub decreases-loop-rest : goal.decreases-loop-rest
decreases-loop-rest l = length l.rest
