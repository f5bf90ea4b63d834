use Rattle.std.proofs.Common.{All}
use Rattle.glass_base.specs.Items.{IsDefectInRange}
use Rattle.front_book.proofs.given.defects_of.Given as goal

abbrev pub invariant-loop-number : goal.invariant-loop-number
invariant-loop-number l = All IsDefectInRange l.defects.items
