use Rattle.std.proofs.Common.{◌≡◌, ◌++◌, take}
use Rattle.cut_sheet.specs.Texts.{head, lines_text}
use Rattle.cut_sheet.proofs.text.write_sheet.Given as goal

abbrev pub invariant-loop-instr : goal.invariant-loop-instr
invariant-loop-instr l = l.text.items ≡ head ++ lines_text (take l.instr-index l.sheet)
