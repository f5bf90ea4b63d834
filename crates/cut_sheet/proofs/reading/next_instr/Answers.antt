use Rattle.cut_sheet.proofs.Spelling.{line_first, no_line_first, no_line_unbroken}
use Rattle.cut_sheet.proofs.reading.next_instr.Goals as goal

pub returns-in_err-line : goal.returns-in_err-line
returns-in_err-line c = rw c.from_residual.ensures (no_line_unbroken c.args.text.now c.in_err-line.ensures)

pub returns-in_err-instr : goal.returns-in_err-instr
returns-in_err-instr c =
    rw c.from_residual-in_err-instr.ensures
    (no_line_first c.args.text.now c.in_ok-line.line.now c.in_ok-line.rest.now c.in_ok-line.ensures.0 c.in_ok-line.ensures.1 c.in_err-instr.ensures)
