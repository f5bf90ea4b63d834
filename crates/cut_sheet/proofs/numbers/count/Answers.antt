use Rattle.std.proofs.Common.{sym, ◌∙◌, arith}
use Rattle.glass_base.proofs.NumberTexts.{read_is_text, unread_is_no_text}
use Rattle.cut_sheet.proofs.numbers.count.Goals as goal

pub returns-in_err-number : goal.returns-in_err-number
returns-in_err-number c =
    let none = sym (rw c.from.ensures at c.number_within.ensures.value) ∙ c.in_err-number.was in
    rw c.from_residual.ensures (λ n few is. unread_is_no_text 0 c.args.most c.args.text.now (omega arith) none n (omega arith) few is)

pub returns : goal.returns
returns c =
    let some = sym (rw c.from.ensures at c.number_within.ensures.value) ∙ c.in_ok-number.was in
    let read = read_is_text 0 c.args.most c.args.text.now c.in_ok-number.number (omega arith) some in
    (read.1, read.2)
