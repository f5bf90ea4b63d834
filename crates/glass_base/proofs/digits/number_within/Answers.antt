use Rattle.std.proofs.Common.{sym, ◌∙◌, arith}
use Rattle.std.proofs.lemmas.Str.{IsUtf8-from_ascii}
use Rattle.glass_base.proofs.NumberTexts.{number_is_ascii, refused_of, taken_of, too_large}
use Rattle.glass_base.proofs.digits.number_within.Goals as goal

pub returns-in_err-ok-clause-value : goal.returns-in_err-ok-clause-value
returns-in_err-ok-clause-value c =
    let ascii = number_is_ascii c.args.text.now (sym c.is_number.ensures ∙ c.if-not-is_number.false) in
    absurd ((refused_of c.from_utf8.result _ _ c.from_utf8.ensures.cases (sym c.ok.ensures.value ∙ c.in_err-ok.was)).1.0 (IsUtf8-from_ascii c.args.text.now ascii))

pub returns-in_err-number-clause-value : goal.returns-in_err-number-clause-value
returns-in_err-number-clause-value c =
    let same = (taken_of c.from_utf8.result _ _ c.in_ok-ok.field-0 c.from_utf8.ensures.cases (sym c.ok.ensures.value ∙ c.in_ok-ok.was)).0 in
    c.from_residual-in_err-number.ensures
    ∙ too_large c.args.least c.args.most c.args.text.now c.parse.result (omega arith) (sym c.is_number.ensures ∙ c.if-not-is_number.false) (rw same at c.parse.ensures.value.0) (sym c.ok-2.ensures.value ∙ c.in_err-number.was)
