use Rattle.std.proofs.Common.{rules, arith, ◌≡◌, ◌∙◌, length, sym, Err}
use Rattle.csv.specs.Records.{fields_of}
use Rattle.stock_csv.proofs.DefectFields.{width_refused, height_refused, defect_read}
use Rattle.stock_csv.proofs.defects.defect_of.Goals as goal

pub returns-in_err-width-clause-value : goal.returns-in_err-width-clause-value
returns-in_err-width-clause-value c =
    let six : length (fields_of c.args.fields.now) ≡ 6 = omega (arith, c.len.ensures) in
    let told : c.from_residual-in_err-width.result ≡ Err c.in_err-width.field-0.0 = search rules in
    told ∙ width_refused _ _ _ _ _ _ _ six (sym c.whole_at.ensures.value ∙ c.in_ok-_number.was) (sym c.whole_at-2.ensures.value ∙ c.in_ok-plate.was) (sym c.measure_at.ensures.value ∙ c.in_ok-x.was) (sym c.measure_at-2.ensures.value ∙ c.in_ok-y.was) (sym c.measure_at-3.ensures.value ∙ c.in_err-width.was)

pub returns-in_err-height-clause-value : goal.returns-in_err-height-clause-value
returns-in_err-height-clause-value c =
    let six : length (fields_of c.args.fields.now) ≡ 6 = omega (arith, c.len.ensures) in
    let told : c.from_residual-in_err-height.result ≡ Err c.in_err-height.field-0.0 = search rules in
    told ∙ height_refused _ _ _ _ _ _ _ _ six (sym c.whole_at.ensures.value ∙ c.in_ok-_number.was) (sym c.whole_at-2.ensures.value ∙ c.in_ok-plate.was) (sym c.measure_at.ensures.value ∙ c.in_ok-x.was) (sym c.measure_at-2.ensures.value ∙ c.in_ok-y.was) (sym c.measure_at-3.ensures.value ∙ c.in_ok-width.was) (sym c.measure_at-4.ensures.value ∙ c.in_err-height.was)

pub returns-clause-value : goal.returns-clause-value
returns-clause-value c =
    let six : length (fields_of c.args.fields.now) ≡ 6 = omega (arith, c.len.ensures) in
    c.widened.ensures.value ∙ defect_read _ _ _ _ _ _ _ _ six (sym c.whole_at.ensures.value ∙ c.in_ok-_number.was) (sym c.whole_at-2.ensures.value ∙ c.in_ok-plate.was) (sym c.measure_at.ensures.value ∙ c.in_ok-x.was) (sym c.measure_at-2.ensures.value ∙ c.in_ok-y.was) (sym c.measure_at-3.ensures.value ∙ c.in_ok-width.was) (sym c.measure_at-4.ensures.value ∙ c.in_ok-height.was)
