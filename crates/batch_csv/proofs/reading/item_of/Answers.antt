use Rattle.std.proofs.Common.{rules, arith, ◌≡◌, ◌∙◌, length, sym, Err}
use Rattle.csv.specs.Records.{fields_of}
use Rattle.batch_csv.proofs.ItemRows.{id_refused, length_refused, width_refused, stack_refused, sequence_refused, item_read}
use Rattle.batch_csv.proofs.reading.item_of.Goals as goal

pub returns-in_err-id-clause-value : goal.returns-in_err-id-clause-value
returns-in_err-id-clause-value c =
    let five : length (fields_of c.args.fields.now) ≡ 5 = omega (arith, c.len.ensures) in
    let told : c.from_residual.result ≡ Err c.in_err-id.field-0.0 = search rules in
    told ∙ id_refused _ _ _ five (sym c.whole_at.ensures.value ∙ c.in_err-id.was)

pub returns-in_err-length-clause-value : goal.returns-in_err-length-clause-value
returns-in_err-length-clause-value c =
    let five : length (fields_of c.args.fields.now) ≡ 5 = omega (arith, c.len.ensures) in
    let told : c.from_residual-in_err-length.result ≡ Err c.in_err-length.field-0.0 = search rules in
    told ∙ length_refused _ _ _ _ five (sym c.whole_at.ensures.value ∙ c.in_ok-id.was) (sym c.whole_at-2.ensures.value ∙ c.in_err-length.was)

pub returns-in_err-width-clause-value : goal.returns-in_err-width-clause-value
returns-in_err-width-clause-value c =
    let five : length (fields_of c.args.fields.now) ≡ 5 = omega (arith, c.len.ensures) in
    let told : c.from_residual-in_err-width.result ≡ Err c.in_err-width.field-0.0 = search rules in
    told ∙ width_refused _ _ _ _ _ five (sym c.whole_at.ensures.value ∙ c.in_ok-id.was) (sym c.whole_at-2.ensures.value ∙ c.in_ok-length.was) (sym c.whole_at-3.ensures.value ∙ c.in_err-width.was)

pub returns-in_err-stack-clause-value : goal.returns-in_err-stack-clause-value
returns-in_err-stack-clause-value c =
    let five : length (fields_of c.args.fields.now) ≡ 5 = omega (arith, c.len.ensures) in
    let told : c.from_residual-in_err-stack.result ≡ Err c.in_err-stack.field-0.0 = search rules in
    told ∙ stack_refused _ _ _ _ _ _ five (sym c.whole_at.ensures.value ∙ c.in_ok-id.was) (sym c.whole_at-2.ensures.value ∙ c.in_ok-length.was) (sym c.whole_at-3.ensures.value ∙ c.in_ok-width.was) (sym c.whole_at-4.ensures.value ∙ c.in_err-stack.was)

pub returns-in_err-sequence-clause-value : goal.returns-in_err-sequence-clause-value
returns-in_err-sequence-clause-value c =
    let five : length (fields_of c.args.fields.now) ≡ 5 = omega (arith, c.len.ensures) in
    let told : c.from_residual-in_err-sequence.result ≡ Err c.in_err-sequence.field-0.0 = search rules in
    told ∙ sequence_refused _ _ _ _ _ _ _ five (sym c.whole_at.ensures.value ∙ c.in_ok-id.was) (sym c.whole_at-2.ensures.value ∙ c.in_ok-length.was) (sym c.whole_at-3.ensures.value ∙ c.in_ok-width.was) (sym c.whole_at-4.ensures.value ∙ c.in_ok-stack.was) (sym c.whole_at-5.ensures.value ∙ c.in_err-sequence.was)

pub returns-clause-value : goal.returns-clause-value
returns-clause-value c =
    let five : length (fields_of c.args.fields.now) ≡ 5 = omega (arith, c.len.ensures) in
    item_read _ _ _ _ _ _ _ five (sym c.whole_at.ensures.value ∙ c.in_ok-id.was) (sym c.whole_at-2.ensures.value ∙ c.in_ok-length.was) (sym c.whole_at-3.ensures.value ∙ c.in_ok-width.was) (sym c.whole_at-4.ensures.value ∙ c.in_ok-stack.was) (sym c.whole_at-5.ensures.value ∙ c.in_ok-sequence.was)
