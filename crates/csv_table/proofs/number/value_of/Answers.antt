use Rattle.std.proofs.Common.{arith}
use Rattle.std.proofs.lemmas.List.{take_all}
use Rattle.csv_table.proofs.DigitFacts.{next_digit, value_below}
use Rattle.csv_table.proofs.number.value_of.Goals as goal

pub overflow_mul-value : goal.overflow_mul-value
overflow_mul-value c = let n = next_digit c.args.text.now c.loop-byte.byte-index c.requires.digits c.requires.short c.loop-byte-test.true in omega (arith, n.value, n.small)

pub overflow_add-value : goal.overflow_add-value
overflow_add-value c = let n = next_digit c.args.text.now c.loop-byte.byte-index c.requires.digits c.requires.short c.loop-byte-test.true in omega (arith, n.value, n.small)

pub loop-byte-preserved : goal.loop-byte-preserved
loop-byte-preserved c = let n = next_digit c.args.text.now c.loop-byte.byte-index c.requires.digits c.requires.short c.loop-byte-test.true in omega (arith, n.value)

pub returns-clause-below : goal.returns-clause-below
returns-clause-below c =
    let all = take_all c.loop-byte.byte-index c.args.text.now (omega arith) in
    rw (c.loop-byte.invariant, all) (value_below c.args.text.now c.requires.digits)
