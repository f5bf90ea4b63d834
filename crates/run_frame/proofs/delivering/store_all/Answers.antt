use Rattle.std.proofs.Common.{map, take, arith, refl}
use Rattle.std.specs.Prelude.{Err}
use Rattle.std.proofs.lemmas.List.{length-map}
use Rattle.std.proofs.lemmas.Result.{err_from_is_err_and}
use Rattle.command_line.specs.Grammar.{stored_as}
use Rattle.command_line.specs.Lines.{line_in}
use Rattle.run_frame.specs.Forms.{store_in}
use Rattle.run_frame.proofs.Stores.{counts_store_then, cut_at, get_output, part_at, same_faults_then, stands_all, stands_more, stands_none, take_output}
use Rattle.run_frame.proofs.delivering.store_all.Goals as goal

pub loop-output-init : goal.loop-output-init
loop-output-init g c = record { stands = stands_none _; faults = record { reads = λ of. refl; writes = refl }; keeps = λ h. h }

pub returns-in_err-store-clause-failed : goal.returns-in_err-store-clause-failed
returns-in_err-store-clause-failed g c =
    let passed = err_from_is_err_and c.from_residual.result c.from_residual.ensures.1 in
    let f = store_in (stored_as (line_in c.args.line.now)) in
    rw (passed.1, passed.2)
    (λ is. cut_at (map f c.args.outputs.now) c.loop-output.output-index (f c.output-item.result) _ _ _
    (get_output f c.args.outputs.now c.loop-output.output-index c.output-item.result c.loop-output-test.true c.output-item.is)
    c.loop-output.invariant.stands
    (rw (c.stored_as-name.ensures, c.as_slice.ensures) at (c.in_err-store.ensures.failed is)))

pub returns-in_err-store-clause-memory : goal.returns-in_err-store-clause-memory
returns-in_err-store-clause-memory g c =
    let passed = err_from_is_err_and c.from_residual.result c.from_residual.ensures.1 in
    let f = store_in (stored_as (line_in c.args.line.now)) in
    rw (passed.1, passed.2)
    (λ is. part_at (map f c.args.outputs.now) c.loop-output.output-index _ _ _ (omega (arith, c.loop-output-test.true, length-map c.args.outputs.now f))
    c.loop-output.invariant.stands (c.in_err-store.ensures.memory is))

pub returns-in_err-store-clause-counts : goal.returns-in_err-store-clause-counts
returns-in_err-store-clause-counts g c =
    let passed = err_from_is_err_and c.from_residual.result c.from_residual.ensures.1 in
    rw (passed.1, passed.2) (counts_store_then {T = Unit {0}} _ _ _ (Err c.in_err-store.field-0.0) c.loop-output.invariant.faults c.in_err-store.ensures.counts)

pub returns-in_err-store-clause-keeps : goal.returns-in_err-store-clause-keeps
returns-in_err-store-clause-keeps g c =
    let passed = err_from_is_err_and c.from_residual.result c.from_residual.ensures.1 in
    rw (passed.1, passed.2) (λ h. c.in_err-store.ensures.keeps (c.loop-output.invariant.keeps h))

pub loop-output-preserved : goal.loop-output-preserved
loop-output-preserved g c =
    let f = store_in (stored_as (line_in c.args.line.now)) in
    record {
      stands =
          rw (take_output f c.args.outputs.now c.loop-output.output-index c.output-item.result c.loop-output-test.true c.output-item.is)
          (stands_more (take c.loop-output.output-index (map f c.args.outputs.now)) (f c.output-item.result) _ _ _ c.loop-output.invariant.stands (rw (c.stored_as-name.ensures, c.as_slice.ensures) at c.in_ok-store.ensures.stored));
      faults = same_faults_then _ _ _ c.loop-output.invariant.faults c.in_ok-store.ensures.counts;
      keeps = λ h. (c.in_ok-store.ensures.keeps (c.loop-output.invariant.keeps h)).0;
    }

pub returns-clause-stands : goal.returns-clause-stands
returns-clause-stands g c =
    let f = store_in (stored_as (line_in c.args.line.now)) in
    let same = length-map c.args.outputs.now f in
    stands_all (map f c.args.outputs.now) c.loop-output.output-index _ _ (omega (arith, same, c.loop-output.auto.output-index-end)) (omega (arith, same, c.loop-output-test.false)) c.loop-output.invariant.stands
