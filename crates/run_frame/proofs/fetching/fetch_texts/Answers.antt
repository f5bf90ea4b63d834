use Rattle.std.proofs.Common.{rules}
use Rattle.std.proofs.lemmas.Result.{err_from_is_err_and}
use Rattle.run_frame.proofs.FetchedTexts.{gathers_more, reaches_fault, reaches_more}
use Rattle.run_frame.proofs.fetching.fetch_texts.Goals as goal

pub returns-in_err-text-clause-reached : goal.returns-in_err-text-clause-reached
returns-in_err-text-clause-reached g c =
    let passed = err_from_is_err_and c.from_residual.result c.from_residual.ensures.1 in
    rw (passed.1, passed.2)
    (reaches_fault _ c.args.wanted.now c.loop-file.file-index _ _ c.loop-file-test.true c.in_err-text.ensures.faults.1 c.loop-file.invariant.reached)

pub loop-file-preserved : goal.loop-file-preserved
loop-file-preserved g c = record {
  same = search rules;
  so_far =
      gathers_more _ _ c.args.wanted.now c.loop-file.file-index _ _ _ _ c.in-Ok.text
      c.loop-file-test.true c.loop-file.invariant.same c.in-Ok.is c.in_ok-append-in-Ok.ensures.ok c.in_ok-text.ensures.fetched c.loop-file.invariant.so_far;
  reached =
      reaches_more _ _ c.args.wanted.now c.loop-file.file-index _ _ c.in-Ok.text
      c.loop-file-test.true c.loop-file.invariant.same c.in-Ok.is c.in_ok-text.ensures.fetched c.loop-file.invariant.reached;
  faults = search rules;
  keeps = search rules;
}
