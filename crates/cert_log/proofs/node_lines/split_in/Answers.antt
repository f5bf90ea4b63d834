use Rattle.std.proofs.Common.{sym, ap, ◌∙◌}
use Rattle.std.specs.Result.{result_ok}
use Rattle.std.proofs.lemmas.Result.{Ok-from_Ok_iff}
use Rattle.cert_log.proofs.Bodies.{splits_only, no_letter, no_step}
use Rattle.cert_log.proofs.node_lines.split_in.Goals as goal

pub returns-in_err-var : goal.returns-in_err-var
returns-in_err-var c = rw c.from_residual-in_err-var.ensures
    (splits_only c.args.text.now (no_letter c.args.text.now c.in_ok-step.letter.now c.in_ok-step.step c.in_ok-step.ensures.0 c.in_ok-step.ensures.1 c.in_err-var.ensures))

pub returns-in_err-step-2 : goal.returns-in_err-step-2
returns-in_err-step-2 c = rw c.from_residual-in_err-step-2.ensures
    (splits_only c.args.text.now (no_step c.args.text.now c.in_ok-step.letter.now c.in_ok-step.step c.in_ok-step.ensures.0 c.in_ok-step.ensures.1
    (λ fits. let told = sym c.in_err-step-2.was ∙ c.ok.ensures.value ∙ ap result_ok (Ok-from_Ok_iff c.try_from.result _ c.in_ok-step.step c.try_from.ensures fits) in cc)))
