use Rattle.std.specs.Prelude.{option_map}
use Rattle.std.proofs.lemmas.Result.{err_from_is_err_and}
use Rattle.cut_model.specs.Tree.{tree}
use Rattle.run_checks.proofs.Accepting.{broken_not_accepted, cert_not_accepted, plan_not_accepted, wrong_not_accepted}
use Rattle.run_checks.proofs.checking.accepted_texts.Goals as goal

pub returns-in_err-plan-clause-accepted : goal.returns-in_err-plan-clause-accepted
returns-in_err-plan-clause-accepted g c =
    let passed = err_from_is_err_and c.from_residual.result c.from_residual.ensures.1 in
    rw (passed.1, passed.2)
    (plan_not_accepted c.args.ground.instance.now _ c.args.cert_text.now c.in_err-plan.field-0.0 c.in_err-plan.ensures.plan)

pub returns-in_err-certificate-clause-accepted : goal.returns-in_err-certificate-clause-accepted
returns-in_err-certificate-clause-accepted g c =
    let passed = err_from_is_err_and c.from_residual-in_err-certificate.result c.from_residual-in_err-certificate.ensures.1 in
    rw (passed.1, passed.2)
    (cert_not_accepted c.args.ground.instance.now _ c.args.cert_text.now (option_map tree c.in_ok-plan.plan) c.in_err-certificate.field-0.0 c.in_ok-plan.ensures.plan c.in_err-certificate.ensures.reading)

pub returns-in_err-judge_plan_in-clause-accepted : goal.returns-in_err-judge_plan_in-clause-accepted
returns-in_err-judge_plan_in-clause-accepted g c =
    let passed = err_from_is_err_and c.from_residual-in_err-judge_plan_in.result c.from_residual-in_err-judge_plan_in.ensures.1 in
    rw (passed.1, passed.2)
    (broken_not_accepted c.args.ground.instance.now _ c.args.cert_text.now (option_map tree c.in_ok-plan.plan) c.in_ok-certificate.certificate c.in_err-judge_plan_in.field-0.0
    (record { plan_is = c.in_ok-plan.ensures.plan; reading = c.in_ok-certificate.ensures.reading }) c.in_err-judge_plan_in.ensures)

pub returns-in_err-check_cert_in-clause-accepted : goal.returns-in_err-check_cert_in-clause-accepted
returns-in_err-check_cert_in-clause-accepted g c =
    let passed = err_from_is_err_and c.from_residual-in_err-check_cert_in.result c.from_residual-in_err-check_cert_in.ensures.1 in
    rw (passed.1, passed.2)
    (wrong_not_accepted c.args.ground.instance.now _ c.args.cert_text.now (option_map tree c.in_ok-plan.plan) c.in_ok-certificate.certificate c.in_err-check_cert_in.field-0.0
    (record { plan_is = c.in_ok-plan.ensures.plan; reading = c.in_ok-certificate.ensures.reading }) c.in_ok-judge_plan_in.ensures
    (rw c.loss_of_plan-loss.ensures at c.in_err-check_cert_in.ensures))
