use Rattle.std.proofs.lemmas.Result.{err_from_is_err_and}
use Rattle.cut_model.specs.Tree.{tree}
use Rattle.run_checks.proofs.CheckedBehind.{accepts_behind, broken_not_accepted, cert_not_accepted, none_not_accepted, plan_not_accepted, wrong_not_accepted}
use Rattle.run_checks.proofs.checking_behind.accepted_behind.Goals as goal

pub returns-in_err-plan-clause-accepted : goal.returns-in_err-plan-clause-accepted
returns-in_err-plan-clause-accepted g c =
    let passed = err_from_is_err_and c.from_residual.result c.from_residual.ensures.1 in
    rw (passed.1, passed.2)
    (plan_not_accepted c.args.ground.instance.now c.args.k c.args.plan_text.now c.args.cert_text.now c.in_err-plan.field-0.0 c.in_err-plan.ensures.plan)

pub returns-in_err-certificate-clause-accepted : goal.returns-in_err-certificate-clause-accepted
returns-in_err-certificate-clause-accepted g c =
    let passed = err_from_is_err_and c.from_residual-in_err-certificate.result c.from_residual-in_err-certificate.ensures.1 in
    rw (passed.1, passed.2)
    (cert_not_accepted c.args.ground.instance.now c.args.k c.args.plan_text.now c.args.cert_text.now c.in_err-certificate.field-0.0 (tree c.in_ok-plan.plan) c.in_ok-plan.ensures.plan c.in_err-certificate.ensures.reading)

pub returns-in_err-lawful-clause-accepted : goal.returns-in_err-lawful-clause-accepted
returns-in_err-lawful-clause-accepted g c =
    let passed = err_from_is_err_and c.from_residual-in_err-lawful.result c.from_residual-in_err-lawful.ensures.1 in
    rw (passed.1, passed.2)
    (broken_not_accepted c.args.ground.instance.now c.args.k c.args.plan_text.now c.args.cert_text.now c.in_err-lawful.field-0.0 (tree c.in_ok-plan.plan) c.in_ok-certificate.certificate
    (record { plan_is = c.in_ok-plan.ensures.plan; reading = c.in_ok-certificate.ensures.reading }) c.in_err-lawful.ensures)

pub returns-in_err-leaves_some-clause-accepted : goal.returns-in_err-leaves_some-clause-accepted
returns-in_err-leaves_some-clause-accepted g c =
    let passed = err_from_is_err_and c.from_residual-in_err-leaves_some.result c.from_residual-in_err-leaves_some.ensures.1 in
    rw (passed.1, passed.2)
    (none_not_accepted c.args.ground.instance.now c.args.k c.args.plan_text.now c.args.cert_text.now c.in_err-leaves_some.field-0.0 (tree c.in_ok-plan.plan) c.in_ok-certificate.certificate
    (record { plan_is = c.in_ok-plan.ensures.plan; reading = c.in_ok-certificate.ensures.reading }) c.in_ok-lawful.ensures c.in_err-leaves_some.ensures)

pub returns-in_err-check_behind-clause-accepted : goal.returns-in_err-check_behind-clause-accepted
returns-in_err-check_behind-clause-accepted g c =
    let passed = err_from_is_err_and c.from_residual-in_err-check_behind.result c.from_residual-in_err-check_behind.ensures.1 in
    rw (passed.1, passed.2)
    (wrong_not_accepted c.args.ground.instance.now c.args.k c.args.plan_text.now c.args.cert_text.now c.in_err-check_behind.field-0.0 (tree c.in_ok-plan.plan) c.in_ok-certificate.certificate
    (record { plan_is = c.in_ok-plan.ensures.plan; reading = c.in_ok-certificate.ensures.reading }) c.in_ok-lawful.ensures c.in_ok-leaves_some.ensures c.in_err-check_behind.ensures)

pub returns-clause-accepted : goal.returns-clause-accepted
returns-clause-accepted g c =
    accepts_behind c.args.ground.instance.now c.args.k c.args.plan_text.now c.args.cert_text.now (tree c.in_ok-plan.plan) c.in_ok-certificate.certificate
    (record { plan_is = c.in_ok-plan.ensures.plan; reading = c.in_ok-certificate.ensures.reading }) c.in_ok-lawful.ensures c.in_ok-leaves_some.ensures c.in_ok-check_behind.ensures
