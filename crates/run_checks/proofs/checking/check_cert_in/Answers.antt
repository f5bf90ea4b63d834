use Rattle.run_checks.proofs.Accepting.{wrong_told}
use Rattle.run_checks.proofs.checking.check_cert_in.Goals as goal

pub returns-in-Refuse : goal.returns-in-Refuse
returns-in-Refuse g c =
    let wrong = rw c.in-Refuse.is at c.in_ok-check_cert.ensures in
    wrong_told c.args.ground.instance.now c.args.loss c.args.certificate.now c.in-Refuse.line c.in-Refuse.why c.stop_at_check.result wrong.1 wrong.0 c.stop_at_check.ensures
