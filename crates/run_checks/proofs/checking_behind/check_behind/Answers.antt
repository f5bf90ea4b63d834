use Rattle.std.proofs.Common.{◌∙◌}
use Rattle.cut_model.specs.Tree.{tree}
use Rattle.run_checks.proofs.CheckedBehind.{checked_behind}
use Rattle.run_checks.proofs.checking_behind.check_behind.Goals as goal

pub returns : goal.returns
returns g c =
    let same = c.ground.ensures ∙ c.in_ok-behind.ensures in
    checked_behind c.args.ground.instance.now c.in_ok-left.left (tree c.args.plan.now) (tree c.in_ok-left.tail) c.args.k c.loss-lost.result c.args.certificate.now c.check_cert_in.result
    c.in_ok-left.ensures.instance c.in_ok-left.ensures.plan c.loss-lost.ensures.sum (rw same at c.check_cert_in.ensures)
