use Rattle.std.proofs.Common.{◌≡◌, take}
use Rattle.std.specs.Prelude.{sum_by}
use Rattle.cert_log.specs.declared.certificate.Certificate.{Certificate}
use Rattle.cert_resume.proofs.joining.all_left.Given as goal

abbrev pub invariant-loop-part : goal.invariant-loop-part
invariant-loop-part l = l.left ≡ sum_by (λ (p : Certificate). p.left) (take l.part-index l.parts)
