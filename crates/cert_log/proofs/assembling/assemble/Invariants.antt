use Rattle.std.proofs.Common.{◌≡◌, length, All}
use Rattle.cert_log.specs.Outcomes.{IsHead}
use Rattle.cert_log.specs.Texts.{head_of}
use Rattle.cert_log.specs.inner.Growth.{AreMade}
use Rattle.cert_log.proofs.assembling.assemble.Given as goal

abbrev pub invariant-loop-start : goal.invariant-loop-start
invariant-loop-start l = record { len : length l.certificates.items ≡ l.start; made : AreMade l.history 0 l.certificates.items; heads : All (λ c. IsHead (head_of c)) l.certificates.items }
