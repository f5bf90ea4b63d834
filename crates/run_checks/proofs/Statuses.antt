-- The status of an answer to a text that says no certificate.
use Rattle.cert_log.specs.declared.bad_cert.BadCert.{BadCert}
use Rattle.run_frame.specs.Answers.{Answer}
use Rattle.run_frame.proofs.Statuses.{Refuses, refused}
use Rattle.run_checks.specs.Checks.{CertRefused, cert_refusal}

-- it refuses the text
pub cert_refused : (reason : BadCert) (answer : Answer) → CertRefused reason answer → Refuses answer
cert_refused reason answer h = refused (cert_refusal reason) answer h
