use Rattle.cert_log.proofs.RoundTrip as lemmas
use Rattle.cert_log.proofs.laws.one_certificate.Goals as goal

pub returns : goal.returns
returns c = lemmas.one_certificate
