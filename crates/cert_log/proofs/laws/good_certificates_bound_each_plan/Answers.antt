use Rattle.cert_log.proofs.Covers as lemmas
use Rattle.cert_log.proofs.laws.good_certificates_bound_each_plan.Goals as goal

pub returns : goal.returns
returns c = lemmas.bounds_each_plan
