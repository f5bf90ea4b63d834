use Rattle.cert_log.proofs.GoodNodes as lemmas
use Rattle.cert_log.proofs.laws.good_certificates_are_no_larger_than_full_trees.Goals as goal

pub returns : goal.returns
returns c = lemmas.no_larger_than_full
