use Rattle.cert_check.proofs.NamedTrees as lemmas
use Rattle.cert_check.proofs.laws.both_versions_get_the_same_verdict.Goals as goal

pub returns : goal.returns
returns c = lemmas.same_verdict
