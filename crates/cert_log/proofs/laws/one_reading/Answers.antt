use Rattle.cert_log.proofs.OneStop as lemmas
use Rattle.cert_log.proofs.laws.one_reading.Goals as goal

pub returns : goal.returns
returns c = lemmas.one_reading
