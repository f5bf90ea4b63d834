use Rattle.cert_log.proofs.Whole as lemmas
use Rattle.cert_log.proofs.laws.written_is_read.Goals as goal

pub returns : goal.returns
returns c = lemmas.written_is_read
