use Rattle.cert_log.proofs.ReadTrees as lemmas
use Rattle.cert_log.proofs.laws.read_is_text.Goals as goal

pub returns : goal.returns
returns c = lemmas.read_is_text
