use Rattle.cert_log.proofs.Weights as lemmas
use Rattle.cert_log.proofs.laws.boxes_are_of_levels.Goals as goal

pub returns : goal.returns
returns c = lemmas.boxes_are_of_levels
