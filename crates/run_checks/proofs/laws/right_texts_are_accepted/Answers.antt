use Rattle.run_checks.proofs.RightTexts as lemmas
use Rattle.run_checks.proofs.laws.right_texts_are_accepted.Goals as goal

pub returns : goal.returns
returns c = lemmas.right_is_accepted
