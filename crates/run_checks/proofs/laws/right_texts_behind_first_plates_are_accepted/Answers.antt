use Rattle.run_checks.proofs.RightTexts as lemmas
use Rattle.run_checks.proofs.laws.right_texts_behind_first_plates_are_accepted.Goals as goal

pub returns : goal.returns
returns c = lemmas.right_behind_is_accepted
