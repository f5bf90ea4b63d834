use Rattle.run_checks.proofs.RightTexts as lemmas
use Rattle.run_checks.proofs.laws.right_certificates_pass.Goals as goal

pub returns : goal.returns
returns c = lemmas.right_passes
