use Rattle.glass_run.proofs.CheckRefusals.{judged_unlawful_by}
use Rattle.glass_run.proofs.laws.unlawful_judgements_are_true.Goals as goal

pub returns : goal.returns
returns c = judged_unlawful_by
