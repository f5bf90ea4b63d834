use Rattle.plan_csv.proofs.ShortTexts.{short_text}
use Rattle.plan_csv.proofs.laws.texts_of_plans_are_short.Goals as goal

pub returns : goal.returns
returns c = short_text
