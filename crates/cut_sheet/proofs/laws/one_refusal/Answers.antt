use Rattle.cut_sheet.proofs.OneText.{one_refusal}
use Rattle.cut_sheet.proofs.laws.one_refusal.Goals as goal

pub returns : goal.returns
returns c = one_refusal
