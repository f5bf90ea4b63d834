use Rattle.cut_sheet.proofs.Balances.{waste_is_loss}
use Rattle.cut_sheet.proofs.laws.sheets_waste_what_plans_lose.Goals as goal

pub returns : goal.returns
returns c = waste_is_loss
