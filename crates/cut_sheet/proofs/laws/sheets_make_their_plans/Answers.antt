use Rattle.cut_sheet.proofs.Making.{sheet_made}
use Rattle.cut_sheet.proofs.laws.sheets_make_their_plans.Goals as goal

pub returns : goal.returns
returns c = sheet_made
