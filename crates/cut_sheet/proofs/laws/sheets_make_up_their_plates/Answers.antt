use Rattle.cut_sheet.proofs.Balances.{sheet_balanced}
use Rattle.cut_sheet.proofs.laws.sheets_make_up_their_plates.Goals as goal

pub returns : goal.returns
returns c = sheet_balanced
