use Rattle.cut_sheet.proofs.OneText.{one_reading}
use Rattle.cut_sheet.proofs.laws.one_reading.Goals as goal

pub returns : goal.returns
returns c = one_reading
