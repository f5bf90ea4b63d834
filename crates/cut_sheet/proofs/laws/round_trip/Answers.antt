use Rattle.cut_sheet.proofs.OneText.{round_trip}
use Rattle.cut_sheet.proofs.laws.round_trip.Goals as goal

pub returns : goal.returns
returns c = round_trip
