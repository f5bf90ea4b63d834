use Rattle.cut_sheet.proofs.Cuttables.{lawful_cuttable}
use Rattle.cut_sheet.proofs.laws.lawful_plans_are_cuttable.Goals as goal

pub returns : goal.returns
returns c = lawful_cuttable
