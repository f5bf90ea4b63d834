use Rattle.glass_run.proofs.SheetHeadline.{done_sheet}
use Rattle.glass_run.proofs.laws.done_sheets_make_their_plans.Goals as goal

pub returns : goal.returns
returns c = done_sheet
