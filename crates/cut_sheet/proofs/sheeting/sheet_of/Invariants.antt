use Rattle.std.proofs.Common.{◌≡◌, ◌++◌, drop}
use Rattle.cut_model.specs.Tree.{plates_of, tree}
use Rattle.cut_sheet.specs.Sheets.{plates_sheet, sheet_in}
use Rattle.cut_sheet.proofs.sheeting.sheet_of.Given as goal

abbrev pub invariant-loop-place : goal.invariant-loop-place
invariant-loop-place l = l.sheet.items ++ plates_sheet l.place (plates_of (drop l.place l.plan.plates.items)) ≡ sheet_in (tree l.plan)
