use Rattle.std.proofs.Common.{◌≡◌, ◌++◌, drop, length}
use Rattle.cut_model.specs.Tree.{neighbours}
use Rattle.cut_sheet.specs.Sheets.{parts_sheet}
use Rattle.cut_sheet.proofs.parts.put_parts.Given as goal

abbrev pub invariant-loop-place : goal.invariant-loop-place
invariant-loop-place g l =
    let forest = neighbours g.P.Part.size g.P.Part.sort g.P.Part.inner in
    record {
      written : l.sheet.items ++ parts_sheet (forest (drop l.place l.parts)) ≡ l.fn.sheet.items ++ parts_sheet (forest l.parts);
      number : l.count ≡ length l.parts;
    }
