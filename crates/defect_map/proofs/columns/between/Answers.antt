use Rattle.std.proofs.Common.{arith}
use Rattle.std.proofs.lemmas.Option.{slice_get_within}
use Rattle.defect_map.proofs.ColumnLemmas.{part_contains}
use Rattle.defect_map.proofs.columns.between.Goals as goal

pub returns : goal.returns
returns c = λ k column low high at.
    let within = slice_get_within c.args.columns.now k column at in
    part_contains _ _ _ k column (omega arith) (omega (arith, within)) at
