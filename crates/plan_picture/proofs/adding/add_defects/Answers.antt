use Rattle.std.proofs.Common.{arith}
use Rattle.std.proofs.lemmas.Grind.{common_steps}
use Rattle.plan_picture.proofs.adding.add_defects.Goals as goal

pub loop-defect-preserved : goal.loop-defect-preserved
loop-defect-preserved c = grind (arith, common_steps)
