use Rattle.std.proofs.Common.{arith}
use Rattle.std.proofs.lemmas.Grind.{common_steps}
use Rattle.plan_picture.proofs.labels.add_two_lines.Goals as goal

pub returns : goal.returns
returns c = grind (arith, common_steps)
