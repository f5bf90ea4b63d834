use Rattle.std.proofs.lemmas.Grind.{common_steps}
use Rattle.std.proofs.Common.{rules, arith}
use Rattle.glass_base.proofs.instance.find_flat.Goals as goal

pub returns-in_err-place : goal.returns-in_err-place
returns-in_err-place c = search rules

pub returns : goal.returns
returns c = grind (arith, common_steps)
