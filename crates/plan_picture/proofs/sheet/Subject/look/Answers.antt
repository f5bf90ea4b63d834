use Rattle.std.proofs.Common.{rules}
use Rattle.plan_picture.proofs.sheet.Subject.look.Goals as goal

pub returns-in-Waste : goal.returns-in-Waste
returns-in-Waste c = search rules
