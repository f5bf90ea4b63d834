use Rattle.std.proofs.Common.{rules}
use Rattle.plan_picture.proofs.canvas.Canvas.open.Goals as goal

pub returns : goal.returns
returns c = search rules
