use Rattle.std.proofs.Common.{rules}
use Rattle.plan_picture.proofs.canvas.Canvas.draw.Goals as goal

pub returns : goal.returns
returns c = search rules
