use Rattle.std.proofs.Common.{◌∙◌, ap, sym}
use Rattle.cut_model.specs.Steps.{last_right}
use Rattle.loss_area.proofs.TraceEnds.{last_pushed}
use Rattle.loss_area.proofs.lengths.last_right.Goals as goal

pub returns-in-Some : goal.returns-in-Some
returns-in-Some c = sym (ap last_right c.in-Some.ensures.cases.0 ∙ last_pushed c.in-Some._before.now c.in-Some.last.now)
