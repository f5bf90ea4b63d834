use Rattle.std.proofs.Common.{sym, arith}
use Rattle.plan_box.specs.Leasts.{no_known}
use Rattle.box_bound.specs.Kept.{blank, late}
use Rattle.plan_box.proofs.LeastLengths.{last_at}
use Rattle.box_bound.proofs.bounding.last_of.Goals as goal

pub returns-else-steps-eq0-clause-value : goal.returns-else-steps-eq0-clause-value
returns-else-steps-eq0-clause-value c = sym (last_at (λ k. k.level) late no_known c.args.steps.now blank (omega arith))
