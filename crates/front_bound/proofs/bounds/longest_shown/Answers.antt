use Rattle.std.proofs.Common.{subst}
use Rattle.glass_base.specs.Problem.{Problem}
use Rattle.front_course.specs.Claims.{NoCourseShorter}
use Rattle.front_bound.proofs.bounds.longest_shown.Goals as goal

pub returns-in-Ok-clause-shown : goal.returns-in-Ok-clause-shown
returns-in-Ok-clause-shown g c =
    c.courses_bound_losses.ensures c.args.instance.now c.items-rules.ensures.rules c.in-Ok.shown
    (c.joined_or.ensures c.in-Ok.shown (subst (λ (b : Problem). NoCourseShorter b c.in-Ok.shown) c.probe-probe.ensures c.in-Ok.ensures.shown))
