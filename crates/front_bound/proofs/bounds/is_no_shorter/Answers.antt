use Rattle.std.proofs.Common.{subst}
use Rattle.glass_base.specs.Problem.{Problem}
use Rattle.front_course.specs.Claims.{NoCourseShorter}
use Rattle.front_bound.proofs.bounds.is_no_shorter.Goals as goal

pub returns-in-Ok : goal.returns-in-Ok
returns-in-Ok g c = λ shown.
    c.courses_bound_losses.ensures c.args.instance.now c.items-rules.ensures.rules c.args.length
    (c.joined_or.ensures c.args.length (subst (λ (b : Problem). NoCourseShorter b c.args.length) c.probe-probe.ensures (c.in-Ok.ensures shown)))
