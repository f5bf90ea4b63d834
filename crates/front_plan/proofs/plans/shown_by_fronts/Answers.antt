use Rattle.std.proofs.Common.{subst}
use Rattle.glass_base.specs.Problem.{Problem}
use Rattle.front_course.specs.Claims.{NoCourseShorter}
use Rattle.front_plan.proofs.plans.shown_by_fronts.Goals as goal

pub returns-clause-shown : goal.returns-clause-shown
returns-clause-shown g c =
    c.joined_or-instance.ensures c.in_ok-length.length
    (subst (λ (b : Problem). NoCourseShorter b c.in_ok-length.length) c.lend-fronts.ensures.instance c.in_ok-length.ensures.shown)
