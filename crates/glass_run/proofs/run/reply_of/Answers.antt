use Rattle.glass_run.proofs.Given.{told_too}
use Rattle.glass_run.proofs.run.reply_of.Goals as goal

pub returns-clause-reply : goal.returns-clause-reply
returns-clause-reply g c = told_too _ _ _ c.in_ok-asked.ensures.asked (λ contents asked. c.in_ok-reply_to_asked.ensures contents asked)
