use Rattle.std.proofs.Common.{rules}
use Rattle.cert_check.proofs.reasoning.true_cause.Goals as goal

pub returns-in-Some-clause-cause : goal.returns-in-Some-clause-cause
returns-in-Some-clause-cause c = search rules
