use Rattle.std.proofs.Common.{rules}
use Rattle.cert_check.proofs.reasoning.name_cause.Goals as goal

pub returns-in-Bound-clause-named : goal.returns-in-Bound-clause-named
returns-in-Bound-clause-named c = search rules
