use Rattle.std.proofs.Common.{rules}
use Rattle.glass_base.proofs.params.Params.check.Goals as goal

pub returns-in-Some-clause-refused : goal.returns-in-Some-clause-refused
returns-in-Some-clause-refused c = search rules

pub returns-in-Some-first_above-clause-refused : goal.returns-in-Some-first_above-clause-refused
returns-in-Some-first_above-clause-refused c = search rules

pub invariant_of-result : goal.invariant_of-result
invariant_of-result c = search rules
