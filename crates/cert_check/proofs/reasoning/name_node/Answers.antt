use Rattle.std.proofs.Common.{rules}
use Rattle.cert_check.proofs.reasoning.name_node.Goals as goal

pub returns-in-Left-clause-named : goal.returns-in-Left-clause-named
returns-in-Left-clause-named c = search rules
