use Rattle.std.proofs.Common.{arith}
use Rattle.std.proofs.lemmas.Grind.{common_steps}
use Rattle.cert_check.specs.inner.Knowns.{known_in}
use Rattle.cert_check.proofs.gaps.top_gap.Goals as goal

pub returns-else-matches : goal.returns-else-matches
returns-else-matches c = grind (arith, common_steps, c.over_one.ensures c.args.last.now.level (known_in c.args.last.now))
