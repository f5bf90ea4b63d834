use Rattle.std.proofs.Common.{rules}
use Rattle.cert_check.specs.inner.Knowns.{known_in, levels_in}
use Rattle.cert_check.proofs.refuting.is_fact_at.Goals as goal

pub returns-in-R1 : goal.returns-in-R1
returns-in-R1 c = search (rules, c.has_no_place.ensures c.args.last.now.level (known_in c.args.last.now) (levels_in c.args.later.now))

pub returns-in-R4 : goal.returns-in-R4
returns-in-R4 c = search (rules, c.cut_met.ensures c.args.last.now.level (known_in c.args.last.now) (levels_in c.args.later.now))

pub returns-in-R5 : goal.returns-in-R5
returns-in-R5 c = search (rules, c.is_too_wide.ensures c.args.last.now.level (known_in c.args.last.now) (levels_in c.args.later.now))

pub returns-in-R6 : goal.returns-in-R6
returns-in-R6 c = search (rules, c.breaks_a_rule.ensures (levels_in c.args.later.now))
