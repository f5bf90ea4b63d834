use Rattle.front_table.specs.Levels.{to_go_at}
use Rattle.front_table.proofs.Leasts.{least_zero}
use Rattle.front_table.proofs.facts.far_of.Goals as goal

pub returns-then-behind-eq0-clause-least : goal.returns-then-behind-eq0-clause-least
returns-then-behind-eq0-clause-least c = least_zero c.args.behind.now.fronts.instance.now c.args.behind.now.fronts.rows.now (to_go_at c.args.behind.now.fronts.levels.now) c.args.behind.now.start
