use Rattle.std.proofs.Common.{length, sym, subst}
use Rattle.front_table.specs.Ready.{SameLevel, IsLast}
use Rattle.front_table.proofs.LevelLists.{same_pushed, last_pushed}
use Rattle.front_table.proofs.levels.push_level.Goals as goal

pub returns-clause-same : goal.returns-clause-same
returns-clause-same c = λ n lt. subst (λ l. SameLevel c.args.levels.now.items l n) (sym c.in_ok-push.ensures.items) (same_pushed c.args.levels.now.items c.args.level n lt)

pub returns-clause-new : goal.returns-clause-new
returns-clause-new c = subst (λ l. IsLast l (length c.args.levels.now.items) c.args.level) (sym c.in_ok-push.ensures.items) (last_pushed c.args.levels.now.items c.args.level)
