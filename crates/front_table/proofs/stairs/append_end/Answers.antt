use Rattle.std.proofs.Common.{sym, subst}
use Rattle.front_table.specs.Ends.{Ended}
use Rattle.front_table.proofs.Staircases.{ended_old, ended_new}
use Rattle.front_table.proofs.stairs.append_end.Goals as goal

pub returns-clause-kept : goal.returns-clause-kept
returns-clause-kept c = λ a t ended. subst (λ l. Ended l a t) (sym c.in_ok-push.ensures.items) (ended_old c.args.ends.now.items _ a t ended)

pub returns-clause-new : goal.returns-clause-new
returns-clause-new c = subst (λ l. Ended l c.args.end.now.area c.args.end.now.to_go) (sym c.in_ok-push.ensures.items) (ended_new c.args.ends.now.items c.args.end.now)
