use Rattle.std.proofs.Common.{sym, subst, arith}
use Rattle.front_table.specs.Ends.{Ended}
use Rattle.front_table.proofs.Staircases.{ended_more}
use Rattle.front_table.proofs.stairs.with_itself.Goals as goal

pub returns-clause-own : goal.returns-clause-own
returns-clause-own c =
    subst (λ l. Ended l 0 c.args.to_go) (sym c.shrink_to_fit.ensures.items)
    (ended_more c.push_ends.new.stairs.items 0 c.narrow.result 0 c.args.to_go (omega arith) (omega (arith, c.narrow.ensures)) (c.in_ok-push_ends.ensures.kept 0 c.narrow.result c.in_ok-push_end.ensures.new))
