use Rattle.std.proofs.Common.{subst, arith}
use Rattle.front_table.specs.Ends.{Ended}
use Rattle.front_table.proofs.Staircases.{ended_merged, ended_more}
use Rattle.front_table.proofs.stairs.merge_end.Goals as goal

pub returns-clause-kept : goal.returns-clause-kept
returns-clause-kept c = λ a t ended.
    ended_merged c.pop.new.self.items c.append_end-2.new.ends.items c.in-Some.last c.min.result c.min-2.result a t (omega (arith, c.min.ensures)) (omega (arith, c.min-2.ensures))
    c.in_ok-append_end-2.ensures.kept c.in_ok-append_end-2.ensures.new (subst (λ l. Ended l a t) c.in-Some.ensures.items ended)

pub returns-clause-new : goal.returns-clause-new
returns-clause-new c =
    ended_more c.append_end-2.new.ends.items c.min.result c.min-2.result c.args.end.now.area c.args.end.now.to_go (omega (arith, c.min.ensures)) (omega (arith, c.min-2.ensures)) c.in_ok-append_end-2.ensures.new
