use Rattle.std.proofs.Common.{◌+◌, arith}
use Rattle.front_table.proofs.Staircases.{ended_more}
use Rattle.front_table.proofs.stairs.append_behind.Goals as goal

pub returns-clause-new : goal.returns-clause-new
returns-clause-new c = λ few.
    ended_more c.append_end.new.ends.items _ _ (c.args.end.now.area + c.args.area) c.args.end.now.to_go (omega (arith, c.narrow.ensures, c.in-Some.ensures, c.from.ensures)) (omega arith) c.in_ok-append_end.ensures.new
