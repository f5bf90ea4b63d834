use Rattle.std.proofs.Common.{◌-◌, length, arith}
use Rattle.front_table.proofs.Staircases.{ended_at}
use Rattle.front_table.proofs.stairs.is_served.Goals as goal

pub returns : goal.returns
returns c = λ yes. ended_at c.args.ends.now (length c.args.ends.now - 1) _ c.args.end.now.area c.args.end.now.to_go (omega (arith, c.if-len-eq0.false)) c.if-last-end.false c.if-last-end-2.false
