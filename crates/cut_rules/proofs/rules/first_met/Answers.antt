use Rattle.std.proofs.Common.{arith}
use Rattle.cut_rules.proofs.Positions.{place_if_unsound}
use Rattle.cut_rules.proofs.rules.first_met.Goals as goal

pub returns : goal.returns
returns c = place_if_unsound c.args.map.now c.args.row.now c.first_hit.result (omega arith) (omega arith) c.first_hit.ensures
