use Rattle.std.proofs.Common.{sym}
use Rattle.plan_csv.proofs.AllowedRows.{allowed}
use Rattle.plan_csv.proofs.reading.read_row.Goals as goal

pub push-requires-clause-allowed : goal.push-requires-clause-allowed
push-requires-clause-allowed c =
    allowed c.args.instance.now c.args.row c.args.nodes.now.rows.items c.in_ok-r.r (sym c.in-None.ensures) c.in_ok-r.ensures.typed
