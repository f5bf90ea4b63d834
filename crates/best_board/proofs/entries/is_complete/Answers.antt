use Rattle.std.proofs.Common.{rules, ◌≡◌, length}
use Rattle.best_board.proofs.Completing.{is_complete}
use Rattle.best_board.proofs.entries.is_complete.Goals as goal

pub returns-then-len-items : goal.returns-then-len-items
returns-then-len-items c =
    let each : length c.args.trace.now.steps.items ≡ length c.args.ground.instance.now.items = search rules in
    is_complete c.args.ground.instance.now c.args.trace.now.steps.items c.meets.result c.is_ok.result c.is_ok.ensures.value each c.meets.ensures
