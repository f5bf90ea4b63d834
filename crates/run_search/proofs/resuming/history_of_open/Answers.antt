use Rattle.std.proofs.Common.{rules, ◌≡◌, List, [], sym, subst}
use Rattle.plan_box.specs.Ranges.{PlainBox}
use Rattle.run_search.specs.inner.Searches.{IsHistoryOf}
use Rattle.run_search.proofs.resuming.history_of_open.Goals as goal

pub returns-then-is_empty : goal.returns-then-is_empty
returns-then-is_empty g c =
    let none : c.args.boxes.items ≡ [] = search rules in
    let budget = c.args.workforce.now.options.budget in
    subst (λ (xs : List PlainBox). IsHistoryOf c.args.ground.instance.now xs c.args.start.first budget c.args.start.floor c.history_of_none.result) (sym none) (c.history_of_none.ensures budget)
