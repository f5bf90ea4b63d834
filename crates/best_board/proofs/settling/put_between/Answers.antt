use Rattle.std.proofs.Common.{rules, ◌≡◌, ◌++◌, ◌∷◌, [], take}
use Rattle.best_board.specs.Improvements.{found, found_in}
use Rattle.best_board.specs.Settles.{IsBetween}
use Rattle.best_board.proofs.Gathering.{gathers_less, gathers_more}
use Rattle.best_board.proofs.settling.put_between.Goals as goal
use Rattle.best_board.proofs.settling.put_between.Goals.{then-is_between+in_ok-put_plan, else-is_between}

pub loop-entry-preserved : goal.loop-entry-preserved
loop-entry-preserved c =
    let b = c.args.ground.instance.now in let e = c.entry-item.result in let i = c.loop-entry.entry-index in
    elim c.if-is_between.branch [
      | then-is_between+in_ok-put_plan w ↦
          let is : IsBetween b c.args.between.most c.args.between.least (found e) = search rules in
          let pushed : found_in c.if-is_between.list.items ≡ found_in c.loop-entry.list.items ++ found e ∷ [] = search rules in
          gathers_more b c.args.between.most c.args.between.least c.args.entries.now i e (found_in c.args.list.now.items) (found_in c.loop-entry.list.items) (found_in c.if-is_between.list.items) c.loop-entry-test.true c.entry-item.is is pushed c.loop-entry.invariant
      | else-is_between w ↦
          let isnt : ¬ IsBetween b c.args.between.most c.args.between.least (found e) = search rules in
          let same : found_in c.if-is_between.list.items ≡ found_in c.loop-entry.list.items = search rules in
          rw same (gathers_less b c.args.between.most c.args.between.least c.args.entries.now i e (found_in c.args.list.now.items) (found_in c.loop-entry.list.items) c.loop-entry-test.true c.entry-item.is isnt c.loop-entry.invariant)
    ]
