use Rattle.std.proofs.Common.{rules, ◌≡◌, ◌<◌, IfSome}
use Rattle.plan_trace.specs.Claims.{IsComplete}
use Rattle.best_board.specs.declared.entry.Entry.{Entry}
use Rattle.best_board.specs.Improvements.{found_in, last_loss}
use Rattle.best_board.proofs.Gathering.{entered_entry}
use Rattle.best_board.proofs.entries.Entries.offer.Goals as goal

pub invariant_of-self-2 : goal.invariant_of-self-2
invariant_of-self-2 c =
    let b = c.self.inside.instance in
    let e : Entry = record { loss = c.trace_loss-loss.result; trace = c.in_ok-trace.trace } in
    let complete : IsComplete b c.args.trace.now.steps.items = search rules in
    let below : IfSome (last_loss (found_in c.self.inside.list.items)) (λ loss. c.trace_loss-loss.result < loss) = search rules in
    (c.self.invariant.0, entered_entry b c.self.inside.list.items c.append.new.run.items e c.args.trace.now.steps.items c.self.invariant.1 complete below c.in_ok-trace.ensures c.trace_loss-loss.ensures.loss c.in_ok-append.ensures.ok)
