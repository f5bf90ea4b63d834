use Rattle.std.proofs.Common.{rules, ◌≡◌, Some, option_map, ◌∙◌, sym, ap, List, Option, Bor}
use Rattle.cut_model.specs.declared.steps.Step.{Step}
use Rattle.cut_model.specs.declared.steps.Trace.{Trace}
use Rattle.cert_log.specs.Lawful.{trace_loss}
use Rattle.best_board.specs.Improvements.{found_in}
use Rattle.best_board.specs.Settles.{IsNoWorse, Settles}
use Rattle.best_board.proofs.Improving.{IsSettled, settled}
use Rattle.best_board.proofs.settling.settle.Goals as goal

abbrev steps_in : Option (Bor Trace) → Option (List Step)
steps_in plan = option_map (λ (t : Bor Trace). t.now.steps.items) plan

pub returns-clause-improvements : goal.returns-clause-improvements
returns-clause-improvements c =
    let b = c.args.instance.now in let last = c.in-Some.last.now.steps.items in let list = found_in c.put_last.new.list.items in
    let s : Settles b (steps_in c.args.first) (Some last) c.args.entries.now.found list = search rules in
    (settled b (steps_in c.args.first) last c.args.entries.now.found list c.list-2.ensures.rules.falling c.requires.first (rw c.in-Some.is at c.requires.last) (rw c.in-Some.is at c.requires.no_worse) s).improvements

pub returns-clause-ends : goal.returns-clause-ends
returns-clause-ends c =
    let b = c.args.instance.now in let last = c.in-Some.last.now.steps.items in let list = found_in c.put_last.new.list.items in
    let s : Settles b (steps_in c.args.first) (Some last) c.args.entries.now.found list = search rules in
    (settled b (steps_in c.args.first) last c.args.entries.now.found list c.list-2.ensures.rules.falling c.requires.first (rw c.in-Some.is at c.requires.last) (rw c.in-Some.is at c.requires.no_worse) s).last_is
    ∙ ap (λ (plan : Option (Bor Trace)). option_map (trace_loss b) (steps_in plan)) (sym c.in-Some.is)
