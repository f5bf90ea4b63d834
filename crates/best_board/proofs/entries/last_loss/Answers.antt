use Rattle.std.proofs.Common.{List, sym, ap, ◌∙◌}
use Rattle.best_board.specs.Improvements.{found_in, last_loss}
use Rattle.best_board.specs.declared.entry.Entry.{Entry}
use Rattle.best_board.proofs.Improving.{last_entry}
use Rattle.best_board.proofs.entries.last_loss.Goals as goal

pub returns-in-Some : goal.returns-in-Some
returns-in-Some c = sym (ap (λ (es : List Entry). last_loss (found_in es)) c.in-Some.ensures.cases.0 ∙ last_entry c.in-Some._before.now c.in-Some.last.now)
