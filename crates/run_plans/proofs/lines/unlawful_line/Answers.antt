use Rattle.std.proofs.Common.{append_assoc, ◌∙◌}
use Rattle.run_plans.proofs.lines.unlawful_line.Goals as goal

pub returns : goal.returns
returns c = (rw c.word-word.ensures at c.in_ok-format.ensures.ok) ∙ simp append_assoc
