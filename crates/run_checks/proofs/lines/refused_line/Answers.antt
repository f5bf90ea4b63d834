use Rattle.std.proofs.Common.{append_assoc, ◌∙◌}
use Rattle.run_checks.proofs.lines.refused_line.Goals as goal

pub returns : goal.returns
returns c = (rw c.in_ok-why.ensures at c.in_ok-format.ensures.ok) ∙ simp append_assoc
