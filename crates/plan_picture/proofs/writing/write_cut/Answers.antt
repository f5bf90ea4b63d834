use Rattle.std.proofs.Common.{◌∙◌, append_assoc}
use Rattle.plan_picture.proofs.writing.write_cut.Goals as goal

pub returns : goal.returns
returns c = (rw c.in_ok-write.ensures.bytes at c.in_ok-write-2.ensures.bytes) ∙ simp append_assoc
