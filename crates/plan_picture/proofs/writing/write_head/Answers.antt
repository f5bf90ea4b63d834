use Rattle.std.proofs.Common.{◌∙◌, append_assoc}
use Rattle.plan_picture.proofs.writing.write_head.Goals as goal

pub returns : goal.returns
returns c = (rw (c.in_ok-write-2.ensures.bytes, c.in_ok-write.ensures.bytes) at c.in_ok-push_str.ensures.bytes) ∙ simp append_assoc
