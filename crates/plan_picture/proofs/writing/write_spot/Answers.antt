use Rattle.std.proofs.Common.{◌∙◌, append_assoc}
use Rattle.plan_picture.proofs.writing.write_spot.Goals as goal

pub returns-in_ok-write : goal.returns-in_ok-write
returns-in_ok-write c = rw c.if-upright.true (c.in_ok-write.ensures.bytes ∙ simp append_assoc)
