use Rattle.std.proofs.Common.{◌∙◌, append_assoc}
use Rattle.plan_picture.proofs.writing.write_share.Goals as goal

pub returns : goal.returns
returns c = c.in_ok-write.ensures.bytes ∙ simp append_assoc
