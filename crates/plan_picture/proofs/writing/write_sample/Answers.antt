use Rattle.std.proofs.Common.{◌∙◌, append_assoc}
use Rattle.plan_picture.proofs.writing.write_sample.Goals as goal

pub returns : goal.returns
returns c = (rw (c.in_ok-write_fill_class.ensures, c.in_ok-push_str.ensures.bytes) at c.in_ok-write.ensures.bytes) ∙ simp append_assoc
