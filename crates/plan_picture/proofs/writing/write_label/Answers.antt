use Rattle.std.proofs.Common.{◌∙◌, append_assoc}
use Rattle.plan_picture.proofs.writing.write_label.Goals as goal

pub returns : goal.returns
returns c = (rw (c.in_ok-write_words.ensures, c.in_ok-write-2.ensures.bytes, c.in_ok-write_spot.ensures, c.in_ok-write.ensures.bytes, c.class_of-class.ensures) at c.in_ok-push_str.ensures.bytes) ∙ simp append_assoc
