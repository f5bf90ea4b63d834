use Rattle.picture_run.proofs.PictureHeadline.{done_picture}
use Rattle.picture_run.proofs.laws.done_pictures_are_true.Goals as goal

pub returns : goal.returns
returns c = done_picture
