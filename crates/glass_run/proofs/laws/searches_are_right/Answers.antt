use Rattle.glass_run.proofs.SearchHeadline.{search_ended}
use Rattle.glass_run.proofs.laws.searches_are_right.Goals as goal

pub returns : goal.returns
returns c words line held old new result search searches end e = (search_ended words line held old new result search searches end e).0
