use Rattle.front_course.proofs.Law.{courses_bound}
use Rattle.front_course.proofs.laws.courses_bound_losses.Goals as goal

pub returns : goal.returns
returns c = courses_bound
