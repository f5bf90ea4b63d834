use Rattle.front_course.proofs.Law.{trace_course}
use Rattle.front_course.proofs.laws.complete_traces_have_courses.Goals as goal

pub returns : goal.returns
returns c = trace_course
