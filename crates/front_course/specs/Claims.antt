-- What is claimed of courses.
use Rattle.std.specs.Prelude.{ℕ, ◌-◌, ◌*◌, ◌≤◌, List}
use Rattle.glass_base.specs.Items.{area_of}
use Rattle.glass_base.specs.Problem.{Problem, IsProblem}
use Rattle.cut_model.specs.declared.steps.Step.{Step}
use Rattle.cut_model.specs.Lawful.{IsLawful}
use Rattle.cut_model.specs.Loss.{loss_of}
use Rattle.cut_model.specs.Steps.{length_of}
use Rattle.cut_model.specs.Tree.{Forest}
use Rattle.plan_trace.specs.Claims.{IsComplete}
use Rattle.front_course.specs.Courses.{Strip, IsCourse, course_length}

-- a course no longer than `most`
abbrev pub HasCourse : Problem → ℕ → Type 0
HasCourse b most = (course : List Strip) × IsCourse b course × (course_length b course ≤ most)

-- every complete trace has a course no longer than it
abbrev pub TracesHaveCourses : Type 0
TracesHaveCourses = (b : Problem) → IsProblem b → (steps : List Step) → IsComplete b steps → HasCourse b (length_of b steps)

-- no course is shorter
abbrev pub NoCourseShorter : Problem → ℕ → Type 0
NoCourseShorter b least = (course : List Strip) → IsCourse b course → least ≤ course_length b course

-- every lawful plan loses at least what lies before this length and is no item
abbrev pub LosesAtLeast : Problem → ℕ → Type 0
LosesAtLeast b least = (plan : Forest) → IsLawful b plan → b.params.height * least - area_of b.items ≤ loss_of b plan

-- where no course is shorter, no lawful plan is
abbrev pub CoursesBoundLosses : Type 0
CoursesBoundLosses = (b : Problem) → IsProblem b → (least : ℕ) → NoCourseShorter b least → LosesAtLeast b least
