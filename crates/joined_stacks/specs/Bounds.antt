-- What another instance tells of one.
use Rattle.std.specs.Prelude.{ℕ}
use Rattle.glass_base.specs.Problem.{Problem}
use Rattle.front_course.specs.Claims.{NoCourseShorter}

-- where no course of the other is shorter than a length, none of this one is
abbrev pub BoundsToo : Problem → Problem → Type 0
BoundsToo b other = (least : ℕ) → NoCourseShorter other least → NoCourseShorter b least
