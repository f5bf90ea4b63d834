-- Courses end where sides are held.
use Rattle.std.proofs.Common.{◌≡◌, ℕ, ◌+◌, ◌-◌, ◌<◌, ◌≤◌, inl, inr, List, [], ◌∷◌, length, ap, subst, arith}
use Rattle.std.proofs.lemmas.Bool.{cases_lt}
use Rattle.glass_base.specs.Plates.{Before, Width}
use Rattle.glass_base.specs.Problem.{Problem}
use Rattle.plan_trace.specs.TraceRules.{Gap}
use Rattle.front_course.specs.Fronts.{Front, no_item, IsFull}
use Rattle.front_course.specs.Strips.{after_bands}
use Rattle.front_course.specs.Courses.{Strip, Behind, AreStrips, after_strips, last_plate, last_right, course_length}
use Rattle.front_course.specs.Claims.{NoCourseShorter}
use Rattle.front_table.specs.declared.labels.FrontLabel.{FrontLabel}
use Rattle.front_table.specs.declared.rows.FrontRow.{FrontRow}
use Rattle.front_table.specs.Lattice.{At, IsLattice}
use Rattle.front_table.specs.Levels.{IsToGo}
use Rattle.front_table.specs.Pools.{HeldAt}
use Rattle.front_bound.specs.Sides.{RowGoesOn, SidesGoOn}
use Rattle.front_table.proofs.FrontRows.{first_row, last_row}
use Rattle.front_table.proofs.StripRuns.{Path, bands_path, strip_down}
use Rattle.front_bound.proofs.SideLemmas.{gap_behind}

-- a strip ends no earlier than where it begins and its width later
strip_on : (b : Problem) (plate from : ℕ) (strip : Strip) → from ≤ Width b plate → Behind b plate from strip → Before b plate + from + strip.width ≤ Before b strip.plate + strip.right
unfolding Before
strip_on b plate from strip within (inl here) = omega (arith, ap (Before b) here.0, gap_behind b.params.waste (from + strip.width) strip.right here.1)
strip_on b plate from strip within (inr there) = omega (arith, ap (Before b) there.0, within, gap_behind b.params.waste strip.width strip.right there.2)

-- what is to go from a row is no more than what strips from there take
rest_far : (b : Problem) (rows : List FrontRow) → IsLattice b rows → (to_go : ℕ → ℕ) → to_go 0 ≡ 0 → ((n : ℕ) → n < length rows → IsToGo b rows to_go n) → (strips : List Strip) (n : ℕ) (f : Front) (plate from : ℕ) → At b rows n f → from ≤ Width b plate →
    AreStrips b f plate from strips → IsFull b (after_strips f strips) → Before b plate + from + to_go n ≤ Before b (last_plate plate strips) + last_right from strips
rest_far b rows h to_go zero_is far [] n f plate from at within are full = omega (arith, ap to_go (last_row b rows h n f at full), zero_is)
rest_far b rows h to_go zero_is far (strip ∷ strips) n f plate from at within are full =
    let p : Path b rows n (after_bands f strip.bands) _ = bands_path b rows h strip.width strip.bands n f at are.0.is_strip.each in
    omega (
      arith,
      strip_on b plate from strip within are.0.behind,
      far n at.within f at strip.width strip.bands are.0.is_strip p.row p.at,
      rest_far b rows h to_go zero_is far strips p.row (after_bands f strip.bands) strip.plate strip.right p.at are.0.within are.1 full,
    )

-- a course that is short enough is held where it ends
course_held : (b : Problem) (rows : List FrontRow) → IsLattice b rows → (to_go : ℕ → ℕ) → to_go 0 ≡ 0 → ((n : ℕ) → n < length rows → IsToGo b rows to_go n) → (most : ℕ) (sides : List (List FrontLabel)) → ((n : ℕ) → 1 ≤ n → n < length rows → SidesGoOn b rows to_go most sides n) →
    (strips : List Strip) (n : ℕ) (f : Front) (plate from : ℕ) → At b rows n f → AreStrips b f plate from strips → IsFull b (after_strips f strips) → Before b (last_plate plate strips) + last_right from strips ≤ most → HeldAt sides n from plate →
    HeldAt sides 0 (last_right from strips) (last_plate plate strips)
unfolding RowGoesOn
course_held b rows h to_go zero_is far most sides goes [] n f plate from at are full near held = subst (λ k. HeldAt sides k from plate) (last_row b rows h n f at full) held
course_held b rows h to_go zero_is far most sides goes (strip ∷ strips) n f plate from at are full near held =
    let p : Path b rows n (after_bands f strip.bands) _ = bands_path b rows h strip.width strip.bands n f at are.0.is_strip.each in
    let down : p.row < n = strip_down b rows h f n at strip.width strip.bands are.0.is_strip p.row p.at in
    let rest = rest_far b rows h to_go zero_is far strips p.row (after_bands f strip.bands) strip.plate strip.right p.at are.0.within are.1 full in
    course_held b rows h to_go zero_is far most sides goes strips p.row (after_bands f strip.bands) strip.plate strip.right p.at are.1 full near
    (goes n (omega (arith, down)) at.within f at plate from held strip are.0 p.row p.at (omega (arith, rest, near)))

-- the last strip is on one of the plates
last_few : (b : Problem) (f : Front) (plate from : ℕ) (strip : Strip) (strips : List Strip) → AreStrips b f plate from (strip ∷ strips) → last_plate plate (strip ∷ strips) < b.params.plates
last_few b f plate from strip [] are = are.0.few
last_few b f plate from strip (next ∷ strips) are = last_few b (after_bands f strip.bands) strip.plate strip.right next strips are.1

-- where no last plate can end before a length that is no more than that, no course is so short
pub none_shorter : (b : Problem) (rows : List FrontRow) → IsLattice b rows → (to_go : ℕ → ℕ) → to_go 0 ≡ 0 → ((n : ℕ) → n < length rows → IsToGo b rows to_go n) → (most : ℕ) (sides : List (List FrontLabel)) → ((n : ℕ) → 1 ≤ n → n < length rows → SidesGoOn b rows to_go most sides n) →
    1 ≤ length rows - 1 → HeldAt sides (length rows - 1) 0 0 → (least : ℕ) → least ≤ most + 1 →
    ((right plate : ℕ) → HeldAt sides 0 right plate → plate < b.params.plates → Gap b.params.waste right (Width b plate) → least ≤ Before b plate + right) → NoCourseShorter b least
none_shorter b rows h to_go zero_is far most sides goes some held least le none [] is =
    absurd (omega (arith, last_row b rows h (length rows - 1) no_item (first_row b rows h) is.full, some))
none_shorter b rows h to_go zero_is far most sides goes some held least le none (strip ∷ strips) is =
    elim (cases_lt most (course_length b (strip ∷ strips))) [
      | inl longer ↦ omega (arith, longer, le)
      | inr near ↦
          let ends = course_held b rows h to_go zero_is far most sides goes (strip ∷ strips) (length rows - 1) no_item 0 0 (first_row b rows h) is.strips is.full near held in
          none (last_right 0 (strip ∷ strips)) (last_plate 0 (strip ∷ strips)) ends (last_few b no_item 0 0 strip strips is.strips) is.rest
    ]
