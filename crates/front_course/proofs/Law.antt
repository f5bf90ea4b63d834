-- Every complete trace has a course that is no longer, and so every lawful plan loses what lies before a floor.
use Rattle.std.proofs.Common.{ℕ, inl, ◌+◌, ◌*◌, ◌≤◌, List, [], ◌∷◌, map, refl, arith}
use Rattle.std.proofs.Math.Nat.{mul-le-mul_left}
use Rattle.glass_base.specs.Plates.{Before, Width}
use Rattle.glass_base.specs.Problem.{Problem, IsProblem}
use Rattle.cut_model.specs.declared.steps.Step.{Step}
use Rattle.cut_model.specs.Steps.{length_of}
use Rattle.cut_model.specs.Traces.{trace_of}
use Rattle.plan_trace.specs.declared.level.Level.{Level}
use Rattle.plan_trace.specs.declared.level.Level.TheVariants.{NewPlate}
use Rattle.plan_trace.specs.Marks.{Draw, draw_of, drawn, begins, place_of, no_place, marks, attach, Spot, spots, Cut, cut, no_cut}
use Rattle.plan_trace.specs.TraceRules.{EachStep, Gap}
use Rattle.plan_trace.specs.Claims.{IsComplete}
use Rattle.plan_trace.proofs.Known.{Known, known_all}
use Rattle.plan_trace.proofs.Lawful.{lawful_meets}
use Rattle.plan_trace.proofs.Loss.{lawful_loses}
use Rattle.plan_box.proofs.Lengths.{end_from, length_is}
use Rattle.front_course.specs.Fronts.{Front, no_item, IsFull}
use Rattle.front_course.specs.Cells.{Pick}
use Rattle.front_course.specs.Claims.{HasCourse, TracesHaveCourses, CoursesBoundLosses}
use Rattle.front_course.proofs.Behind.{Finished, Own, own_of, finish, IsPick, begun, banded, Strips, stripped, lines_of}
use Rattle.front_course.proofs.Extend.{extend, strip_ends, few_plates, wide_gap}
use Rattle.front_course.proofs.Full.{all_draws, full}

-- the pick of a step
abbrev pick_of : Step → Pick
pick_of s = record { stack = s.stack; turn = s.turn }

-- where the strips of a trace end: every item is taken, what is left of the plate is a gap, and it is no later than `most`
record Ended (b : Problem) (most : ℕ) (f : Front) (plate right : ℕ) : Type 0 where
  full : IsFull b f
  rest : Gap b.params.waste right (Width b plate)
  low : Before b plate + right ≤ most

-- what follows each step, from the last one on
finished : (b : Problem) (most : ℕ) (before : List Draw) (m : Level) (t : Cut) (ss : List Step) → Own b m t (attach (marks b before t.place (map draw_of ss)) ss) →
    EachStep (Known b) m t (attach (marks b before t.place (map draw_of ss)) ss) → IsFull b (drawn (all_draws before ss)) → end_from b t (attach (marks b before t.place (map draw_of ss)) ss) ≤ most →
    Finished b (Ended b most) m (drawn before) t
finished b most before m t [] own k full low =
    finish b (Ended b most) m (drawn before) t [] own.by_itself own.place refl
    (strip_ends b (Ended b most) (drawn before) t (own.ends.cell refl) (own.ends.band refl) (record { strips = []; follow = tt; goal = record { full = full; rest = own.ends.strip refl; low = low } }))
finished b most before m t (s ∷ ss) own k full low =
    let l : Level = begins before s.kind in
    let n : Cut = cut (place_of b before t.place (draw_of s)) s in
    let later : List Spot = attach (marks b (draw_of s ∷ before) n.place (map draw_of ss)) ss in
    extend b (Ended b most) (drawn before) (pick_of s) m t l n later k.0 own (record { there = k.0.rules.tr2; w = refl; h = refl })
    (finished b most (draw_of s ∷ before) l n ss (own_of b m t l n later k.0) k.1 full low)

-- the strips of a trace
all_strips : (b : Problem) (most : ℕ) → IsProblem b → (s : Step) (ss : List Step) → IsComplete b (s ∷ ss) → end_from b no_cut (spots b (s ∷ ss)) ≤ most → Strips b (Ended b most) no_item 0 0
all_strips b most rules s ss whole low =
    let k = known_all b rules (s ∷ ss) whole.meets in
    let n : Cut = cut (place_of b [] no_place (draw_of s)) s in
    let later : List Spot = attach (marks b (draw_of s ∷ []) n.place (map draw_of ss)) ss in
    let done = finished b most (draw_of s ∷ []) NewPlate n ss (own_of b NewPlate no_cut NewPlate n later k.0) k.1 (full b rules (s ∷ ss) whole) low in
    let pick : IsPick b no_item (pick_of s) n = record { there = k.0.rules.tr2; w = refl; h = refl } in
    stripped b (Ended b most) no_item 0 0 n k.0.sound.fits (few_plates b NewPlate no_cut NewPlate n later k.0) k.0.rules.tr4.1 k.0.rules.tr5.0
    (λ bands. inl (k.0.sound.plate_is, wide_gap b.params.waste 0 n k.0.sound.fits.ends.0 k.0.rules.tr4.0))
    (lines_of b NewPlate no_cut NewPlate n later k.0).0 (lines_of b NewPlate no_cut NewPlate n later k.0).1
    (banded b (Ended b most) no_item n k.0.sound.fits k.0.sound.own k.0.rules.tr6.0 k.0.rules.tr5.1 (begun b (Ended b most) no_item (pick_of s) n pick done))

pub trace_course : TracesHaveCourses
trace_course b rules [] whole = absurd (omega (arith, rules.some, whole.each_item))
trace_course b rules (s ∷ ss) whole =
    let most : ℕ = length_of b (s ∷ ss) in
    let strips : Strips b (Ended b most) no_item 0 0 = all_strips b most rules s ss whole (omega (arith, length_is b (s ∷ ss))) in
    (strips.strips, record { strips = strips.follow; full = strips.goal.full; rest = strips.goal.rest }, strips.goal.low)

pub courses_bound : CoursesBoundLosses
courses_bound b rules least none plan lawful =
    let course : HasCourse b (length_of b (trace_of b plan)) = trace_course b rules (trace_of b plan) (lawful_meets b rules plan lawful) in
    let most : least ≤ length_of b (trace_of b plan) = omega (arith, none course.0 course.1, course.2) in
    let area : b.params.height * least ≤ b.params.height * length_of b (trace_of b plan) = mul-le-mul_left b.params.height most in
    omega (arith, area, lawful_loses b rules plan lawful)
