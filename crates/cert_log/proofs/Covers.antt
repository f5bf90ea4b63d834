-- A certificate that is right for the box of all plans bounds the loss of each lawful plan.
use Rattle.std.proofs.Common.{ℕ, ◌≤◌, max, inl, inr, ⊎_elim, List, [], ◌∷◌, fold, Option, Some, None, sym, subst, arith}
use Rattle.std.proofs.lemmas.List.Sums.{fold-append}
use Rattle.glass_base.specs.Problem.{Problem, IsProblem}
use Rattle.cut_model.specs.Lawful.{IsLawful}
use Rattle.cut_model.specs.Loss.{loss_of}
use Rattle.cut_model.specs.Traces.{trace_of}
use Rattle.cut_model.specs.Tree.{Forest}
use Rattle.plan_box.specs.Bounds.{bound}
use Rattle.plan_box.specs.Frames.{frame_of}
use Rattle.plan_box.specs.Halves.{lower_half, upper_half, child_of}
use Rattle.plan_box.specs.Plans.{HoldsPlan}
use Rattle.plan_box.specs.Ranges.{Ranges, PlainBox, IsBox, root_of}
use Rattle.plan_box.proofs.Plans.{root_holds_plan, refuted_holds_none, bound_of_plan}
use Rattle.plan_box.proofs.Shared.{shared, lower_is_box, upper_is_box, root_is_box}
use Rattle.cert_log.specs.declared.history.Cause.{Cause}
use Rattle.cert_log.specs.Good.{IsFloor, Reaches, MayClose, lesser}
use Rattle.cert_log.specs.Splits.{BoundsEachPlan}
use Rattle.cert_log.specs.Trees.{Tree, halved, closed, waiting}
use Rattle.cert_log.proofs.Walked.{Stands, open_bounds, good_stands, good_bound_is}

reach_more : (loss : Option ℕ) (m n : ℕ) → Reaches loss m → m ≤ n → Reaches loss n
reach_more None m n h le = h
reach_more (Some l) m n h le = omega (arith, h, le)

reach_lesser : (least : Option ℕ) (m n : ℕ) → Reaches least n → Reaches (lesser least m) n
reach_lesser None m n h = absurd h
reach_lesser (Some l) m n h = omega (arith, h)

reach_new : (least : Option ℕ) (m n : ℕ) → m ≤ n → Reaches (lesser least m) n
reach_new None m n h = h
reach_new (Some l) m n h = omega (arith, h)

-- what is reached stays so where more numbers are taken into account
reach_fold : (least : Option ℕ) (ms : List ℕ) (n : ℕ) → Reaches least n → Reaches (fold lesser least ms) n
reach_fold least [] n h = h
reach_fold least (m ∷ ms) n h = reach_fold (lesser least m) ms n (reach_lesser least m n h)

module _ (b : Problem) (rules : IsProblem b) (plan : Forest) (lawful : IsLawful b plan) (floor : ℕ) (least_is : IsFloor b floor) (loss : Option ℕ) where
  -- where a box that holds the plan may be closed, the plan's loss reaches the loss to beat
  closed_reaches : (rs : List Ranges) (cause : Cause) → MayClose b floor loss rs cause → HoldsPlan b rs plan → Reaches loss (loss_of b plan)
  closed_reaches rs (Cause.Reason r) may holds = absurd (refuted_holds_none b rules plan lawful rs (r, may.applies) holds)
  closed_reaches rs Cause.Floor may holds = reach_more loss floor (loss_of b plan) may (least_is plan lawful)
  closed_reaches rs Cause.Bound may holds = reach_more loss (bound b rs) (loss_of b plan) may (bound_of_plan b rules plan lawful rs holds)
  closed_reaches rs Cause.Unsaid (inl refuted) holds = absurd (refuted_holds_none b rules plan lawful rs refuted holds)
  closed_reaches rs Cause.Unsaid (inr may) holds = reach_more loss (bound b rs) (loss_of b plan) may (bound_of_plan b rules plan lawful rs holds)

  -- the plan's loss reaches the least of the bounds under a box that holds it, and of what it reaches where a box is closed
  covers : (t : Tree) (x : PlainBox) → IsBox x → Stands b floor loss x.ranges t → HoldsPlan b x.ranges plan → (least : Option ℕ) → (Reaches loss (loss_of b plan) → Reaches least (loss_of b plan))
      → Reaches (fold lesser least (open_bounds b floor x.ranges t)) (loss_of b plan)
  covers (halved step v lower upper) x box stands holds least keeps =
      let low = child_of lower_half x step v 0 in let high = child_of upper_half x step v 0 in
      let first : Option ℕ = fold lesser least (open_bounds b floor low.ranges lower) in
      subst (λ (m : Option ℕ). Reaches m (loss_of b plan)) (sym (fold-append lesser least (open_bounds b floor low.ranges lower) (open_bounds b floor high.ranges upper)))
      (⊎_elim
      (λ h. reach_fold first (open_bounds b floor high.ranges upper) (loss_of b plan) (covers lower low (lower_is_box x box step v 0 stands.0) stands.1 h least keeps))
      (λ h. covers upper high (upper_is_box x box step v 0 stands.0) stands.2 h first (λ r. reach_fold least (open_bounds b floor low.ranges lower) (loss_of b plan) (keeps r)))
      ((shared x box step v stands.0 (trace_of b plan)).in_one.0 holds))
  covers (closed cause) x box stands holds least keeps = keeps (closed_reaches x.ranges cause stands holds)
  covers waiting x box stands holds least keeps = reach_new least (max floor (bound b x.ranges)) (loss_of b plan) (omega (arith, least_is plan lawful, bound_of_plan b rules plan lawful x.ranges holds))

pub bounds_each_plan : BoundsEachPlan
bounds_each_plan b id loss c rules good plan lawful =
    let root = root_of (frame_of b) id in let stands = good_stands b root.ranges loss c good in
    let holds = root_holds_plan b rules plan lawful id in
    subst (λ (m : Option ℕ). Reaches m (loss_of b plan)) (sym (good_bound_is b root.ranges loss c good))
    (covers b rules plan lawful c.floor good.floor_is loss good.tree root (root_is_box (frame_of b) id)
    stands holds loss (λ r. r))
