-- What the probe of a box comes to.
use Rattle.std.proofs.Common.{◌≡◌, ℕ, ◌<◌, ◌≤◌, inl, inr, Bool, true, false, cond, nat_lt, List, length, min, sym, refl, ap, ◌∙◌, subst, arith, IsTrue, eqb-true}
use Rattle.std.specs.Prelude.{Option, Some}
use Rattle.std.proofs.lemmas.Bool.Decides.{nat_tests}
use Rattle.std.proofs.lemmas.List.{length-map}
use Rattle.glass_base.specs.Problem.{Problem}
use Rattle.cut_model.specs.declared.steps.Step.{Step}
use Rattle.cut_model.specs.declared.steps.Trace.{Trace}
use Rattle.plan_trace.specs.Claims.{IsComplete}
use Rattle.plan_box.specs.Bounds.{bound}
use Rattle.plan_box.specs.Decisions.{decided, all_decided, IsPoint}
use Rattle.plan_box.specs.Frames.{frame_of}
use Rattle.plan_box.specs.Leasts.{Fixed, known, least_step, least_steps}
use Rattle.plan_box.specs.Ranges.{Ranges, PlainBox, IsBox}
use Rattle.plan_box.specs.Reasons.{IsRefuted}
use Rattle.plan_box.proofs.Counts.{known_count}
use Rattle.plan_box.proofs.PointTests.{least_map}
use Rattle.plan_box.proofs.Probed.{point_whole, least_bound, point_meets, whole_probed}
use Rattle.box_bound.specs.declared.kept.Kept.{Kept}
use Rattle.box_bound.specs.Kept.{late}
use Rattle.box_bound.specs.Leastings.{Leastings, IsFor}
use Rattle.box_bound.proofs.Writing.{whole_count}
use Rattle.cert_log.specs.declared.history.Act.{Act}
use Rattle.cert_log.specs.declared.history.Cause.{Cause}
use Rattle.cert_log.specs.Lawful.{no_loss, trace_loss}
use Rattle.shared_best.specs.declared.view.View.{View}
use Rattle.shared_best.specs.Words.{lowered}
use Rattle.box_workers.specs.declared.hand.Hand.{Hand}
use Rattle.box_workers.specs.Handling.{IsAct, Probes, IsProbed, told, IsPlanAfter}
use Rattle.box_workers.specs.inner.Deciding.{ClosesBy, Improves}

not_less : (m n : ℕ) → n ≤ m → nat_lt m n ≡ false
not_less m n h = grind (arith, nat_tests)

less : (m n : ℕ) → m < n → nat_lt m n ≡ true
less m n h = grind (arith, nat_tests)

pub told_none : (loss probed : ℕ) (v : View) → loss ≤ probed → v ≡ told loss probed v
told_none loss probed v h = sym (ap (λ (t : Bool). cond t (lowered v probed) v) (not_less probed loss h))

told_less : (loss probed : ℕ) (v : View) → probed < loss → lowered v probed ≡ told loss probed v
told_less loss probed v h = sym (ap (λ (t : Bool). cond t (lowered v probed) v) (less probed loss h))

-- nothing was found
pub finds_none : (b : Problem) (rs : List Ranges) (v : View) (old new : Hand) → ¬ Probes b rs → old.loss ≤ no_loss → new.loss ≡ old.loss → new.plan ≡ old.plan → Improves b rs no_loss v v old new
finds_none b rs v old new fails small loss plan = record {
  is_probed = inr (fails, refl);
  seat = told_none old.loss no_loss v small;
  loss = omega arith;
  plan = inr (small, plan);
}

-- what a hand improves on is its loss and its plan
pub improves_from : (b : Problem) (rs : List Ranges) (probed : ℕ) (u v w : View) (old mid new : Hand) → v ≡ u → mid.loss ≡ old.loss → mid.plan ≡ old.plan → Improves b rs probed v w mid new → Improves b rs probed u w old new
improves_from b rs probed u v w old mid new view loss plan i = record {
  is_probed = i.is_probed;
  seat = i.seat ∙ ap (λ (x : View). told mid.loss probed x) view ∙ ap (λ (n : ℕ). told n probed u) loss;
  loss = i.loss ∙ ap (λ (n : ℕ). min n probed) loss;
  plan = subst (λ (n : ℕ). IsPlanAfter b rs n probed old.plan new.plan) loss (subst (λ (p : Option Trace). IsPlanAfter b rs mid.loss probed p new.plan) plan i.plan);
}

-- the trace of a probe has a step for each item
pub probe_long : (b : Problem) (x : PlainBox) (v : Leastings) (steps : List Step) → steps ≡ least_steps (known b x.ranges) → IsFor b x v → IsTrue (all_decided x.ranges) → IsBox x → x.frame ≡ frame_of b → length steps ≡ length b.items
probe_long b x v steps is kept whole box frame =
    ap length is ∙ ap (λ (ks : List Fixed). length (least_steps ks)) (sym kept.values) ∙ ap length (least_map (λ k. k.level) late v.steps) ∙ length-map v.steps (λ (k : Kept). least_step (late k)) ∙ whole_count b x v kept whole box frame

-- the trace that a probe finds is complete
probe_complete : (b : Problem) (x : PlainBox) → x.frame ≡ frame_of b → IsBox x → Probes b x.ranges → IsComplete b (least_steps (known b x.ranges))
probe_complete b x frame box p = whole_probed b x box frame p.decided p.meets

-- a better plan was found
pub finds_better : (b : Problem) (x : PlainBox) (v w : View) (old new : Hand) (loss : ℕ) (t : Trace) → x.frame ≡ frame_of b → IsBox x → Probes b x.ranges → loss ≡ trace_loss b (least_steps (known b x.ranges)) → loss < old.loss
    → new.loss ≡ loss → new.plan ≡ Some t → t.steps.items ≡ least_steps (known b x.ranges) → w ≡ lowered v loss → Improves b x.ranges loss v w old new
finds_better b x v w old new loss t frame box p is better same plan steps seat = record {
  is_probed = inl (p, is);
  seat = seat ∙ told_less old.loss loss v better;
  loss = omega arith;
  plan = inl (better, (t, plan, steps, subst (IsComplete b) (sym steps) (probe_complete b x frame box p)));
}

-- a box that is neither refuted nor closed by its bound is no point: a point that is not refuted is closed by its own probe
pub no_point : (b : Problem) (x : PlainBox) (seen probed loss bounded : ℕ) → x.frame ≡ frame_of b → IsBox x → 1 ≤ length b.items → ¬ IsRefuted b x.ranges → IsProbed b x.ranges probed → loss ≤ probed → bounded ≡ bound b x.ranges
    → bounded < min seen loss → ¬ IsPoint x.ranges
no_point b x seen probed loss bounded frame box some unrefuted is below bound_is less point =
    let whole = point_whole x.ranges point in
    let known_some : 1 ≤ length (known b x.ranges) =
    (let e = eqb-true (length (decided x.ranges)) (length x.ranges) whole in let s = box.each_step in let f = ap (λ f. f.items) frame in let k = known_count b x.ranges in omega arith) in
    let l : trace_loss b (least_steps (known b x.ranges)) ≤ bound b x.ranges = least_bound b x.ranges known_some in
    elim is [
      | inl found ↦ (let e = found.1 in omega arith)
      | inr none ↦ none.0 (record { not_refuted = unrefuted; decided = whole; meets = point_meets b x.ranges point unrefuted })
    ]

-- a box that is not refuted is closed rightly by what it is closed by
pub closed_as : (b : Problem) (floor told_floor : ℕ) (rs : List Ranges) (seen loss least threshold : ℕ) (cause : Cause) → told_floor ≡ floor → threshold ≡ min seen loss → ¬ IsRefuted b rs → least ≡ bound b rs
    → ClosesBy least told_floor threshold cause → IsAct b floor rs seen loss (Act.Closed cause threshold)
closed_as b floor told_floor rs seen loss least threshold (Cause.Reason r) same least_is sound is by = absurd by
closed_as b floor told_floor rs seen loss least threshold Cause.Bound same least_is sound is by = (least_is, sound, omega (arith, is, by))
closed_as b floor told_floor rs seen loss least threshold Cause.Floor same least_is sound is by = (least_is, sound, omega (arith, same, by.0), omega (arith, same, by.1), by.2)
closed_as b floor told_floor rs seen loss least threshold Cause.Unsaid same least_is sound is by = absurd by
