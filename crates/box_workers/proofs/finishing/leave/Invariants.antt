use Rattle.std.proofs.Common.{◌≡◌, ◌+◌, ℕ, All, length}
use Rattle.std.specs.Prelude.{sum_by}
use Rattle.plan_box.specs.Ranges.{PlainBox}
use Rattle.plan_box.specs.Frames.{frame_of}
use Rattle.box_bound.specs.Leastings.{IsOf}
use Rattle.cert_log.specs.declared.history.Left.{Left}
use Rattle.box_workers.specs.inner.Teamwork.{HaveBounds}
use Rattle.box_workers.proofs.finishing.leave.Given as goal

abbrev pub invariant-loop-bx : goal.invariant-loop-bx
invariant-loop-bx l = record {
  leasts : IsOf l.instance l.leasts;
  frames : All (λ (x : PlainBox). x.frame ≡ frame_of l.instance) l.waiting.items;
  weighs : (h : PlainBox → ℕ) → sum_by (λ (x : Left). h x.bx) l.left.items + sum_by h l.waiting.items ≡ sum_by (λ (x : Left). h x.bx) l.initial.left.items + sum_by h l.initial.waiting.items;
  bounds : HaveBounds l.instance l.left.items;
}

abbrev pub decreases-loop-bx : goal.decreases-loop-bx
decreases-loop-bx l = length l.waiting.items
