-- The nodes that grow from a lawful history are those of its version, at steps of the instance.
use Rattle.std.proofs.Common.{Option, ◌≡◌, ℕ, suc, ◌<◌, ◌≤◌, ◌==◌, Bool, true, false, cond, eqb-true, List, [], ◌++◌, length, refl, ◌∙◌, arith}
use Rattle.std.specs.Prelude.{All}
use Rattle.std.specs.List.{Contains}
use Rattle.std.proofs.lemmas.List.Elements.{All-cons, All-nil, All-append, All-same}
use Rattle.glass_base.specs.Problem.{Problem}
use Rattle.plan_box.specs.Ranges.{Ranges, PlainBox}
use Rattle.plan_box.specs.Halves.{lower_half, upper_half, half_at, child_of}
use Rattle.plan_box.proofs.Shared.{free_inside, half_count}
use Rattle.cert_log.specs.declared.history.Cause.{Cause}
use Rattle.cert_log.specs.declared.history.Act.{Act}
use Rattle.cert_log.specs.declared.history.History.{History}
use Rattle.cert_log.specs.declared.certificate.Node.{Node}
use Rattle.cert_log.specs.Good.{GoodSteps, version_for}
use Rattle.cert_log.specs.Trees.{Tree, halved, closed, waiting, nodes_of, FitsVersion, StepBelow}
use Rattle.cert_log.specs.Levels.{lower_id, upper_id}
use Rattle.cert_log.specs.Lawful.{Course, level_of, ClosedFor, IsLawful}
use Rattle.cert_log.specs.inner.Growth.{Twig, forks, ends, waits, bare, Grows}
use Rattle.cert_log.proofs.Standing.{handled_as, lower_in, upper_in}
use Rattle.cert_log.proofs.Versions.{three, two_or_three}
use Rattle.cert_log.proofs.Walked.{Stands, good_stands}

-- each split of a tree that is right for a box is at a step of the box
stands_below : (b : Problem) (floor : ℕ) (loss : Option ℕ) (rs : List Ranges) (steps : ℕ) (t : Tree) → length rs ≡ steps → Stands b floor loss rs t → All (StepBelow steps) (nodes_of t)
stands_below b floor loss rs steps (halved step v lower upper) len st =
    let f = free_inside [] rs step v st.0 in
    All-cons (StepBelow steps) (Node.Split step v) (nodes_of lower ++ nodes_of upper) (omega arith)
    (All-append (StepBelow steps) (nodes_of lower) (nodes_of upper)
    (stands_below b floor loss (half_at lower_half rs step v) steps lower (half_count lower_half rs step v ∙ len) st.1)
    (stands_below b floor loss (half_at upper_half rs step v) steps upper (half_count upper_half rs step v ∙ len) st.2))
stands_below b floor loss rs steps (closed cause) len st = All-cons (StepBelow steps) (Node.Closed cause) [] tt (All-nil (StepBelow steps))
stands_below b floor loss rs steps waiting len st = All-cons (StepBelow steps) Node.Left [] tt (All-nil (StepBelow steps))

pub good_steps : GoodSteps
good_steps b rs loss c g =
    All-same (StepBelow (length rs)) c.nodes.items (nodes_of g.tree) g.nodes_are
    (stands_below b c.floor loss rs (length rs) g.tree refl (good_stands b rs loss c g))

closed_fits : (b : Problem) (floor threshold : ℕ) (rs : List Ranges) (cause : Cause) → ClosedFor b floor threshold rs cause → FitsVersion (version_for floor) (Node.Closed cause)
closed_fits b floor threshold rs Cause.Unsaid c = absurd c
closed_fits b floor threshold rs Cause.Floor c = three floor c.0
closed_fits b floor threshold rs (Cause.Reason r) c = two_or_three floor
closed_fits b floor threshold rs Cause.Bound c = two_or_three floor

module _ (b : Problem) (s : Course) (h : History) (lawful : IsLawful b s h) where
  pub grown_fits : (n : ℕ) (x : PlainBox) (t : Twig) → Contains (level_of s h n) x → Grows h x.id t → All (FitsVersion (version_for h.floor)) (nodes_of (bare t))
  grown_fits n x (forks m step v lower upper) at g =
      All-cons (FitsVersion (version_for h.floor)) (Node.Split step v) (nodes_of (bare lower) ++ nodes_of (bare upper)) tt
      (All-append (FitsVersion (version_for h.floor)) (nodes_of (bare lower)) (nodes_of (bare upper))
      (grown_fits (suc n) (child_of lower_half x step v (lower_id h.starts m.ticket)) lower (lower_in b s h lawful n x m step v at g.0 g.1 g.2) g.3)
      (grown_fits (suc n) (child_of upper_half x step v (upper_id h.starts m.ticket)) upper (upper_in b s h lawful n x m step v at g.0 g.1 g.2) g.4))
  grown_fits n x (ends m threshold cause) at g =
      All-cons (FitsVersion (version_for h.floor)) (Node.Closed cause) [] (closed_fits b h.floor threshold x.ranges cause (handled_as b s h lawful n x m (Act.Closed cause threshold) at g.0 g.1 g.2).0) (All-nil (FitsVersion (version_for h.floor)))
  grown_fits n x (waits l) at g = All-cons (FitsVersion (version_for h.floor)) Node.Left [] tt (All-nil (FitsVersion (version_for h.floor)))
