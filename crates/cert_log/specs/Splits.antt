-- Which boxes a certificate splits.
use Rattle.std.specs.Prelude.{◌≡◌, ◌<◌, ◌≤◌, ◌+◌, ◌*◌, ◌^◌, ℕ, List, length, count_by, not, All}
use Rattle.std.specs.List.{AllZip}
use Rattle.glass_base.specs.Problem.{Problem, IsProblem}
use Rattle.cut_model.specs.Lawful.{IsLawful}
use Rattle.cut_model.specs.Loss.{loss_of}
use Rattle.cut_model.specs.Tree.{Forest}
use Rattle.plan_box.specs.Bounds.{bound}
use Rattle.plan_box.specs.Frames.{frame_of}
use Rattle.plan_box.specs.Halves.{IsDepth}
use Rattle.plan_box.specs.Ranges.{PlainBox, Ranges, root_of}
use Rattle.plan_box.specs.Reasons.{IsRefuted}
use Rattle.cert_log.specs.declared.certificate.Certificate.{Certificate}
use Rattle.cert_log.specs.declared.certificate.Node.{Node}
use Rattle.cert_log.specs.Good.{IsGood, Reaches}
use Rattle.cert_log.specs.Outcomes.{IsHead}
use Rattle.cert_log.specs.Texts.{cert_text, head_of}
use Rattle.cert_log.specs.Trees.{Tree, nodes_of, is_left}
use Rattle.cert_log.specs.Visits.{Visit, visits}
use Rattle.std.specs.Prelude.{Option}

-- where this node splits the box, it is not refuted, and its bound is below the loss that is to be beaten
abbrev pub NodeSplitsRightly : Problem → ℕ → List Ranges → Node → Type 0
NodeSplitsRightly b to_beat rs (Node.Split step v) = ¬ IsRefuted b rs × (bound b rs < to_beat)
NodeSplitsRightly b to_beat rs _ = Unit {0}

-- a box that is split is not refuted, and its bound is below the loss that is to be beaten
abbrev pub SplitsRightly : Problem → ℕ → Visit → Type 0
SplitsRightly b to_beat x = NodeSplitsRightly b to_beat x.ranges x.node

-- the certificate splits no other boxes, walking it from this box
pub record IsSearched (b : Problem) (to_beat : ℕ) (rs : List Ranges) (c : Certificate) : Type 0 where
  pub tree : Tree
  pub nodes_are : c.nodes.items ≡ nodes_of tree
  pub splits : All (SplitsRightly b to_beat) (visits rs tree)

-- each certificate, walking it from its box
abbrev pub AreSearched : Problem → ℕ → List PlainBox → List Certificate → Type 0
AreSearched b to_beat xs cs = AllZip (λ x c. IsSearched b to_beat x.ranges c) xs cs

-- a certificate that is right for the box of all plans bounds the loss of each lawful plan; without a bound there is none
abbrev pub BoundsEachPlan : Type 0
BoundsEachPlan =
    (b : Problem) (id : ℕ) (loss : Option ℕ) (c : Certificate) → IsProblem b → IsGood b (root_of (frame_of b) id).ranges loss c
    → (plan : Forest) → IsLawful b plan → Reaches c.bound (loss_of b plan)

-- a certificate that is right for the box of all plans has no more nodes than a full tree of the frame's depth
abbrev pub IsNoLargerThanFull : Type 0
IsNoLargerThanFull =
    (b : Problem) (id depth : ℕ) (loss : Option ℕ) (c : Certificate) → IsDepth (frame_of b) depth
    → IsGood b (root_of (frame_of b) id).ranges loss c → length c.nodes.items < 2 ^ (depth + 1)

-- the text of a certificate that is right for the box of all plans has at most twelve bytes for each box that was closed or split, and 100
abbrev pub HaveShortTexts : Type 0
HaveShortTexts =
    (b : Problem) (loss : Option ℕ) (c : Certificate) → IsProblem b → IsGood b (root_of (frame_of b) 0).ranges loss c → 2 ≤ c.version → IsHead (head_of c)
    → length (cert_text c) ≤ 12 * count_by (λ node. not (is_left node)) c.nodes.items + 100
