-- A walk over the nodes of a certificate.
use Rattle.std.specs.Prelude.{◌≡◌, ℕ, ◌+◌, List, [], ◌∷◌, ◌++◌, length, map, take, drop, fold, cond, Bool, false, ◌&&◌, not, ◌==◌, Option, Some, None, All, IsTrue, ◌≤◌, ◌≢◌, ◌⊎◌}
use Rattle.glass_base.specs.Problem.{Problem}
use Rattle.plan_box.specs.Ranges.{Ranges}
use Rattle.plan_box.specs.Decisions.{is_free}
use Rattle.cert_log.specs.declared.certificate.Certificate.{Certificate}
use Rattle.cert_log.specs.declared.certificate.Node.{Node}
use Rattle.cert_log.specs.Good.{Passes, node_bounds, visit_bounds, lesser, least_of, IsFloor}
use Rattle.cert_log.specs.Texts.{lines_of}
use Rattle.cert_log.specs.Trees.{is_left}
use Rattle.cert_log.specs.Visits.{Visit}
use Rattle.cert_check.specs.declared.verdict.Verdict.{Verdict}
use Rattle.cert_check.specs.declared.verdict.Why.{Why}
use Rattle.cert_check.specs.declared.walk.NodeCounts.{NodeCounts}
use Rattle.cert_check.specs.declared.walk.Walked.{Walked}
use Rattle.cert_check.specs.declared.walk.TextPlace.{TextPlace}
use Rattle.plan_box.specs.Halves.{lower_half, upper_half, half_at}
use Rattle.cert_check.specs.Faults.{IsFloorFault, IsNodeFault}

-- the boxes that wait behind a node: its halves come first
abbrev pub boxes_after : Node → List Ranges → List (List Ranges) → List (List Ranges)
boxes_after (Node.Split step v) rs boxes = half_at lower_half rs step v ∷ half_at upper_half rs step v ∷ boxes
boxes_after (Node.Closed cause) rs boxes = boxes
boxes_after Node.Left rs boxes = boxes

-- the same nodes one after the other, where these boxes wait
abbrev pub visits_from : List (List Ranges) → List Node → List Visit
visits_from boxes [] = []
visits_from [] (n ∷ ns) = []
visits_from (rs ∷ boxes) (n ∷ ns) = record { node = n; ranges = rs } ∷ visits_from (boxes_after n rs boxes) ns

-- the last node is open
abbrev pub ends_open : List Node → Bool
ends_open [] = false
ends_open (n ∷ []) = is_left n
ends_open (n ∷ m ∷ ns) = ends_open (m ∷ ns)

-- a node behind others begins no line of its own: it joins an open node in version 2
abbrev pub joins : ℕ → Bool → Node → Bool
joins version after_open n = not (version == 1) && (after_open && is_left n)

-- a node behind which the walk can go on: a split is of a free variable
abbrev pub MayGo : List Ranges → Node → Type 0
MayGo rs (Node.Split step v) = IsTrue (is_free rs step v)
MayGo rs (Node.Closed cause) = Unit {0}
MayGo rs Node.Left = Unit {0}

-- the place behind one more node
pub record Reads (version : ℕ) (n : Node) (old new : TextPlace) : Type 0 where
  pub line : new.line ≡ cond (joins version old.after_open n) old.line (old.line + 1)
  pub after_open : new.after_open ≡ is_left n
  pub few : new.line ≤ old.line + 1

-- what is counted behind one more node at its box
pub record Counts (b : Problem) (floor : ℕ) (n : Node) (rs : List Ranges) (old new : NodeCounts) : Type 0 where
  pub least : new.least ≡ fold lesser old.least (node_bounds b floor rs n)
  pub left : new.left ≡ old.left + length (node_bounds b floor rs n)
  pub few : new.left ≤ old.left + 1

-- the first nodes are walked, each at the box of its visit, and these boxes wait
pub record HasCome (root : List Ranges) (nodes : List Node) (k : ℕ) (boxes : List (List Ranges)) (done : List Visit) : Type 0 where
  pub visits_are : visits_from (root ∷ []) nodes ≡ done ++ visits_from boxes (drop k nodes)
  pub nodes_are : map (λ x. x.node) done ≡ take k nodes

-- the first nodes are walked and may stand at their boxes, and these boxes wait
pub record IsWalking (b : Problem) (root : List Ranges) (loss : Option ℕ) (c : Certificate) (k : ℕ) (boxes : List (List Ranges)) (place : TextPlace) (tally : NodeCounts) : Type 0 where
  pub done : List Visit
  pub come : HasCome root c.nodes.items k boxes done
  pub passed : All (Passes b c.floor loss) done
  pub least : tally.least ≡ least_of loss (visit_bounds b c.floor done)
  pub left : tally.left ≡ length (visit_bounds b c.floor done)
  pub line : place.line ≡ 1 + length (lines_of c.version (take k c.nodes.items))
  pub after_open : place.after_open ≡ ends_open (take k c.nodes.items)

-- what a walk from this box finds
abbrev pub Finds : Problem → List Ranges → Option ℕ → Certificate → Walked → Type 0
Finds b root loss c (Walked.Whole tally) =
    All (Passes b c.floor loss) (visits_from (root ∷ []) c.nodes.items)
    × (tally.least ≡ least_of loss (visit_bounds b c.floor (visits_from (root ∷ []) c.nodes.items)))
    × (tally.left ≡ length (visit_bounds b c.floor (visits_from (root ∷ []) c.nodes.items)))
Finds b root loss c (Walked.Fault line why) = IsNodeFault b loss c (visits_from (root ∷ []) c.nodes.items) line why

-- what is said of what was counted
abbrev pub Closes : Certificate → NodeCounts → Option Why → Type 0
Closes c tally None = (c.left ≡ tally.left) × (c.bound ≡ tally.least)
Closes c tally (Some why) =
    ((c.left ≢ tally.left) × (why ≡ Why.WrongOpen c.left tally.left))
    ⊎ ((c.left ≡ tally.left) × (c.bound ≢ tally.least) × (why ≡ Why.WrongBound c.bound tally.least))

-- what is answered to a floor, where all else is right
abbrev pub JudgesFloor : Problem → Certificate → Verdict → Type 0
JudgesFloor b c (Verdict.Accept bound left) = IsFloor b c.floor × (bound ≡ c.bound) × (left ≡ c.left)
JudgesFloor b c (Verdict.Refuse line why) = IsFloorFault b c line why
