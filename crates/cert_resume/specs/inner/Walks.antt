-- A walk over nodes, where some boxes wait.
use Rattle.std.specs.Prelude.{◌≡◌, ℕ, List, [], ◌∷◌, ◌++◌, length, IsTrue, All}
use Rattle.plan_box.specs.declared.frame.Frame.{Frame}
use Rattle.plan_box.specs.Decisions.{is_free}
use Rattle.plan_box.specs.Halves.{lower_half, upper_half, half_at, child_of}
use Rattle.plan_box.specs.Ranges.{PlainBox, Ranges}
use Rattle.cert_log.specs.declared.certificate.Node.{Node}
use Rattle.cert_resume.specs.OpenBoxes.{numbered_from}

-- a node behind which the walk can go on: a split is of a free variable
abbrev pub MayPass : List Ranges → Node → Type 0
MayPass rs (Node.Split step v) = IsTrue (is_free rs step v)
MayPass rs (Node.Closed cause) = Unit {0}
MayPass rs Node.Left = Unit {0}

-- the boxes that wait behind a node at its box, the next one last
abbrev pub boxes_behind : Node → PlainBox → List PlainBox
boxes_behind (Node.Split step v) x = child_of upper_half x step v 0 ∷ child_of lower_half x step v 0 ∷ []
boxes_behind (Node.Closed cause) x = []
boxes_behind Node.Left x = []

-- the box of an open node, with this identity
abbrev pub left_at : ℕ → Node → PlainBox → List PlainBox
left_at id (Node.Split step v) x = []
left_at id (Node.Closed cause) x = []
left_at id Node.Left x = record x { id = id } ∷ []

-- the ranges of boxes that wait, the last one first
abbrev pub ahead : List PlainBox → List (List Ranges)
ahead [] = []
ahead (x ∷ xs) = ahead xs ++ x.ranges ∷ []

-- the nodes can be walked from these boxes on: each stands at one, and each split is of a free variable
abbrev pub MayWalk : List (List Ranges) → List Node → Type 0
MayWalk boxes [] = Unit {0}
MayWalk [] (n ∷ nodes) = ⊥
MayWalk (rs ∷ boxes) (Node.Split step v ∷ nodes) =
    IsTrue (is_free rs step v) × MayWalk (half_at lower_half rs step v ∷ half_at upper_half rs step v ∷ boxes) nodes
MayWalk (rs ∷ boxes) (Node.Closed cause ∷ nodes) = MayWalk boxes nodes
MayWalk (rs ∷ boxes) (Node.Left ∷ nodes) = MayWalk boxes nodes

-- the boxes of the open ones among these nodes, walking them from these boxes on
abbrev pub open_from : List (List Ranges) → List Node → List (List Ranges)
open_from boxes [] = []
open_from [] (n ∷ nodes) = []
open_from (rs ∷ boxes) (Node.Split step v ∷ nodes) = open_from (half_at lower_half rs step v ∷ half_at upper_half rs step v ∷ boxes) nodes
open_from (rs ∷ boxes) (Node.Closed cause ∷ nodes) = open_from boxes nodes
open_from (rs ∷ boxes) (Node.Left ∷ nodes) = rs ∷ open_from boxes nodes

-- the walk has come to these nodes: these boxes wait and these are found, of all that are to be found
pub record HasCome (f : Frame) (all : List PlainBox) (nodes : List Node) (waiting boxes : List PlainBox) : Type 0 where
  pub frames : All (λ (x : PlainBox). x.frame ≡ f) waiting
  pub may : MayWalk (ahead waiting) nodes
  pub found : boxes ++ numbered_from f (length boxes) (open_from (ahead waiting) nodes) ≡ all
