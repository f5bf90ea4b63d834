-- The boxes that a certificate leaves open.
use Rattle.std.specs.Prelude.{◌≡◌, ℕ, ◌+◌, List, [], ◌∷◌, ◌++◌, IsTrue}
use Rattle.glass_base.specs.Problem.{Problem}
use Rattle.plan_box.specs.declared.frame.Frame.{Frame}
use Rattle.plan_box.specs.Decisions.{is_free}
use Rattle.plan_box.specs.Frames.{frame_of}
use Rattle.plan_box.specs.Halves.{lower_half, upper_half, half_at}
use Rattle.plan_box.specs.Ranges.{PlainBox, Ranges, root_of}
use Rattle.cert_log.specs.declared.certificate.Certificate.{Certificate}
use Rattle.cert_log.specs.declared.certificate.Node.{Node}
use Rattle.cert_log.specs.Trees.{Tree, halved, closed, waiting, nodes_of}

-- the boxes of the open nodes in pre-order, walking the tree from the box
abbrev pub open_boxes : List Ranges → Tree → List (List Ranges)
open_boxes rs (halved step v lower upper) = open_boxes (half_at lower_half rs step v) lower ++ open_boxes (half_at upper_half rs step v) upper
open_boxes rs (closed cause) = []
open_boxes rs waiting = rs ∷ []

-- walking the tree from the box, each split is of a free variable
abbrev pub SplitsFree : List Ranges → Tree → Type 0
SplitsFree rs (halved step v lower upper) =
    IsTrue (is_free rs step v) × SplitsFree (half_at lower_half rs step v) lower × SplitsFree (half_at upper_half rs step v) upper
SplitsFree rs (closed cause) = Unit {0}
SplitsFree rs waiting = Unit {0}

-- the nodes are one whole tree, and walking it from the box, each split is of a free variable
pub record CanBeWalked (rs : List Ranges) (nodes : List Node) : Type 0 where
  pub tree : Tree
  pub nodes_are : nodes ≡ nodes_of tree
  pub free : SplitsFree rs tree

-- boxes of these ranges, with the identities from this one on
abbrev pub numbered_from : Frame → ℕ → List (List Ranges) → List PlainBox
numbered_from f n [] = []
numbered_from f n (rs ∷ boxes) = record { id = n; frame = f; ranges = rs } ∷ numbered_from f (n + 1) boxes

-- the boxes that a tree of splits from the box of all plans leaves open, with the identities from 0 on
abbrev pub left_boxes_of : Problem → Tree → List PlainBox
left_boxes_of b tree = numbered_from (frame_of b) 0 (open_boxes (root_of (frame_of b) 0).ranges tree)

-- these are the boxes that the certificate leaves open
abbrev pub AreLeftBoxes : Problem → Certificate → List PlainBox → Type 0
AreLeftBoxes b c boxes = (tree : Tree) → c.nodes.items ≡ nodes_of tree → boxes ≡ left_boxes_of b tree
