-- The nodes of a tree, each with its box.
use Rattle.std.specs.Prelude.{List, [], ◌∷◌, ◌++◌}
use Rattle.plan_box.specs.Ranges.{Ranges}
use Rattle.plan_box.specs.Halves.{lower_half, upper_half, half_at}
use Rattle.cert_log.specs.declared.certificate.Node.{Node}
use Rattle.cert_log.specs.Trees.{Tree, halved, closed, waiting}

-- a node with its box
pub record Visit : Type 0 where
  pub node : Node
  pub ranges : List Ranges

-- the nodes of the tree in pre-order, each with its box, where the first has this one
abbrev pub visits : List Ranges → Tree → List Visit
visits rs (halved step v lower upper) =
    record { node = Node.Split step v; ranges = rs } ∷ (visits (half_at lower_half rs step v) lower ++ visits (half_at upper_half rs step v) upper)
visits rs (closed cause) = record { node = Node.Closed cause; ranges = rs } ∷ []
visits rs waiting = record { node = Node.Left; ranges = rs } ∷ []
