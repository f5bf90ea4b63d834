-- Nodes whose causes are named one after the other.
use Rattle.std.specs.Prelude.{◌≡◌, ℕ, List}
use Rattle.std.specs.List.{AllZip}
use Rattle.glass_base.specs.Problem.{Problem}
use Rattle.plan_box.specs.Ranges.{Ranges}
use Rattle.cert_log.specs.declared.certificate.Node.{Node}
use Rattle.cert_log.specs.declared.history.Cause.{Cause}
use Rattle.cert_log.specs.Visits.{Visit}
use Rattle.cert_check.specs.Causes.{IsNamed}
use Rattle.cert_check.specs.inner.Walks.{HasCome}

-- the second node is the first one with its cause named, where that stands at this box
abbrev pub IsNamedNode : Problem → List Ranges → Node → Node → Type 0
IsNamedNode b rs (Node.Split step v) named = named ≡ Node.Split step v
IsNamedNode b rs (Node.Closed cause) named = (true_cause : Cause) × IsNamed b rs cause true_cause × (named ≡ Node.Closed true_cause)
IsNamedNode b rs Node.Left named = named ≡ Node.Left

-- the same of a node with its box
abbrev pub IsNamedAt : Problem → Visit → Node → Type 0
IsNamedAt b x named = IsNamedNode b x.ranges x.node named

-- the first nodes are walked and named, and these boxes wait
pub record IsNaming (b : Problem) (root : List Ranges) (nodes : List Node) (k : ℕ) (boxes : List (List Ranges)) (named : List Node) : Type 0 where
  pub done : List Visit
  pub come : HasCome root nodes k boxes done
  pub are_named : AllZip (IsNamedAt b) done named
