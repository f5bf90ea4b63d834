-- When a certificate is right for a box.
use Rattle.std.specs.Prelude.{◌≡◌, ℕ, ◌≤◌, ◌<◌, ◌⊎◌, ◌==◌, cond, max, min, List, [], ◌∷◌, ◌++◌, length, fold, Option, Some, None, IsTrue, All}
use Rattle.std.specs.List.{AllZip}
use Rattle.glass_base.specs.Problem.{Problem}
use Rattle.cut_model.specs.Lawful.{IsLawful}
use Rattle.cut_model.specs.Loss.{loss_of}
use Rattle.cut_model.specs.Tree.{Forest}
use Rattle.plan_box.specs.Ranges.{Ranges, PlainBox}
use Rattle.plan_box.specs.Decisions.{is_free}
use Rattle.plan_box.specs.Bounds.{bound}
use Rattle.plan_box.specs.Reasons.{IsRefuted, IsFirstReason}
use Rattle.cert_log.specs.declared.history.Cause.{Cause}
use Rattle.cert_log.specs.declared.certificate.Certificate.{Certificate}
use Rattle.cert_log.specs.declared.certificate.Node.{Node}
use Rattle.cert_log.specs.Values.{IsVersionNumber}
use Rattle.cert_log.specs.Trees.{Tree, nodes_of, FitsVersion, StepBelow}
use Rattle.cert_log.specs.Visits.{Visit, visits}

-- a number is at least the loss, and never where there is none
abbrev pub Reaches : Option ℕ → ℕ → Type 0
Reaches None n = ⊥
Reaches (Some loss) n = loss ≤ n

-- every lawful plan loses at least this
abbrev pub IsFloor : Problem → ℕ → Type 0
IsFloor b floor = (plan : Forest) → IsLawful b plan → floor ≤ loss_of b plan

-- the box may be closed for this cause, where this loss is to be beaten, and no lawful plan loses less than the floor
abbrev pub MayClose : Problem → ℕ → Option ℕ → List Ranges → Cause → Type 0
MayClose b floor loss rs (Cause.Reason r) = IsFirstReason b rs r
MayClose b floor loss rs Cause.Bound = Reaches loss (bound b rs)
MayClose b floor loss rs Cause.Floor = Reaches loss floor
MayClose b floor loss rs Cause.Unsaid = IsRefuted b rs ⊎ Reaches loss (bound b rs)

-- the node may stand at this box, where no lawful plan loses less than the floor
abbrev pub NodePasses : Problem → ℕ → Option ℕ → List Ranges → Node → Type 0
NodePasses b floor loss rs (Node.Split step v) = IsTrue (is_free rs step v)
NodePasses b floor loss rs (Node.Closed cause) = MayClose b floor loss rs cause
NodePasses b floor loss rs Node.Left = Unit {0}

-- the same of a node with its box
abbrev pub Passes : Problem → ℕ → Option ℕ → Visit → Type 0
Passes b floor loss x = NodePasses b floor loss x.ranges x.node

-- the bound of the box of an open node, raised to the floor
abbrev pub node_bounds : Problem → ℕ → List Ranges → Node → List ℕ
node_bounds b floor rs Node.Left = max floor (bound b rs) ∷ []
node_bounds b floor rs _ = []

-- the bounds of the boxes of the open nodes
abbrev pub visit_bounds : Problem → ℕ → List Visit → List ℕ
visit_bounds b floor [] = []
visit_bounds b floor (x ∷ xs) = node_bounds b floor x.ranges x.node ++ visit_bounds b floor xs

-- the lesser of a loss and a number
abbrev pub lesser : Option ℕ → ℕ → Option ℕ
lesser None n = Some n
lesser (Some m) n = Some (min m n)

-- the least of a loss and of some numbers, or none where there is neither
abbrev pub least_of : Option ℕ → List ℕ → Option ℕ
least_of loss numbers = fold lesser loss numbers

-- the certificate is right for the box, where this is the best loss that is known
pub record IsGood (b : Problem) (rs : List Ranges) (loss : Option ℕ) (c : Certificate) : Type 0 where
  pub tree : Tree
  pub nodes_are : c.nodes.items ≡ nodes_of tree
  pub loss_is : c.loss ≡ loss
  pub floor_is : IsFloor b c.floor
  pub passes : All (Passes b c.floor loss) (visits rs tree)
  pub left_is : c.left ≡ length (visit_bounds b c.floor (visits rs tree))
  pub bound_is : c.bound ≡ least_of loss (visit_bounds b c.floor (visits rs tree))

-- each certificate is right for its box
abbrev pub AreGood : Problem → Option ℕ → List PlainBox → List Certificate → Type 0
AreGood b loss xs cs = AllZip (λ x c. IsGood b x.ranges loss c) xs cs

-- the certificate has this version, its closed nodes have what that asks, and it has a floor from version 3 on
abbrev pub IsVersion : ℕ → Certificate → Type 0
IsVersion version c = (c.version ≡ version) × All (FitsVersion version) c.nodes.items × (version < 3 → c.floor ≡ 0)

-- the version of a certificate with this floor, where each closed node has its cause
abbrev pub version_for : ℕ → ℕ
version_for floor = cond (floor == 0) 2 3

-- it has this floor, and that version
abbrev pub IsVersionFor : ℕ → Certificate → Type 0
IsVersionFor floor c = IsVersion (version_for floor) c × (c.floor ≡ floor)

-- it has one of the versions
abbrev pub HasVersion : Certificate → Type 0
HasVersion c = IsVersionNumber c.version × IsVersion c.version c

-- each split of the certificate is at a step below this number
abbrev pub StepsBelow : ℕ → Certificate → Type 0
StepsBelow steps c = All (StepBelow steps) c.nodes.items

-- a certificate that is right for a box has no split at a step that the box lacks
abbrev pub GoodSteps : Type 0
GoodSteps = (b : Problem) (rs : List Ranges) (loss : Option ℕ) (c : Certificate) → IsGood b rs loss c → StepsBelow (length rs) c
