-- A certificate with the tree of a part in the place of each open node.
use Rattle.std.specs.Prelude.{◌≡◌, ℕ, max, List, [], ◌∷◌, ◌++◌, fold, map, sum_by, Option, IfSome, option_map}
use Rattle.std.specs.List.{AllZip}
use Rattle.std.specs.Option.{option_map_or}
use Rattle.glass_base.specs.Problem.{Problem}
use Rattle.plan_box.specs.Ranges.{Ranges}
use Rattle.cert_log.specs.declared.certificate.Certificate.{Certificate}
use Rattle.cert_log.specs.declared.certificate.Node.{Node}
use Rattle.cert_log.specs.Good.{IsFloor, IsGood, IsVersion, Reaches, lesser, version_for}
use Rattle.cert_resume.specs.OpenBoxes.{open_boxes}

-- the nodes with those of a part in the place of each open one, in their order, as long as there are parts
abbrev pub filled : List Node → List (List Node) → List Node
filled [] parts = []
filled (Node.Left ∷ nodes) (part ∷ parts) = part ++ filled nodes parts
filled (node ∷ nodes) parts = node ∷ filled nodes parts

abbrev pub nodes_in : List Certificate → List (List Node)
nodes_in parts = map (λ (p : Certificate). p.nodes.items) parts

abbrev pub bounds_of : List Certificate → List (Option ℕ)
bounds_of parts = map (λ (p : Certificate). p.bound) parts

-- the lesser of a loss and a bound; what is none is greater than every number
abbrev pub lesser_of : Option ℕ → Option ℕ → Option ℕ
lesser_of loss bound = option_map_or (lesser loss) bound loss

-- the certificate with the nodes of a part in the place of each open one, and with this floor; the open nodes are those of the parts, and
-- the bound is the least of the loss and the bounds of the parts, each raised to the floor
pub record IsJoined (c : Certificate) (parts : List Certificate) (floor : ℕ) (loss : Option ℕ) (j : Certificate) : Type 0 where
  pub version : IsVersion (max c.version (version_for floor)) j
  pub nodes_are : j.nodes.items ≡ filled c.nodes.items (nodes_in parts)
  pub loss_is : j.loss ≡ loss
  pub left_is : j.left ≡ sum_by (λ (p : Certificate). p.left) parts
  pub floor_is : j.floor ≡ floor
  pub bound_is : j.bound ≡ fold lesser_of loss (map (option_map (max floor)) (bounds_of parts))

-- a loss is no greater than another one, where there is one; none is greater than every number
abbrev pub IsAtMost : Option ℕ → Option ℕ → Type 0
IsAtMost loss other = IfSome other (Reaches loss)

-- each part is right for its box
abbrev pub AreRightParts : Problem → Option ℕ → List (List Ranges) → List Certificate → Type 0
AreRightParts b loss boxes parts = AllZip (λ rs c. IsGood b rs loss c) boxes parts

-- where the certificate is right for a box and a loss that is no less, and each part for its open box and this loss, and no lawful plan loses
-- less than the floor, what they are joined to is right for the box and this loss
abbrev pub KeepsRight : Certificate → List Certificate → Option ℕ → Certificate → Type 0
KeepsRight c parts loss j =
    (b : Problem) (rs : List Ranges) (before : Option ℕ) (good : IsGood b rs before c) → IsAtMost loss before → IsFloor b j.floor
    → AreRightParts b loss (open_boxes rs good.tree) parts → IsGood b rs loss j
