-- The walk over the nodes with a list of boxes is the walk over the tree.
use Rattle.std.proofs.Common.{◌≡◌, List, [], ◌∷◌, ◌++◌, refl, sym, ap, ◌∙◌, append_assoc}
use Rattle.std.proofs.lemmas.List.{append-nil}
use Rattle.plan_box.specs.Ranges.{Ranges}
use Rattle.plan_box.specs.Halves.{lower_half, upper_half, half_at}
use Rattle.cert_log.specs.declared.certificate.Node.{Node}
use Rattle.cert_log.specs.Trees.{Tree, halved, closed, waiting, nodes_of}
use Rattle.cert_log.specs.Visits.{Visit, visits}
use Rattle.cert_check.specs.inner.Walks.{visits_from}

-- where a tree comes next, its nodes are visited at its boxes
pub visits_tree : (tree : Tree) (rs : List Ranges) (boxes : List (List Ranges)) (later : List Node) → visits_from (rs ∷ boxes) (nodes_of tree ++ later) ≡ visits rs tree ++ visits_from boxes later
visits_tree (halved step v lower upper) rs boxes later =
    let low = half_at lower_half rs step v in let high = half_at upper_half rs step v in
    let first : Visit = record { node = Node.Split step v; ranges = rs } in
    ap (λ (xs : List Visit). first ∷ xs)
    (ap (λ (ns : List Node). visits_from (low ∷ high ∷ boxes) ns) (append_assoc (nodes_of lower) (nodes_of upper) later)
    ∙ visits_tree lower low (high ∷ boxes) (nodes_of upper ++ later)
    ∙ ap (λ (xs : List Visit). visits low lower ++ xs) (visits_tree upper high boxes later)
    ∙ sym (append_assoc (visits low lower) (visits high upper) (visits_from boxes later)))
visits_tree (closed cause) rs boxes later = refl
visits_tree waiting rs boxes later = refl

pub empty_from : (boxes : List (List Ranges)) → visits_from boxes [] ≡ []
empty_from [] = refl
empty_from (rs ∷ boxes) = refl

-- one whole tree
pub visits_whole : (tree : Tree) (rs : List Ranges) → visits_from (rs ∷ []) (nodes_of tree) ≡ visits rs tree
visits_whole tree rs =
    ap (λ (ns : List Node). visits_from (rs ∷ []) ns) (sym (append-nil (nodes_of tree))) ∙ visits_tree tree rs [] [] ∙ append-nil (visits rs tree)
