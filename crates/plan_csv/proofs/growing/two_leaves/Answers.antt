use Rattle.std.proofs.Common.{◌≡◌, ◌+◌, ◌∙◌, length, ap, arith, All}
use Rattle.plan_csv.specs.PlanTexts.{grown}
use Rattle.plan_csv.specs.inner.ReadNodes.{IsPiece}
use Rattle.plan_csv.proofs.GrownRows.{two_children, two_grown}
use Rattle.plan_csv.proofs.growing.two_leaves.Goals as goal

pub bounds-children-0 : goal.bounds-children-0
bounds-children-0 c =
    let two : length c.children_of-children.result.now ≡ 2 =
    ap length c.children_of-children.ensures.are
    ∙ two_children c.args.nodes.now.rows.items c.args.row.now c.requires.cells c.requires.piece.known c.requires.piece.cut c.requires.branch in
    omega arith

pub bounds-children-1 : goal.bounds-children-1
bounds-children-1 c =
    let two : length c.children_of-children.result.now ≡ 2 =
    ap length c.children_of-children.ensures.are
    ∙ two_children c.args.nodes.now.rows.items c.args.row.now c.requires.cells c.requires.piece.known c.requires.piece.cut c.requires.branch in
    omega arith

pub returns-clause-inner : goal.returns-clause-inner
returns-clause-inner c =
    let two : length c.children_of-children.result.now ≡ 2 =
    ap length c.children_of-children.ensures.are
    ∙ two_children c.args.nodes.now.rows.items c.args.row.now c.requires.cells c.requires.piece.known c.requires.piece.cut c.requires.branch in
    let level : c.args.row.now.cut + 1 ≡ 4 = ap (λ n. n + 1) c.requires.piece.cut in
    let pieces : All (IsPiece c.args.nodes.now.rows.items 4) c.children_of-children.result.now = rw level at c.children_of-children.ensures.pieces in
    two_grown c.args.nodes.now.rows.items c.children_of-children.result.now _ c.leaf_of.result.height c.leaf_of-2.result.height _ _ two pieces
    c.leaf_of.ensures.size c.leaf_of.ensures.sort c.leaf_of-2.ensures.size c.leaf_of-2.ensures.sort
    ∙ ap (λ rows. grown 0 c.args.nodes.now.rows.items rows) c.children_of-children.ensures.are
