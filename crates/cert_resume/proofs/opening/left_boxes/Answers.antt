use Rattle.std.proofs.Common.{◌≡◌, ◌<◌, ◌+◌, List, [], ◌∷◌, ◌++◌, length, drop, get_or, refl, sym, ap, ◌∙◌, subst, arith, All}
use Rattle.std.specs.Prelude.{count_by}
use Rattle.std.proofs.lemmas.List.{drop_more}
use Rattle.plan_box.specs.declared.frame.Frame.{Frame}
use Rattle.plan_box.specs.declared.var.Var.{Var}
use Rattle.plan_box.specs.Frames.{frame_of}
use Rattle.plan_box.specs.Ranges.{PlainBox, Ranges, root_of}
use Rattle.cert_log.specs.declared.certificate.Node.{Node}
use Rattle.cert_log.specs.Lawful.{numbered}
use Rattle.cert_log.specs.Trees.{Tree, is_left, nodes_of}
use Rattle.cert_resume.specs.OpenBoxes.{numbered_from, open_boxes}
use Rattle.cert_resume.specs.inner.Walks.{HasCome, open_from}
use Rattle.cert_resume.proofs.Numbered.{are_numbered, as_many, have_frame, one_for_each}
use Rattle.cert_resume.proofs.Walking.{found_all, its_frame, may_next, open_whole, popped, starts, waits, walks}
use Rattle.cert_resume.proofs.opening.left_boxes.Goals as goal
use Rattle.cert_resume.proofs.opening.left_boxes.Goals.{In-loop-node}

-- what is read behind the last node
abbrev no_node : Node
no_node = Node.Split 0 Var.Stack

-- all boxes that are to be found
abbrev all_of : Frame → List Node → List PlainBox
all_of f nodes = numbered_from f 0 (open_from ((root_of f 0).ranges ∷ []) nodes)

pub loop-node-init : goal.loop-node-init
loop-node-init c =
    let f = frame_of c.args.instance.now in
    subst (λ (xs : List PlainBox). HasCome f (all_of f c.args.cert.now.nodes.items) c.args.cert.now.nodes.items c.append.new.run.items xs) (sym c.new.ensures)
    (starts f c.args.cert.now.nodes.items c.append.new.run.items
    (c.in_ok-append.ensures.ok ∙ ap (λ (xs : List PlainBox). xs ++ c.in_ok-root.field-0 ∷ []) c.new-waiting.ensures ∙ ap (λ (x : PlainBox). x ∷ []) c.in_ok-root.ensures) c.requires)

within : (c : In-loop-node) → c.loop-node.node-index < length c.args.cert.now.nodes.items
within c = let e = ap (λ (ns : List Node). length ns) c.as_slice-node-items.ensures in let t = c.loop-node-test.true in omega arith

-- the node at hand
abbrev node_here : In-loop-node → Node
node_here c = get_or c.as_slice-node-items.result.now c.loop-node.node-index no_node

-- the nodes behind it
abbrev behind : In-loop-node → List Node
behind c = drop (c.loop-node.node-index + 1) c.args.cert.now.nodes.items

abbrev frame : In-loop-node → Frame
frame c = frame_of c.args.instance.now

abbrev all : In-loop-node → List PlainBox
all c = all_of (frame c) c.args.cert.now.nodes.items

comes : (c : In-loop-node) → HasCome (frame c) (all c) (node_here c ∷ behind c) c.loop-node.boxes.waiting.items c.loop-node.boxes.left.items
comes c =
    subst (λ (ns : List Node). HasCome (frame c) (all c) ns c.loop-node.boxes.waiting.items c.loop-node.boxes.left.items)
    (drop_more c.args.cert.now.nodes.items c.loop-node.node-index no_node (within c) ∙ ap (λ (ns : List Node). get_or ns c.loop-node.node-index no_node ∷ behind c) (sym c.as_slice-node-items.ensures))
    c.loop-node.invariant

-- with the box that was taken
taken : (c : In-loop-node) (before : List PlainBox) (x : PlainBox) → c.loop-node.boxes.waiting.items ≡ before ++ x ∷ [] → HasCome (frame c) (all c) (node_here c ∷ behind c) (before ++ x ∷ []) c.loop-node.boxes.left.items
taken c before x e = popped (frame c) (all c) (node_here c ∷ behind c) c.loop-node.boxes.waiting.items before x c.loop-node.boxes.left.items (comes c) e

pub unreachable-requires : goal.unreachable-requires
unreachable-requires c =
    let k = (goal.at.unreachable-requires c).In-loop-node in
    waits (frame k) (all k) (node_here k) (behind k) c.loop-node.boxes.waiting.items c.loop-node.boxes.left.items (comes k) (c.in_default.ensures.empty.0 refl)

pub pass-requires-clause-frame : goal.pass-requires-clause-frame
pass-requires-clause-frame c =
    let k = (goal.at.pass-requires-clause-frame c).In-loop-node in
    its_frame (frame k) (all k) (node_here k) (behind k) c.pop.new.self.items c.in-Some.bx c.loop-node.boxes.left.items (taken k c.pop.new.self.items c.in-Some.bx c.in-Some.ensures.last)

pub pass-requires-clause-may : goal.pass-requires-clause-may
pass-requires-clause-may c =
    let k = (goal.at.pass-requires-clause-may c).In-loop-node in
    may_next (frame k) (all k) (node_here k) (behind k) c.pop.new.self.items c.in-Some.bx c.loop-node.boxes.left.items (taken k c.pop.new.self.items c.in-Some.bx c.in-Some.ensures.last)

pub loop-node-preserved : goal.loop-node-preserved
loop-node-preserved c =
    let k = (goal.at.loop-node-preserved c).In-loop-node in
    walks (frame k) (all k) (node_here k) (behind k) c.pop.new.self.items c.in-Some.bx c.loop-node.boxes.left.items c.pass.new.self.waiting.items c.pass.new.self.left.items
    (taken k c.pop.new.self.items c.in-Some.bx c.in-Some.ensures.last) c.in_ok-pass.ensures.waiting c.in_ok-pass.ensures.left

-- all boxes are those of each tree that the nodes are
of_tree : (f : Frame) (nodes : List Node) (tree : Tree) → nodes ≡ nodes_of tree → all_of f nodes ≡ numbered_from f 0 (open_boxes (root_of f 0).ranges tree)
of_tree f nodes tree is = ap (λ (boxes : List (List Ranges)). numbered_from f 0 boxes) (open_whole (root_of f 0).ranges nodes tree is)

pub returns-clause-boxes : goal.returns-clause-boxes
returns-clause-boxes c = λ tree is.
    let f = frame_of c.args.instance.now in let nodes = c.args.cert.now.nodes.items in
    let e = ap (λ (ns : List Node). length ns) c.as_slice-node-items.ensures in let t = c.loop-node-test.false in
    found_all f (all_of f nodes) nodes c.loop-node.node-index c.loop-node.boxes.waiting.items c.loop-node.boxes.left.items c.loop-node.invariant (omega arith) ∙ of_tree f nodes tree is

pub returns-clause-ids : goal.returns-clause-ids
returns-clause-ids c =
    let f = frame_of c.args.instance.now in let nodes = c.args.cert.now.nodes.items in
    let e = ap (λ (ns : List Node). length ns) c.as_slice-node-items.ensures in let t = c.loop-node-test.false in
    subst (numbered 0) (sym (found_all f (all_of f nodes) nodes c.loop-node.node-index c.loop-node.boxes.waiting.items c.loop-node.boxes.left.items c.loop-node.invariant (omega arith)))
    (are_numbered f 0 (open_from ((root_of f 0).ranges ∷ []) nodes))

pub returns-clause-frames : goal.returns-clause-frames
returns-clause-frames c =
    let f = frame_of c.args.instance.now in let nodes = c.args.cert.now.nodes.items in
    let e = ap (λ (ns : List Node). length ns) c.as_slice-node-items.ensures in let t = c.loop-node-test.false in
    subst (All (λ (x : PlainBox). x.frame ≡ f)) (sym (found_all f (all_of f nodes) nodes c.loop-node.node-index c.loop-node.boxes.waiting.items c.loop-node.boxes.left.items c.loop-node.invariant (omega arith)))
    (have_frame f 0 (open_from ((root_of f 0).ranges ∷ []) nodes))

pub returns-clause-count : goal.returns-clause-count
returns-clause-count c =
    let f = frame_of c.args.instance.now in let nodes = c.args.cert.now.nodes.items in let tree = c.requires.tree in
    let e = ap (λ (ns : List Node). length ns) c.as_slice-node-items.ensures in let t = c.loop-node-test.false in
    ap (λ (xs : List PlainBox). length xs) (found_all f (all_of f nodes) nodes c.loop-node.node-index c.loop-node.boxes.waiting.items c.loop-node.boxes.left.items c.loop-node.invariant (omega arith) ∙ of_tree f nodes tree c.requires.nodes_are)
    ∙ as_many f 0 (open_boxes (root_of f 0).ranges tree) ∙ one_for_each (root_of f 0).ranges tree ∙ ap (λ (ns : List Node). count_by is_left ns) (sym c.requires.nodes_are)
