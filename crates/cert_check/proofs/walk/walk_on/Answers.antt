use Rattle.std.proofs.Common.{rules, ◌≡◌, ◌≢◌, [], ◌<◌, List, length, get_or, sym, ap, ◌∙◌, subst, arith, All}
use Rattle.plan_box.specs.Frames.{frame_of}
use Rattle.plan_box.specs.Ranges.{root_of}
use Rattle.plan_box.specs.declared.var.Var.{Var}
use Rattle.cert_log.specs.declared.certificate.Node.{Node}
use Rattle.cert_log.specs.Good.{NodePasses, Passes, visit_bounds, least_of}
use Rattle.cert_log.specs.Visits.{Visit}
use Rattle.cert_check.specs.inner.Paths.{top}
use Rattle.cert_check.proofs.Visiting.{waits, all_done}
use Rattle.cert_check.proofs.Walking.{starts, walks, stops}
use Rattle.cert_check.proofs.walk.walk_on.Goals as goal
use Rattle.cert_check.proofs.walk.walk_on.Goals.{In-loop-node}

-- what is read behind the last node
abbrev no_node : Node
no_node = Node.Split 0 Var.Stack

pub loop-node-init : goal.loop-node-init
loop-node-init c = record {
  walking = starts c.args.ground.instance.now (root_of (frame_of c.args.ground.instance.now) 0).ranges c.args.loss c.args.cert.now c.args.path.now.boxes c.requires.boxes;
  room = c.requires.room;
  frame = c.requires.frame;
  line = omega arith;
  left = omega arith;
}

within : (c : In-loop-node) → c.loop-node.node-index < length c.args.cert.now.nodes.items
within c = let e = ap (λ (ns : List Node). length ns) c.as_slice-node-items.ensures in let t = c.loop-node-test.true in omega arith

node_is : (c : In-loop-node) → get_or c.args.cert.now.nodes.items c.loop-node.node-index no_node ≡ get_or c.as_slice-node-items.result.now c.loop-node.node-index no_node
node_is c = ap (λ (ns : List Node). get_or ns c.loop-node.node-index no_node) (sym c.as_slice-node-items.ensures)

waits_next : (c : In-loop-node) → c.loop-node.path.boxes ≢ []
waits_next c =
    let w = c.loop-node.invariant.walking in waits _ c.args.cert.now.nodes.items c.loop-node.node-index _ w.done w.come no_node c.requires.tree (within c)

pub judge-requires-clause-waits : goal.judge-requires-clause-waits
judge-requires-clause-waits c = waits_next (goal.at.judge-requires-clause-waits c).In-loop-node

pub count-requires-clause-waits : goal.count-requires-clause-waits
count-requires-clause-waits c = waits_next (goal.at.count-requires-clause-waits c).In-loop-node

pub pass-requires-clause-waits : goal.pass-requires-clause-waits
pass-requires-clause-waits c = waits_next (goal.at.pass-requires-clause-waits c).In-loop-node

pub returns-in-Some : goal.returns-in-Some
returns-in-Some c =
    let k = (goal.at.returns-in-Some c).In-loop-node in
    stops c.args.ground.instance.now _ c.args.loss c.args.cert.now c.loop-node.node-index _ _ _ _ no_node _ c.in-Some.why c.loop-node.invariant.walking (within k) (node_is k) (waits_next k)
    c.in-Some.ensures.judged c.read.ensures

pub loop-node-preserved : goal.loop-node-preserved
loop-node-preserved c =
    let k = (goal.at.loop-node-preserved c).In-loop-node in
    let n : Node = get_or c.as_slice-node-items.result.now c.loop-node.node-index no_node in
    let passes : NodePasses c.args.ground.instance.now c.args.cert.now.floor c.args.loss (top c.loop-node.path.boxes) n = search rules in
    record {
      walking = walks c.args.ground.instance.now _ c.args.loss c.args.cert.now c.loop-node.node-index _ _ _ _ _ _ no_node n c.loop-node.invariant.walking (within k) (node_is k) (waits_next k)
          passes c.read.ensures c.count.ensures.counts c.in_ok-pass.ensures.boxes;
      room = c.count.ensures.room;
      frame = c.in_ok-pass.ensures.frame ∙ c.loop-node.invariant.frame;
      line = (let l = c.read.ensures.few in let m = c.loop-node.invariant.line in omega arith);
      left = (let l = c.count.ensures.counts.few in let m = c.loop-node.invariant.left in omega arith);
    }

pub returns : goal.returns
returns c =
    let w = c.loop-node.invariant.walking in
    let e = all_done _ c.args.cert.now.nodes.items c.loop-node.node-index _ w.done w.come
    (let e = ap (λ (ns : List Node). length ns) c.as_slice-node-items.ensures in let t = c.loop-node-test.false in omega arith) in (
      subst (λ (xs : List Visit). All (Passes c.args.ground.instance.now c.args.cert.now.floor c.args.loss) xs) (sym e) w.passed,
      w.least ∙ ap (λ (xs : List Visit). least_of c.args.loss (visit_bounds c.args.ground.instance.now c.args.cert.now.floor xs)) (sym e),
      w.left ∙ ap (λ (xs : List Visit). length (visit_bounds c.args.ground.instance.now c.args.cert.now.floor xs)) (sym e),
    )
