use Rattle.std.proofs.Common.{◌≡◌, ◌<◌, ◌≢◌, [], List, length, get_or, sym, ap, ◌∙◌, arith}
use Rattle.plan_box.specs.declared.var.Var.{Var}
use Rattle.cert_log.specs.declared.certificate.Node.{Node}
use Rattle.cert_check.proofs.Naming.{may_go_next, naming_goes_on}
use Rattle.cert_check.proofs.Visiting.{waits}
use Rattle.cert_check.proofs.reasoning.name_on.Goals as goal
use Rattle.cert_check.proofs.reasoning.name_on.Goals.{In-loop-node}

-- what is read behind the last node
abbrev no_node : Node
no_node = Node.Split 0 Var.Stack

within : (c : In-loop-node) → c.loop-node.node-index < length c.args.cert.now.nodes.items
within c = let e = ap (λ (ns : List Node). length ns) c.as_slice-node-items.ensures in let t = c.loop-node-test.true in omega arith

node_is : (c : In-loop-node) → get_or c.args.cert.now.nodes.items c.loop-node.node-index no_node ≡ get_or c.as_slice-node-items.result.now c.loop-node.node-index no_node
node_is c = ap (λ (ns : List Node). get_or ns c.loop-node.node-index no_node) (sym c.as_slice-node-items.ensures)

waits_next : (c : In-loop-node) → c.loop-node.path.boxes ≢ []
waits_next c =
    let n = c.loop-node.invariant.naming in let g = c.requires.good in
    waits _ c.args.cert.now.nodes.items c.loop-node.node-index _ n.done n.come no_node (g.tree, g.nodes_are) (within c)

pub name_node-named-requires-clause-waits : goal.name_node-named-requires-clause-waits
name_node-named-requires-clause-waits c = waits_next (goal.at.name_node-named-requires-clause-waits c).In-loop-node

pub pass-requires-clause-waits : goal.pass-requires-clause-waits
pass-requires-clause-waits c = waits_next (goal.at.pass-requires-clause-waits c).In-loop-node

pub pass-requires-clause-may_go : goal.pass-requires-clause-may_go
pass-requires-clause-may_go c =
    let k = (goal.at.pass-requires-clause-may_go c).In-loop-node in
    let n = c.loop-node.invariant.naming in
    may_go_next c.args.ground.instance.now _ c.args.cert.now.loss c.args.cert.now c.loop-node.node-index _ n.done no_node _ c.requires.good n.come (within k) (node_is k) (waits_next k)

pub loop-node-preserved : goal.loop-node-preserved
loop-node-preserved c =
    let k = (goal.at.loop-node-preserved c).In-loop-node in
    record {
      naming = naming_goes_on c.args.ground.instance.now _ c.args.cert.now.nodes.items c.loop-node.node-index _ _ _ _ no_node _ _ c.loop-node.invariant.naming (within k) (node_is k) (waits_next k)
          c.name_node-named.ensures.named c.in_ok-append.ensures.ok c.in_ok-pass.ensures.boxes;
      room = c.name_node-named.ensures.room;
      frame = c.in_ok-pass.ensures.frame ∙ c.loop-node.invariant.frame;
    }
