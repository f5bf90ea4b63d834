use Rattle.std.proofs.Common.{◌∙◌, sym}
use Rattle.std.specs.BTreeMap.{get}
use Rattle.std.specs.Ordering.{nat_cmp}
use Rattle.plan_csv.proofs.CheckFacts.{unused, used}
use Rattle.plan_csv.proofs.checks.refusal.Goals as goal

pub returns-then-contains_key : goal.returns-then-contains_key
returns-then-contains_key c =
    used c.args.instance.now c.args.row c.args.nodes.now.rows.items c.args.r.now (get nat_cmp c.args.nodes.now.named c.args.r.now.node)
    (c.requires.named c.args.r.now.node) (sym c.contains_key.ensures ∙ c.if-contains_key.true)

pub returns-else-contains_key : goal.returns-else-contains_key
returns-else-contains_key c =
    c.place_refusal.ensures
    ∙ unused c.args.instance.now c.args.row c.args.nodes.now.rows.items c.args.r.now (get nat_cmp c.args.nodes.now.named c.args.r.now.node)
    (c.requires.named c.args.r.now.node) (sym c.contains_key.ensures ∙ c.if-contains_key.false)
