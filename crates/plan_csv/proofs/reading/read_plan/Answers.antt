use Rattle.std.proofs.Common.{◌≡◌}
use Rattle.std.specs.Prelude.{Ok}
use Rattle.cut_model.specs.Tree.{tree}
use Rattle.plan_csv.specs.PlanTexts.{plan_said}
use Rattle.plan_csv.proofs.RowSteps.{plan_is}
use Rattle.plan_csv.proofs.TreesInRange.{read_fits}
use Rattle.plan_csv.proofs.reading.read_plan.Goals as goal

pub returns-clause-fits : goal.returns-clause-fits
returns-clause-fits c =
    let said : plan_said c.args.instance.now c.args.bytes.now ≡ Ok (tree c.in_ok-plan_of.field-0) =
    plan_is c.args.instance.now c.args.bytes.now c.in_ok-nodes.nodes.rows.items (tree c.in_ok-plan_of.field-0) c.in_ok-nodes.ensures.said.said_is c.in_ok-plan_of.ensures in
    (read_fits c.args.instance.now c.args.bytes.now (tree c.in_ok-plan_of.field-0) said).0

pub returns-clause-few : goal.returns-clause-few
returns-clause-few c =
    let said : plan_said c.args.instance.now c.args.bytes.now ≡ Ok (tree c.in_ok-plan_of.field-0) =
    plan_is c.args.instance.now c.args.bytes.now c.in_ok-nodes.nodes.rows.items (tree c.in_ok-plan_of.field-0) c.in_ok-nodes.ensures.said.said_is c.in_ok-plan_of.ensures in
    (read_fits c.args.instance.now c.args.bytes.now (tree c.in_ok-plan_of.field-0) said).1

pub returns-clause-fewer_than_bytes : goal.returns-clause-fewer_than_bytes
returns-clause-fewer_than_bytes c =
    let said : plan_said c.args.instance.now c.args.bytes.now ≡ Ok (tree c.in_ok-plan_of.field-0) =
    plan_is c.args.instance.now c.args.bytes.now c.in_ok-nodes.nodes.rows.items (tree c.in_ok-plan_of.field-0) c.in_ok-nodes.ensures.said.said_is c.in_ok-plan_of.ensures in
    (read_fits c.args.instance.now c.args.bytes.now (tree c.in_ok-plan_of.field-0) said).2
