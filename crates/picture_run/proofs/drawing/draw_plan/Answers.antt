use Rattle.cut_model.specs.Tree.{tree}
use Rattle.command_line.specs.declared.kinds.Product.TheVariants as product
use Rattle.picture_run.proofs.Drawn.{draws}
use Rattle.picture_run.proofs.drawing.draw_plan.Goals as goal

pub returns : goal.returns
returns c =
    λ names. rw c.in_ok-one_output.ensures
    (draws c.args.ground.instance.now (tree c.args.plan.now) (names product.Picture) c.in_ok-bytes.bytes.items _ c.in_ok-verdict.verdict c.in_ok-verdict.ensures c.in_ok-lines.ensures c.in_ok-bytes.ensures)
