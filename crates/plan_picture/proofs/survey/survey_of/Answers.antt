use Rattle.std.proofs.Common.{refl}
use Rattle.cut_model.specs.Tree.{tree}
use Rattle.plan_picture.proofs.ItemCounts.{all_counted}
use Rattle.plan_picture.proofs.survey.survey_of.Goals as goal

pub returns : goal.returns
returns c =
    all_counted c.args.instance.now (tree c.args.plan.now) c.walk.new.visitor.items c.requires.few (c.in-Ok.ensures.told (record { counted = λ small. refl }))
