use Rattle.std.proofs.Common.{ap, subst, ◌∙◌, Option}
use Rattle.glass_base.specs.declared.params.Params.{Params}
use Rattle.cut_model.specs.declared.broken.Broken.{Broken}
use Rattle.cut_model.specs.Families.{rows_of}
use Rattle.cut_model.specs.Tree.{tree}
use Rattle.plan_picture.specs.Pictures.{plates_in}
use Rattle.plan_picture.specs.Told.{told}
use Rattle.plan_picture.specs.inner.Sketches.{IsShown}
use Rattle.plan_picture.proofs.Finished.{finished}
use Rattle.plan_picture.proofs.drawing.elements_of.Goals as goal

pub returns : goal.returns
returns c =
    let b = c.args.instance.now in
    let plan = tree c.args.plan.now in
    let rows = rows_of b plan in
    finished b plan c.args.verdict.now c.new-layout.result (told c.in_ok-marks.marks.items) c.frame-frame.result c.add_legend.new.marks.items c.plates_used.result c.survey_of-survey.result.items c.plates_used.ensures c.survey_of-survey.ensures
    (c.new-layout.ensures ∙ ap (λ (p : Params). p.height) c.params.ensures.value)
    (subst (λ (o : Option Broken). IsShown b o c.new-layout.result (told c.in_ok-marks.marks.items) (plates_in rows) rows) c.broken_in.ensures c.in_ok-marks.ensures)
    c.in_ok-add_legend.ensures
