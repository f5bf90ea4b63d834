use Rattle.std.proofs.Common.{◌∷◌, [], map, ap, sym, subst}
use Rattle.std.proofs.lemmas.List.{map-append}
use Rattle.std.proofs.lemmas.Result.{on_ok_weaker}
use Rattle.cut_model.specs.declared.family.Family.{Family}
use Rattle.plan_picture.specs.Pictures.{look_of}
use Rattle.plan_picture.specs.inner.Sketches.{HasShown, sketch}
use Rattle.plan_picture.proofs.Drawn.{more_shown}
use Rattle.plan_picture.proofs.Sorts.{sort_again}
use Rattle.plan_picture.proofs.drawing.DrawingVisitor.visit.Goals as goal

pub returns : goal.returns
returns c =
    let sheet = c.args.self.now.sheet.now in
    let f : Family = c.args.family.now in
    let row_of = λ (f : Family). f.row in
    on_ok_weaker c.draw.result
    (λ drawn. record {
      after = λ start seen h. (
        h.0,
        subst (HasShown sheet.instance.now sheet.broken sheet.layout (sketch c.draw.new.self)) (sym (map-append row_of seen (f ∷ [])))
            (more_shown sheet.instance.now sheet.broken sheet.layout (sketch c.args.self.now.canvas) (sketch c.turn_to.new.self) (sketch c.draw.new.self) (map row_of seen) f.row (look_of sheet.instance.now f.sort)
            h.1 c.in_ok-turn_to.ensures (ap (look_of sheet.instance.now) (sort_again f.sort f.row.kind c.requires.named)) drawn),
      );
    })
    c.draw.ensures
