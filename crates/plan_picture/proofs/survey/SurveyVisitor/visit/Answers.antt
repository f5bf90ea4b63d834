use Rattle.std.proofs.Common.{◌∷◌, [], map, sym, subst}
use Rattle.std.proofs.lemmas.List.{map-append}
use Rattle.cut_model.specs.declared.family.Family.{Family}
use Rattle.plan_picture.specs.inner.Surveys.{HasCounted}
use Rattle.plan_picture.proofs.ItemCounts.{counted_more}
use Rattle.plan_picture.proofs.survey.SurveyVisitor.visit.Goals as goal

pub returns : goal.returns
returns c =
    let f : Family = c.args.family.now in
    let row_of = λ (f : Family). f.row in
    record {
      after = λ start seen h. subst (HasCounted start.items c.one_more-self.result) (sym (map-append row_of seen (f ∷ [])))
          (counted_more start.items c.args.self.now.items c.one_more-self.result (map row_of seen) f.row f.sort c.requires.named c.one_more-self.ensures h);
    }
