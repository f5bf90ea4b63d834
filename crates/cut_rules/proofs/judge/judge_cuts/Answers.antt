use Rattle.std.proofs.Common.{refl}
use Rattle.cut_model.specs.Families.{families_of}
use Rattle.cut_model.specs.Tree.{tree}
use Rattle.cut_rules.proofs.Judged.{pieces_keep, broken_not_kept}
use Rattle.cut_rules.proofs.judge.judge_cuts.Goals as goal

pub returns-in-None-clause-lawful : goal.returns-in-None-clause-lawful
returns-in-None-clause-lawful c =
    let b = c.args.instance.now in
    (λ _. pieces_keep b (families_of b (tree c.args.plan.now)) c.in-None.ensures, λ _. refl)

pub returns-in-Some-clause-lawful : goal.returns-in-Some-clause-lawful
returns-in-Some-clause-lawful c =
    let b = c.args.instance.now in (
      λ e. cc,
      λ h. absurd (broken_not_kept b (families_of b (tree c.args.plan.now)) c.in-Some.broken c.in-Some.ensures h),
    )
