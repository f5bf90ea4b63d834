use Rattle.std.proofs.Common.{refl, sym, subst, ◌∙◌}
use Rattle.std.proofs.lemmas.Bool.{false≢true}
use Rattle.cut_model.specs.Families.{rows_of}
use Rattle.cut_model.specs.Tree.{tree}
use Rattle.stack_order.specs.Cuts.{AreCuts}
use Rattle.stack_order.proofs.Agreement.{are_cuts, AreGathered, breach_unlawful, kept_lawful}
use Rattle.stack_order.proofs.judge.judge_order.Goals as goal

pub first_breach-requires : goal.first_breach-requires
first_breach-requires c =
    let b = c.args.instance.now in
    subst (AreCuts b.items) (sym (c.as_slice.ensures ∙ c.in_ok-gathered.ensures.cuts)) (are_cuts b.items (rows_of b (tree c.args.plan.now)))

pub returns-in-Some-clause-lawful : goal.returns-in-Some-clause-lawful
returns-in-Some-clause-lawful c =
    let b = c.args.instance.now in
    let are : AreGathered b (rows_of b (tree c.args.plan.now)) c.as_slice.result.now c.as_slice-2.result.now = record {
      cuts_are = c.as_slice.ensures ∙ c.in_ok-gathered.ensures.cuts;
      plates_are = c.as_slice-2.ensures ∙ c.in_ok-gathered.ensures.plates;
    } in
    (λ e. absurd (false≢true e), λ lawful. absurd (breach_unlawful b _ _ _ c.in-Some.broken are c.in-Some.ensures lawful))

pub returns-clause-lawful : goal.returns-clause-lawful
returns-clause-lawful c =
    let b = c.args.instance.now in
    let are : AreGathered b (rows_of b (tree c.args.plan.now)) c.as_slice.result.now c.as_slice-2.result.now = record {
      cuts_are = c.as_slice.ensures ∙ c.in_ok-gathered.ensures.cuts;
      plates_are = c.as_slice-2.ensures ∙ c.in_ok-gathered.ensures.plates;
    } in
    (λ _. kept_lawful b _ _ _ are c.in-None.ensures, λ _. refl)
