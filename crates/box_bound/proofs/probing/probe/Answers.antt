use Rattle.std.proofs.Common.{◌∙◌, [], List, ap, sym, subst}
use Rattle.std.specs.Option.{MatchOption}
use Rattle.cut_model.specs.declared.steps.Step.{Step}
use Rattle.plan_trace.specs.Broken.{IsFirstBroken}
use Rattle.plan_trace.specs.TraceRules.{Meets}
use Rattle.plan_trace.proofs.Breaches.{first_broken_not_meets}
use Rattle.plan_box.specs.Leasts.{least_steps, no_known, settle}
use Rattle.plan_box.specs.Ranges.{Ranges}
use Rattle.plan_box.specs.Follows.{follow}
use Rattle.plan_box.proofs.Following.{known_follows}
use Rattle.box_bound.proofs.Writing.{none_found}
use Rattle.box_bound.proofs.probing.probe.Goals as goal

pub returns-clause-trace : goal.returns-clause-trace
returns-clause-trace c =
    let b = c.args.instance.now in
    let rs = c.args.bx.now.ranges in
    let had = c.decided_ranges-ranges.ensures in
    c.overwrite.ensures ∙ c.seen_in-seen.ensures.steps
    ∙ ap (λ (qs : List Ranges). least_steps (settle (follow b [] no_known qs))) had.ranges
    ∙ ap least_steps (sym (known_follows b rs))

pub returns-clause-meets : goal.returns-clause-meets
returns-clause-meets c =
    let b = c.args.instance.now in
    let steps = c.overwrite.new.steps.items in
    let found = subst (λ (xs : List Step). MatchOption c.first_broken.result (Meets b xs) (λ broken. IsFirstBroken b xs broken.rule broken.step)) c.as_slice.ensures c.first_broken.ensures in
    none_found (Meets b steps) (λ broken. IsFirstBroken b steps broken.rule broken.step) c.first_broken.result c.is_none.result
    (λ broken h. first_broken_not_meets b steps broken.rule broken.step h) c.is_none.ensures found
