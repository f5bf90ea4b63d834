use Rattle.std.proofs.Common.{◌≡◌, map, ap, ◌∙◌, sym, length}
use Rattle.std.proofs.lemmas.List.{length-map}
use Rattle.plan_box.specs.Leasts.{known, last_known, no_known}
use Rattle.box_bound.specs.Kept.{late_fixed}
use Rattle.box_bound.proofs.bounding.length_at.Goals as goal

pub returns-clause-value : goal.returns-clause-value
returns-clause-value c =
    let b = c.args.instance.now in
    let rs = c.args.bx.now.ranges in
    let steps = c.kept-steps.result.now in
    let same : map late_fixed steps ≡ known b rs = ap (map late_fixed) c.kept-steps.ensures ∙ c.requires.leasts.values in
    c.length_by.ensures.value (known b rs) (sym (ap length same) ∙ length-map steps late_fixed) (ap (last_known no_known) (sym same) ∙ sym c.last_of-last.ensures.value)
