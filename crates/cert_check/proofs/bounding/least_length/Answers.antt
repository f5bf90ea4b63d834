use Rattle.std.proofs.Common.{◌≡◌, ℕ, ◌∙◌, ap, arith, List, map}
use Rattle.glass_base.specs.declared.params.Params.{Params}
use Rattle.glass_base.specs.Items.{area_of}
use Rattle.plan_box.specs.Bounds.{ceil_div, reached}
use Rattle.plan_box.specs.Leasts.{Fixed, known}
use Rattle.cert_check.specs.inner.Knowns.{fixed_of}
use Rattle.plan_box.proofs.LeastLengths.{area_most}
use Rattle.cert_check.proofs.bounding.least_length.Goals as goal

pub ceil_div-glass-requires-clause-fits : goal.ceil_div-glass-requires-clause-fits
ceil_div-glass-requires-clause-fits c = omega (arith, c.area-total.ensures, area_most c.args.instance.now c.params.ensures.rules, c.args.instance.now.params.accepted.height_limit)

pub reached-requires-clause-total : goal.reached-requires-clause-total
reached-requires-clause-total c = omega (arith, c.area-total.ensures, area_most c.args.instance.now c.params.ensures.rules)

pub returns-clause-small : goal.returns-clause-small
returns-clause-small c = omega (arith, c.ceil_div-glass.ensures.small, c.area-total.ensures, area_most c.args.instance.now c.params.ensures.rules, c.args.instance.now.params.accepted.height_limit, c.reached.ensures.small)

pub returns-clause-value : goal.returns-clause-value
returns-clause-value c = λ rs steps_are.
    let b = c.args.instance.now in
    let total : c.area-total.result ≡ area_of b.items = c.area-total.ensures in
    let glass : c.ceil_div-glass.result ≡ ceil_div (area_of b.items) b.params.height =
    c.ceil_div-glass.ensures.value ∙ ap (λ (d : ℕ). ceil_div c.area-total.result d) (c.from.ensures ∙ ap (λ (q : Params). q.height) c.params.ensures.value) ∙ ap (λ (n : ℕ). ceil_div n b.params.height) total in
    let some : c.reached.result ≡ reached b (area_of b.items) (known b rs) =
    c.reached.ensures.value ∙ ap (λ (n : ℕ). reached b n (map fixed_of c.args.steps.now)) total ∙ ap (λ (ks : List Fixed). reached b (area_of b.items) ks) steps_are in
    cc
