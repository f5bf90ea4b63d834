use Rattle.std.proofs.Common.{◌≡◌, ℕ, ◌∙◌, ap, sym, arith, max}
use Rattle.glass_base.specs.declared.params.Params.{Params}
use Rattle.glass_base.specs.Items.{area_of}
use Rattle.plan_box.specs.Bounds.{ceil_div, reached}
use Rattle.box_bound.specs.Kept.{late}
use Rattle.box_bound.proofs.Lengths.{max_none}
use Rattle.plan_box.proofs.LeastLengths.{area_most, none_reached, reached_by}
use Rattle.box_bound.proofs.bounding.length_by.Goals as goal

pub ceil_div-glass-requires-clause-fits : goal.ceil_div-glass-requires-clause-fits
ceil_div-glass-requires-clause-fits c = omega (arith, c.requires.total, area_most c.args.instance.now c.params.ensures.rules, c.args.instance.now.params.accepted.height_limit)

pub reached-requires-clause-total : goal.reached-requires-clause-total
reached-requires-clause-total c = omega (arith, c.requires.total, area_most c.args.instance.now c.params.ensures.rules)

pub returns-then-count-eq0-clause-small : goal.returns-then-count-eq0-clause-small
returns-then-count-eq0-clause-small c = omega (arith, c.ceil_div-glass.ensures.small, c.requires.total, area_most c.args.instance.now c.params.ensures.rules, c.args.instance.now.params.accepted.height_limit)

pub returns-clause-small : goal.returns-clause-small
returns-clause-small c = omega (arith, c.ceil_div-glass.ensures.small, c.requires.total, area_most c.args.instance.now c.params.ensures.rules, c.args.instance.now.params.accepted.height_limit, c.reached.ensures.small)

pub returns-then-count-eq0-clause-value : goal.returns-then-count-eq0-clause-value
returns-then-count-eq0-clause-value c = λ ks count last.
    let b = c.args.instance.now in
    let glass : c.ceil_div-glass.result ≡ ceil_div (area_of b.items) b.params.height =
    c.ceil_div-glass.ensures.value ∙ ap (λ (d : ℕ). ceil_div c.args.total d) (c.from.ensures ∙ ap (λ (q : Params). q.height) c.params.ensures.value) ∙ ap (λ (n : ℕ). ceil_div n b.params.height) c.requires.total in
    let none : reached b (area_of b.items) ks ≡ 0 = none_reached b (area_of b.items) ks (count ∙ c.if-count-eq0.true) in
    glass ∙ sym (ap (max (ceil_div (area_of b.items) b.params.height)) none ∙ max_none (ceil_div (area_of b.items) b.params.height))

pub returns-clause-value : goal.returns-clause-value
returns-clause-value c = λ ks count last.
    let b = c.args.instance.now in
    let glass : c.ceil_div-glass.result ≡ ceil_div (area_of b.items) b.params.height =
    c.ceil_div-glass.ensures.value ∙ ap (λ (d : ℕ). ceil_div c.args.total d) (c.from.ensures ∙ ap (λ (q : Params). q.height) c.params.ensures.value) ∙ ap (λ (n : ℕ). ceil_div n b.params.height) c.requires.total in
    let some : c.reached.result ≡ reached b (area_of b.items) ks =
    c.reached.ensures.value ∙ reached_by b c.args.total ks (late c.args.last.now) (omega (arith, count, c.if-count-eq0.false)) last ∙ ap (λ (n : ℕ). reached b n ks) c.requires.total in
    cc
