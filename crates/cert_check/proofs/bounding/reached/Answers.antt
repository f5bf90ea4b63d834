use Rattle.std.proofs.Common.{◌≡◌, arith, max, map, get_or, length, ◌-◌}
use Rattle.std.proofs.lemmas.List.{length-map}
use Rattle.plan_box.specs.Bounds.{reached, end_of_strip, end_of_items}
use Rattle.plan_box.specs.Leasts.{Known, no_known}
use Rattle.plan_box.proofs.LeastLengths.{last_at, reached_by}
use Rattle.cert_check.specs.inner.Knowns.{fixed_of, known_in, nothing}
use Rattle.cert_check.proofs.bounding.reached.Goals as goal

pub returns-clause-value : goal.returns-clause-value
returns-clause-value c =
    let b = c.args.instance.now in
    let steps = c.args.steps.now in
    let k : Known = known_in (get_or steps (length steps - 1) nothing) in
    let strip : c.end_of_strip.result ≡ end_of_strip b k = c.end_of_strip.ensures.value in
    let items : c.end_of_items.result ≡ end_of_items b c.args.total k = c.end_of_items.ensures.value in
    let by : max (end_of_strip b k) (end_of_items b c.args.total k) ≡ reached b c.args.total (map fixed_of steps) =
    reached_by b c.args.total (map fixed_of steps) k (omega (arith, length-map steps fixed_of)) (last_at (λ x. x.level) known_in no_known steps nothing (omega arith)) in
    cc
