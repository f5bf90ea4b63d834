use Rattle.std.proofs.Common.{◌≡◌, ◌∙◌, sym, ap, subst, arith}
use Rattle.glass_base.specs.declared.params.Params.{Params}
use Rattle.glass_base.specs.Plates.{Width}
use Rattle.plan_trace.specs.TraceRules.{Gap}
use Rattle.front_table.specs.Sets.{Has}
use Rattle.front_table.proofs.HeldLists.{keeps_held, keeps_then}
use Rattle.front_bound.proofs.SideLemmas.{plate_only, true_false}
use Rattle.front_bound.proofs.begins.offer_begin.Goals as goal

pub returns-then-not-has-clause-next : goal.returns-then-not-has-clause-next
returns-then-not-has-clause-next c = λ from plate fits few gap near.
    let same : plate ≡ c.args.side.now.across.least =
    plate_only c.args.side.now.across plate c.args.instance.now.params.plates c.if-side.false (omega (arith, c.if-params-gt-MOST_PLATES.false, ap (λ (p : Params). p.plates) c.params-params.ensures.value)) fits.1 (omega (arith, few)) in
    let ends = c.closed.ensures.gaps from (Width c.args.instance.now plate) fits.0 (subst (λ (p : Params). Gap p.waste from (Width c.args.instance.now plate)) (sym c.params-params.ensures.value) gap) in
    let width : Width c.args.instance.now plate ≡ c.width.result = ap (Width c.args.instance.now) same ∙ sym c.width.ensures.value in
    absurd (true_false c.has.result (c.has.ensures.1 (subst (Has c.closed.result) width ends)) c.if-not-has.true)

pub returns-clause-kept : goal.returns-clause-kept
returns-clause-kept c = keeps_then c.args.begins.now.items c.offer.new.labels.items c.offer-2.new.labels.items c.in_ok-offer.ensures.kept c.in_ok-offer-2.ensures.kept

pub returns-clause-own : goal.returns-clause-own
returns-clause-own c = λ from plate fits. keeps_held c.offer.new.labels.items c.offer-2.new.labels.items from plate c.in_ok-offer-2.ensures.kept (c.in_ok-offer.ensures.held from plate fits)
