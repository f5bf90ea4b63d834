use Rattle.std.proofs.Common.{◌+◌, sym, subst, arith}
use Rattle.glass_base.specs.declared.params.Params.{Params}
use Rattle.plan_trace.specs.TraceRules.{Gap}
use Rattle.front_table.proofs.HeldLists.{least_first}
use Rattle.front_bound.proofs.SideLemmas.{ends_wide, ends_far, ends_offered}
use Rattle.front_bound.proofs.sides.offer_end.Goals as goal

pub returns-in_default-clause-held : goal.returns-in_default-clause-held
returns-in_default-clause-held c = λ from width begun wide.
    ends_wide c.args.ending.now.instance.now c.args.ending.now.far c.args.ending.now.most c.args.sides.now c.args.ending.now.row c.args.ending.now.plate from width (omega (arith, c.in_default.ensures.none from width begun wide, c.width.ensures.value))

pub returns-then-end-ending-clause-held : goal.returns-then-end-ending-clause-held
returns-then-end-ending-clause-held c = λ from width begun wide.
    ends_far c.args.ending.now.instance.now c.args.ending.now.far c.args.ending.now.most c.args.sides.now c.args.ending.now.row c.args.ending.now.plate from width (
    omega (
      arith,
      least_first c.in-Some.sum (from + width) (c.in-Some.ensures.sums from width begun wide),
      c.if-end-ending.true,
      c.saturating_add-end.ensures,
      c.saturating_add.ensures,
      c.from.ensures,
      c.before-2.ensures.value,
    )
    )

pub returns-clause-held : goal.returns-clause-held
returns-clause-held c = λ from width begun wide.
    ends_offered c.args.ending.now.instance.now c.args.ending.now.far c.args.ending.now.most c.offer.new.self c.args.ending.now.row c.args.ending.now.plate from width
    (λ right gap. c.in_ok-offer.ensures.held right c.args.ending.now.plate (
      c.closed.ensures.gaps (from + width) right (c.in-Some.ensures.sums from width begun wide) (subst (λ (p : Params). Gap p.waste (from + width) right) (sym c.params.ensures.value) gap),
      c.only.ensures,
    ))
