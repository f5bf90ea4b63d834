use Rattle.std.proofs.Common.{◌+◌, inr, sym, subst, arith}
use Rattle.glass_base.specs.declared.params.Params.{Params}
use Rattle.front_bound.specs.inner.Clear.{LineClear}
use Rattle.front_table.specs.Sets.{Has}
use Rattle.front_table.proofs.HeldLists.{least_first}
use Rattle.front_bound.proofs.PlacedRows.{ends_from}
use Rattle.front_bound.proofs.SideLemmas.{true_false}
use Rattle.front_bound.proofs.placed_sides.offer_placed.Goals as goal

pub returns-then-not-has-clause-held : goal.returns-then-not-has-clause-held
returns-then-not-has-clause-held c =
    ends_from c.args.ending.now.instance.now c.args.holes.now c.args.ending.now.far c.args.ending.now.most c.args.sides.now c.args.ending.now.row c.args.ending.now.plate c.args.begin.now c.args.strip.now
    (λ left width from stands within line near. absurd (true_false c.has.result (c.has.ensures.1 (subst (λ (p : Params). Has c.args.strip.now.along p.height) (sym c.params-params.ensures.value) stands.0.0)) c.if-not-has.true))

pub returns-in_default-clause-held : goal.returns-in_default-clause-held
returns-in_default-clause-held c =
    ends_from c.args.ending.now.instance.now c.args.holes.now c.args.ending.now.far c.args.ending.now.most c.args.sides.now c.args.ending.now.row c.args.ending.now.plate c.args.begin.now c.args.strip.now
    (λ left width from stands within line near. absurd (omega (arith, c.in_default.ensures.none left width from stands.0.1, within, c.width-width.ensures.value)))

pub returns-then-clear-width-clause-held : goal.returns-then-clear-width-clause-held
returns-then-clear-width-clause-held c =
    ends_from c.args.ending.now.instance.now c.args.holes.now c.args.ending.now.far c.args.ending.now.most c.args.sides.now c.args.ending.now.row c.args.ending.now.plate c.args.begin.now c.args.strip.now
    (λ left width from stands within line near.
    let both = c.meet.ensures (left + width) (c.in-Some.ensures.sums left width from stands.0.1) stands.1 in
    let clear = c.clear_of-clear.ensures (left + width) both (omega (arith, within, c.width-width.ensures.value)) (λ inside. subst (λ (p : Params). LineClear c.args.holes.now p.height (left + width)) (sym c.params-params.ensures.value) (line (omega (arith, inside, c.width-width.ensures.value)))) in
    absurd (omega (arith, least_first c.clear_of-clear.result (left + width) clear, within, c.if-clear-width.true, c.width-width.ensures.value)))

pub returns-then-end-ending-clause-held : goal.returns-then-end-ending-clause-held
returns-then-end-ending-clause-held c =
    ends_from c.args.ending.now.instance.now c.args.holes.now c.args.ending.now.far c.args.ending.now.most c.args.sides.now c.args.ending.now.row c.args.ending.now.plate c.args.begin.now c.args.strip.now
    (λ left width from stands within line near.
    let both = c.meet.ensures (left + width) (c.in-Some.ensures.sums left width from stands.0.1) stands.1 in
    let clear = c.clear_of-clear.ensures (left + width) both (omega (arith, within, c.width-width.ensures.value)) (λ inside. subst (λ (p : Params). LineClear c.args.holes.now p.height (left + width)) (sym c.params-params.ensures.value) (line (omega (arith, inside, c.width-width.ensures.value)))) in
    absurd (omega (arith, least_first c.clear_of-clear.result (left + width) clear, near, c.if-end-ending.true, c.saturating_add-end.ensures, c.saturating_add.ensures, c.from.ensures, c.before-2.ensures.value)))

pub returns-clause-held : goal.returns-clause-held
returns-clause-held c =
    ends_from c.args.ending.now.instance.now c.args.holes.now c.args.ending.now.far c.args.ending.now.most c.offer.new.self c.args.ending.now.row c.args.ending.now.plate c.args.begin.now c.args.strip.now
    (λ left width from stands within line near.
    let both = c.meet.ensures (left + width) (c.in-Some.ensures.sums left width from stands.0.1) stands.1 in
    let clear = c.clear_of-clear.ensures (left + width) both (omega (arith, within, c.width-width.ensures.value)) (λ inside. subst (λ (p : Params). LineClear c.args.holes.now p.height (left + width)) (sym c.params-params.ensures.value) (line (omega (arith, inside, c.width-width.ensures.value)))) in
    c.in_ok-offer.ensures.held (left + width) c.args.ending.now.plate (clear, c.only.ensures))
