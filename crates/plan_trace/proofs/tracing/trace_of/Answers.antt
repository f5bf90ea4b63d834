use Rattle.std.proofs.Common.{◌≤◌, List, length, refl, sym, ap, ◌∙◌, subst, append-nil, ℕ}
use Rattle.glass_base.specs.Stacks.{stack_numbers}
use Rattle.cut_model.specs.Tree.{tree}
use Rattle.plan_trace.proofs.Lawful.{lawful_meets}
use Rattle.plan_trace.proofs.Loss.{lawful_loses}
use Rattle.plan_trace.proofs.Tellings.{few_numbers}
use Rattle.plan_trace.proofs.ToldTraces.{trace_told}
use Rattle.plan_trace.proofs.tracing.trace_of.Goals as goal
use Rattle.glass_base.specs.declared.limits.TheConstants.{MOST_ITEMS}

pub invariant_of-tracing : goal.invariant_of-tracing
invariant_of-tracing c =
    let is = sym (c.as_slice.ensures ∙ c.in_ok-stacks.ensures ∙ ap stack_numbers c.items.ensures.value) in
    record { few = subst (λ (xs : List ℕ). length xs ≤ MOST_ITEMS) is (few_numbers c.args.instance.now c.items.ensures.rules) }

pub returns-clause-steps : goal.returns-clause-steps
returns-clause-steps c =
    let told = c.in_ok-walk.ensures.told (refl, refl, refl, sym (append-nil _)) in
    trace_told c.args.instance.now c.args.plan.now c.items-2.result.now c.as_slice.result.now c.new.result.items c.walk.new.visitor.steps.items
    c.items-2.ensures.value (c.as_slice.ensures ∙ c.in_ok-stacks.ensures ∙ ap stack_numbers c.items.ensures.value) c.new.ensures told.3

pub returns-clause-whole : goal.returns-clause-whole
returns-clause-whole c = λ lawful. rw (returns-clause-steps c) (lawful_meets c.args.instance.now c.items.ensures.rules (tree c.args.plan.now) lawful)

pub returns-clause-loss : goal.returns-clause-loss
returns-clause-loss c = λ lawful. rw (returns-clause-steps c) (lawful_loses c.args.instance.now c.items.ensures.rules (tree c.args.plan.now) lawful)
