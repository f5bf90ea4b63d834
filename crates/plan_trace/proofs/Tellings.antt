-- Steps that are told in two parts.
use Rattle.std.proofs.Common.{◌≡◌, ℕ, ◌≤◌, List, [], ◌∷◌, ◌++◌, length, refl, sym, ap, ◌∙◌, append_assoc, arith}
use Rattle.glass_base.specs.declared.item.Item.{Item}
use Rattle.glass_base.specs.Problem.{Problem, IsProblem}
use Rattle.glass_base.specs.Stacks.{IsStack, stack_numbers}
use Rattle.glass_base.proofs.StackLemmas.{few_stacks}
use Rattle.cut_model.specs.declared.family.Family.{Family}
use Rattle.cut_model.specs.declared.family.Sort.{Sort}
use Rattle.cut_model.specs.declared.steps.Step.{Step}
use Rattle.plan_trace.specs.declared.here.Here.{Here}
use Rattle.plan_trace.specs.inner.Tellings.{place_at, place_behind, place_told, steps_told, tell}
use Rattle.plan_trace.proofs.Serving.{zip_long}
use Rattle.glass_base.specs.declared.limits.TheConstants.{MOST_ITEMS}

pub place_append : (here : Here) (xs ys : List Family) → place_told here (xs ++ ys) ≡ place_told (place_told here xs) ys
place_append here [] ys = refl
place_append here (x ∷ xs) ys = place_append (place_behind (place_at here x.row) x.sort) xs ys

tell_append : (items : List Item) (stacks : List ℕ) (here : Here) (width : ℕ) (sort : Sort) (xs ys : List Step) → tell items stacks here width sort (xs ++ ys) ≡ tell items stacks here width sort xs ++ ys
tell_append items stacks here width (Sort.Item number) xs ys = refl
tell_append items stacks here width Sort.Waste xs ys = refl
tell_append items stacks here width Sort.Branch xs ys = refl
tell_append items stacks here width Sort.Residual xs ys = refl

pub steps_append : (items : List Item) (stacks : List ℕ) (here : Here) (xs ys : List Family) → steps_told items stacks here (xs ++ ys) ≡ steps_told items stacks here xs ++ steps_told items stacks (place_told here xs) ys
steps_append items stacks here [] ys = refl
steps_append items stacks here (x ∷ xs) ys =
    let there : Here = place_at here x.row in
    ap (tell items stacks there x.row.width x.sort) (steps_append items stacks (place_behind there x.sort) xs ys)
    ∙ tell_append items stacks there x.row.width x.sort (steps_told items stacks (place_behind there x.sort) xs) (steps_told items stacks (place_told (place_behind there x.sort) xs) ys)

-- there are not too many stacks
pub few_numbers : (b : Problem) → IsProblem b → length (stack_numbers b.items) ≤ MOST_ITEMS
few_numbers b rules = omega (arith, rules.few_items, few_stacks b.items b.stacks rules.stacks, zip_long (IsStack b.items) (stack_numbers b.items) b.stacks rules.stacks.each)

-- one more piece
pub told_more : (items : List Item) (stacks : List ℕ) (start before there : Here) (seen : List Family) (f : Family) (steps old new : List Step) → before ≡ place_told start seen → there ≡ place_at before f.row →
    old ≡ steps ++ steps_told items stacks start seen → new ≡ old ++ tell items stacks there f.row.width f.sort [] → new ≡ steps ++ steps_told items stacks start (seen ++ f ∷ [])
told_more items stacks start before there seen f steps old new before_is there_is old_is new_is =
    let here : there ≡ place_at (place_told start seen) f.row = there_is ∙ ap (λ (h : Here). place_at h f.row) before_is in
    new_is
    ∙ ap (λ (xs : List Step). xs ++ tell items stacks there f.row.width f.sort []) old_is
    ∙ append_assoc steps (steps_told items stacks start seen) (tell items stacks there f.row.width f.sort [])
    ∙ ap (λ (h : Here). steps ++ (steps_told items stacks start seen ++ tell items stacks h f.row.width f.sort [])) here
    ∙ ap (λ (xs : List Step). steps ++ xs) (sym (steps_append items stacks start seen (f ∷ [])))

pub place_more : (start before there next : Here) (seen : List Family) (f : Family) → before ≡ place_told start seen → there ≡ place_at before f.row → next ≡ place_behind there f.sort → next ≡ place_told start (seen ++ f ∷ [])
place_more start before there next seen f before_is there_is next_is =
    next_is
    ∙ ap (λ (h : Here). place_behind h f.sort) (there_is ∙ ap (λ (h : Here). place_at h f.row) before_is)
    ∙ sym (place_append start seen (f ∷ []))
