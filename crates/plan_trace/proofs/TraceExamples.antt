-- Canonical plans of small traces, and a trace that breaks a rule, computed.
use Rattle.std.proofs.Common.{◌≡◌, ℕ, ◌+◌, List, [], ◌∷◌, refl, arith}
use Rattle.glass_base.specs.declared.item.Item.{Item}
use Rattle.glass_base.specs.Plates.{Width}
use Rattle.glass_base.specs.Problem.{Problem}
use Rattle.cut_model.specs.declared.family.Sort.{Sort}
use Rattle.cut_model.specs.declared.steps.Step.{Step}
use Rattle.cut_model.specs.Tree.{Forest, nothing, piece}
use Rattle.cut_model.specs.Traces.{trace_of}
use Rattle.cut_model.proofs.Examples.{usual}
use Rattle.plan_trace.specs.declared.trace_rule.TraceRule.{TraceRule}
use Rattle.plan_trace.specs.Broken.{RuleAt}
use Rattle.plan_trace.specs.Canonical.{canonical}

abbrev pub item : ℕ → ℕ → ℕ → Item
item number length width = record { id = number; length = length; width = width; stack = 0; sequence = number + 1 }

-- items of one stack, on plates of these widths
abbrev pub batch : List Item → List ℕ → List ℕ → Problem
batch items widths places = record { params = usual; items = items; defects = []; widths = widths; stacks = places ∷ [] }

abbrev step : ℕ → ℕ → ℕ → ℕ → ℕ → ℕ → ℕ → ℕ → Step
step turn kind lift a b c d e = record { stack = 0; turn = turn; kind = kind; lift = lift; a = a; b = b; c = c; d = d; e = e }

-- a piece of an item, of waste, and of the residual
abbrev cut_item : ℕ → ℕ → Forest → Forest
cut_item size number later = piece size (Sort.Item number) nothing later

abbrev waste : ℕ → Forest → Forest
waste size later = piece size Sort.Waste nothing later

abbrev residual : ℕ → Forest
residual size = piece size Sort.Residual nothing nothing

-- four items in one strip, of which the second and the third stand one over the other
abbrev four : Problem
four = batch (item 0 500 1000 ∷ item 1 300 400 ∷ item 2 300 600 ∷ item 3 800 2210 ∷ []) (6000 ∷ []) (0 ∷ 1 ∷ 2 ∷ 3 ∷ [])

abbrev four_steps : List Step
four_steps =
    step 0 0 0 0 800 0 1000 0
    ∷ step 0 3 0 0 800 0 1000 500
    ∷ step 0 4 0 0 800 0 1000 500
    ∷ step 0 2 0 0 800 1000 3210 0
    ∷ []

four_canonical : canonical four four_steps ≡
    piece 0 Sort.Branch
    (piece 800 Sort.Branch
    (piece 1000 Sort.Branch
    (cut_item 500 0 (piece 300 Sort.Branch (cut_item 400 1 (cut_item 600 2 nothing)) nothing))
    (cut_item 2210 3 nothing))
    (residual 5200))
    nothing
unfolding Width
four_canonical = refl

four_traced : trace_of four (canonical four four_steps) ≡ four_steps
unfolding Width
four_traced = refl

-- an item that is a whole strip, one that is lifted, and one on a second plate, which is narrower
abbrev three : Problem
three = batch (item 0 3000 3210 ∷ item 1 100 80 ∷ item 2 3000 3210 ∷ []) (6000 ∷ 5000 ∷ []) (0 ∷ 1 ∷ 2 ∷ [])

abbrev three_steps : List Step
three_steps = step 0 0 0 0 3000 0 3210 0 ∷ step 0 1 1 3020 3160 0 100 3040 ∷ step 0 0 0 0 3000 0 3210 0 ∷ []

three_canonical : canonical three three_steps ≡
    piece 0 Sort.Branch
    (cut_item 3000 0
    (waste 20
    (piece 140 Sort.Branch
    (piece 100 Sort.Branch (waste 20 (piece 100 Sort.Branch (waste 20 (cut_item 80 1 nothing)) (waste 20 nothing))) (waste 3110 nothing))
    (waste 2840 nothing))))
    (piece 0 Sort.Branch (cut_item 3000 2 (residual 2000)) nothing)
unfolding Width
three_canonical = refl

three_traced : trace_of three (canonical three three_steps) ≡ three_steps
unfolding Width
three_traced = refl

-- a band that is too low breaks the fifth rule at its step
low_band :
    RuleAt (batch (item 0 50 50 ∷ []) (6000 ∷ []) (0 ∷ [])) (step 0 0 0 0 100 0 60 0 ∷ []) TraceRule.TR5 0 → ⊥
low_band rule = omega (arith, rule.1)
