-- The plates that steps begin, and the last step.
use Rattle.std.proofs.Common.{◌≡◌, ℕ, zero, suc, ◌+◌, ◌-◌, ◌<◌, ◌≤◌, ◌==◌, List, [], ◌∷◌, ◌++◌, length, cond, refl, arith, false}
use Rattle.std.specs.Prelude.{count_by}
use Rattle.std.proofs.lemmas.Bool.Decides.{nat_tests}
use Rattle.std.proofs.lemmas.List.Recursion.{is_count_by}
use Rattle.std.proofs.lemmas.List.Sums.{count_by-le-length}
use Rattle.glass_base.specs.Plates.{Before}
use Rattle.glass_base.specs.Problem.{Problem, IsProblem}
use Rattle.glass_base.proofs.PlateLemmas.{before_within}
use Rattle.cut_model.specs.declared.steps.Step.{Step}
use Rattle.cut_model.specs.Steps.{last_right, plates_after, plates_begun}

after_kind : (kind before : ℕ) → plates_after kind before ≡ cond (kind == 0) (1 + before) before
after_kind zero before = omega arith
after_kind (suc n) before = let isnt : (suc n == 0) ≡ false = grind (arith, nat_tests) in rw isnt refl

-- the steps that begin a plate are counted
pub begun_count : (steps : List Step) → plates_begun steps ≡ count_by (λ step. step.kind == 0) steps
begun_count steps = is_count_by plates_begun (λ step. step.kind == 0) refl (λ step later. after_kind step.kind (plates_begun later)) steps

-- so no more plates are begun than there are steps
pub begun_few : (steps : List Step) → plates_begun steps ≤ length steps
begun_few steps = omega (arith, begun_count steps, count_by-le-length (λ (step : Step). step.kind == 0) steps)

-- the last step stands at the end
pub last_pushed : (steps : List Step) (s : Step) → last_right (steps ++ s ∷ []) ≡ s.b
last_pushed [] s = refl
last_pushed (t ∷ []) s = refl
last_pushed (t ∷ u ∷ ts) s = last_pushed (u ∷ ts) s

-- steps that begin a thousand plates do not reach far
pub end_small : (b : Problem) (plates start right : ℕ) → IsProblem b → plates ≤ 1001 → start ≡ Before b (plates - 1) → right < 4294967296 → start + right ≤ 5000000000
end_small b plates start right h few is small = omega (arith, is, before_within b (plates - 1) h)
