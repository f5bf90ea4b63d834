-- Reasons as facts at decided steps.
use Rattle.std.specs.Prelude.{◌+◌, ◌<◌, ◌≤◌, ◌⊎◌, Bool, List}
use Rattle.glass_base.specs.declared.item.Defect.{Defect}
use Rattle.glass_base.specs.declared.params.Params.{Params}
use Rattle.glass_base.specs.Plates.{Width}
use Rattle.glass_base.specs.Problem.{Problem}
use Rattle.plan_trace.specs.declared.level.Level.{Level}
use Rattle.plan_box.specs.Leasts.{Known}
use Rattle.plan_box.specs.Reasons.{CrossesXAll, CrossesYAll, StepR1, StepR2, StepR3, StepR4, StepR5, StepR6}
use Rattle.plan_box.specs.declared.reason.Reason.{Reason}

-- a side of the step's strip runs through one defect everywhere
abbrev pub StripMet : Problem → List Defect → Known → Type 0
StripMet b defects k =
    ((1 ≤ k.least_a) × CrossesXAll defects k.plate k.least_a k.high_a 0 b.params.height)
    ⊎ ((k.high_b < Width b k.plate) × CrossesXAll defects k.plate k.least_b k.high_b 0 b.params.height)

-- a side of its band does
abbrev pub BandMet : Params → List Defect → Known → Type 0
BandMet p defects k =
    ((1 ≤ k.least_c) × CrossesYAll defects k.plate k.least_c k.high_c k.high_a k.least_b)
    ⊎ ((k.high_d < p.height) × CrossesYAll defects k.plate k.least_d k.high_d k.high_a k.least_b)

-- a side of its item's cell does
abbrev pub CellMet : List Defect → Known → Type 0
CellMet defects k =
    ((k.high_a < k.least_e) × CrossesXAll defects k.plate k.least_e k.high_e k.high_c k.least_d)
    ⊎ ((k.high_e + k.w < k.least_b) × CrossesXAll defects k.plate (k.least_e + k.w) (k.high_e + k.w) k.high_c k.least_d)

-- the reason at one decided step; `whole` where all steps are decided
abbrev pub FactOf : Problem → Bool → Reason → Level → Known → Level → Known → List Level → Type 0
FactOf b whole Reason.R1 = StepR1
FactOf b whole Reason.R2 = StepR2 b whole
FactOf b whole Reason.R3 = StepR3 b.defects
FactOf b whole Reason.R4 = StepR4 b
FactOf b whole Reason.R5 = StepR5 b.params
FactOf b whole Reason.R6 = StepR6 b.params
FactOf b whole Reason.R7 = λ m j l k later. ⊥
