-- Seven reasons for which no trace in a box meets the rules.
use Rattle.std.specs.Prelude.{◌≡◌, ℕ, zero, ◌+◌, ◌-◌, ◌<◌, ◌≤◌, ◌⊎◌, List, [], ◌∷◌, IsNone, Bool, true, IsTrue}
use Rattle.std.specs.List.{list_any}
use Rattle.glass_base.specs.declared.params.Params.{Params}
use Rattle.glass_base.specs.declared.item.Defect.{Defect}
use Rattle.glass_base.specs.Plates.{Width, Before}
use Rattle.glass_base.specs.Problem.{Problem}
use Rattle.defect_map.specs.Queries.{hits_all, crosses_x_all, crosses_y_all}
use Rattle.plan_trace.specs.declared.level.Level.{Level}
use Rattle.plan_trace.specs.declared.level.Level.TheVariants.{NewPlate, NewStrip, NewBand, NewCell, Over}
use Rattle.plan_trace.specs.TraceRules.{Meets, is_last_strip, is_last_band, is_last_cell, is_last_in_cell}
use Rattle.plan_box.specs.declared.reason.Reason.{Reason}
use Rattle.plan_box.specs.Ranges.{Ranges}
use Rattle.plan_box.specs.Decisions.{all_decided, IsPoint, numbers_of}
use Rattle.plan_box.specs.Leasts.{Known, no_known, Fixed, fixed, known}
use Rattle.plan_box.specs.Bounds.{least_length}

abbrev pub fixed_levels : List Fixed → List Level
fixed_levels [] = []
fixed_levels (fixed l _ ∷ later) = l ∷ fixed_levels later

-- R holds of some decided step: of the level and the values of the step before, those of the step, and the levels of the later
-- decided steps
abbrev pub SomeFixed : (Level → Known → Level → Known → List Level → Type 0) → Level → Known → List Fixed → Type 0
SomeFixed R m j [] = ⊥
SomeFixed R m j (fixed l k ∷ later) = R m j l k (fixed_levels later) ⊎ SomeFixed R l k later

-- a reason that is a fact at some decided step of the box
abbrev pub AtSome : (Level → Known → Level → Known → List Level → Type 0) → Problem → List Ranges → Type 0
AtSome R b rs = SomeFixed R NewPlate no_known (known b rs)

-- some defect stands in the way at every place of the ranges
abbrev pub HitsAll : List Defect → ℕ → ℕ → ℕ → ℕ → ℕ → ℕ → ℕ → Type 0
HitsAll defects plate x0 x1 w y0 y1 h = IsTrue (list_any (hits_all plate x0 x1 w y0 y1 h) defects)

abbrev pub CrossesXAll : List Defect → ℕ → ℕ → ℕ → ℕ → ℕ → Type 0
CrossesXAll defects plate x0 x1 from to = IsTrue (list_any (crosses_x_all plate x0 x1 from to) defects)

abbrev pub CrossesYAll : List Defect → ℕ → ℕ → ℕ → ℕ → ℕ → Type 0
CrossesYAll defects plate y0 y1 from to = IsTrue (list_any (crosses_y_all plate y0 y1 from to) defects)

-- a cut that can lie nowhere
abbrev pub StepR1 : Level → Known → Level → Known → List Level → Type 0
StepR1 m j l k later =
    (k.high_a < k.least_a) ⊎ (k.high_b < k.least_b) ⊎ (k.high_c < k.least_c) ⊎ (k.high_d < k.least_d) ⊎ (k.high_e < k.least_e)

-- the gap between two cuts with these least values and high ends can only be 1 to `waste - 1`
abbrev pub Tight : ℕ → ℕ → ℕ → ℕ → ℕ → Type 0
Tight waste from_least from_high to_least to_high = (from_high < to_least) × (to_high < from_least + waste)

-- the gap before a strip, or behind the last one of a finished plate
abbrev pub StripR2 : Problem → Bool → Level → Known → Known → List Level → Type 0
StripR2 b whole NewPlate j k later =
    Tight b.params.waste 0 0 k.least_a k.high_a
    ⊎ (IsTrue (is_last_strip whole later) × Tight b.params.waste k.least_b k.high_b (Width b k.plate) (Width b k.plate))
StripR2 b whole NewStrip j k later =
    Tight b.params.waste j.least_b j.high_b k.least_a k.high_a
    ⊎ (IsTrue (is_last_strip whole later) × Tight b.params.waste k.least_b k.high_b (Width b k.plate) (Width b k.plate))
StripR2 b whole _ j k later = ⊥

-- the gap before a band, or behind the last one of a finished strip
abbrev pub BandR2 : Params → Bool → Level → Known → Known → List Level → Type 0
BandR2 p whole NewPlate j k later =
    Tight p.waste 0 0 k.least_c k.high_c ⊎ (IsTrue (is_last_band whole later) × Tight p.waste k.least_d k.high_d p.height p.height)
BandR2 p whole NewStrip j k later =
    Tight p.waste 0 0 k.least_c k.high_c ⊎ (IsTrue (is_last_band whole later) × Tight p.waste k.least_d k.high_d p.height p.height)
BandR2 p whole NewBand j k later =
    Tight p.waste j.least_d j.high_d k.least_c k.high_c
    ⊎ (IsTrue (is_last_band whole later) × Tight p.waste k.least_d k.high_d p.height p.height)
BandR2 p whole _ j k later = ⊥

-- the gap before a cell, or behind the last one of a finished band
abbrev pub CellR2 : Params → Bool → Level → Known → Known → List Level → Type 0
CellR2 p whole Over j k later = ⊥
CellR2 p whole NewCell j k later =
    Tight p.waste (j.least_e + j.cell_w) (j.high_e + j.cell_w) k.least_e k.high_e
    ⊎ (IsTrue (is_last_cell whole later) × Tight p.waste (k.least_e + k.cell_w) (k.high_e + k.cell_w) k.least_b k.high_b)
CellR2 p whole _ j k later =
    Tight p.waste k.least_a k.high_a k.least_e k.high_e
    ⊎ (IsTrue (is_last_cell whole later) × Tight p.waste (k.least_e + k.cell_w) (k.high_e + k.cell_w) k.least_b k.high_b)

-- what is left over a single item of a finished cell that is not lifted, or over two items in a cell with exactly two steps
abbrev pub TopR2 : Params → Bool → Level → Level → ℕ → Known → Known → List Level → Type 0
TopR2 p whole Over Over lift j k later = ⊥
TopR2 p whole m Over lift j k later = IsTrue (is_last_in_cell true later) × (k.high_c + (j.h + k.h) < k.least_d)
TopR2 p whole m l zero j k later =
    IsTrue (is_last_in_cell whole later) × Tight p.waste (k.least_c + k.h) (k.high_c + k.h) k.least_d k.high_d
TopR2 p whole m l _ j k later = ⊥

-- a gap that can only be 1 to `waste - 1`
abbrev pub StepR2 : Problem → Bool → Level → Known → Level → Known → List Level → Type 0
StepR2 b whole m j l k later =
    StripR2 b whole l j k later
    ⊎ BandR2 b.params whole l j k later
    ⊎ CellR2 b.params whole l j k later
    ⊎ TopR2 b.params whole m l k.draw.lift j k later

-- the item meets one defect at every place of its ranges
abbrev pub ItemR3 : List Defect → Level → ℕ → Known → Type 0
ItemR3 defects Over lift k =
    (k.h ≤ k.least_d) × HitsAll defects k.plate k.least_e k.high_e k.w (k.least_d - k.h) (k.high_d - k.h) k.h
ItemR3 defects _ zero k = HitsAll defects k.plate k.least_e k.high_e k.w k.least_c k.high_c k.h
ItemR3 defects _ _ k =
    (k.h ≤ k.least_d) × HitsAll defects k.plate k.least_e k.high_e k.w (k.least_d - k.h) (k.high_d - k.h) k.h

abbrev pub StepR3 : List Defect → Level → Known → Level → Known → List Level → Type 0
StepR3 defects m j l k later = ItemR3 defects l k.draw.lift k

-- the line above an item that does not fill its cell, or below one that is lifted
abbrev pub LiftR4 : List Defect → Level → ℕ → Known → Type 0
LiftR4 defects Over zero k = ⊥
LiftR4 defects _ zero k =
    (k.high_c + k.h < k.least_d)
    × CrossesYAll defects k.plate (k.least_c + k.h) (k.high_c + k.h) k.high_e (k.least_e + k.w)
LiftR4 defects _ _ k =
    (k.h ≤ k.least_d) × CrossesYAll defects k.plate (k.least_d - k.h) (k.high_d - k.h) k.high_e (k.least_e + k.w)

-- a cut runs through one defect at every place of its ranges
abbrev pub StepR4 : Problem → Level → Known → Level → Known → List Level → Type 0
StepR4 b m j l k later =
    ((1 ≤ k.least_a) × CrossesXAll b.defects k.plate k.least_a k.high_a 0 b.params.height)
    ⊎ ((k.high_b < Width b k.plate) × CrossesXAll b.defects k.plate k.least_b k.high_b 0 b.params.height)
    ⊎ ((1 ≤ k.least_c) × CrossesYAll b.defects k.plate k.least_c k.high_c k.high_a k.least_b)
    ⊎ ((k.high_d < b.params.height) × CrossesYAll b.defects k.plate k.least_d k.high_d k.high_a k.least_b)
    ⊎ ((k.high_a < k.least_e) × CrossesXAll b.defects k.plate k.least_e k.high_e k.high_c k.least_d)
    ⊎ ((k.high_e + k.w < k.least_b) × CrossesXAll b.defects k.plate (k.least_e + k.w) (k.high_e + k.w) k.high_c k.least_d)
    ⊎ LiftR4 b.defects l k.draw.lift k

-- a strip is wider than allowed at every place
abbrev pub StepR5 : Params → Level → Known → Level → Known → List Level → Type 0
StepR5 p m j l k later = (p.max1 < k.band_w) ⊎ (k.high_a + p.max1 < k.least_b)

-- an item that is to lie over one where it cannot
abbrev pub OverR6 : Level → Level → Known → Known → Type 0
OverR6 m Over j k = (1 ≤ k.draw.lift) ⊎ (k.w < j.w) ⊎ (j.w < k.w) ⊎ (1 ≤ j.draw.lift) ⊎ (m ≡ Over)
OverR6 m _ j k = ⊥

-- the discrete numbers break a rule
abbrev pub StepR6 : Params → Level → Known → Level → Known → List Level → Type 0
StepR6 p m j l k later =
    (k.plates < 1)
    ⊎ (p.plates < k.plates)
    ⊎ (4 < k.draw.kind)
    ⊎ IsNone k.item
    ⊎ ((k.w ≡ k.h) × (1 ≤ k.draw.turn))
    ⊎ OverR6 m l j k
    ⊎ ((1 ≤ k.draw.lift) × (k.w < p.waste))

-- a cut that can lie nowhere, or more glass than there is
abbrev pub R1 : Problem → List Ranges → Type 0
R1 b rs = AtSome StepR1 b rs ⊎ (Before b b.params.plates < least_length b rs)

-- the box is a point whose numbers break a rule
abbrev pub R7 : Problem → List Ranges → Type 0
R7 b rs = IsPoint rs × IsTrue (all_decided rs) × ¬ Meets b (numbers_of rs)

-- the reason applies to the box
abbrev pub Applies : Reason → Problem → List Ranges → Type 0
Applies Reason.R1 b rs = R1 b rs
Applies Reason.R2 b rs = AtSome (StepR2 b (all_decided rs)) b rs
Applies Reason.R3 b rs = AtSome (StepR3 b.defects) b rs
Applies Reason.R4 b rs = AtSome (StepR4 b) b rs
Applies Reason.R5 b rs = AtSome (StepR5 b.params) b rs
Applies Reason.R6 b rs = AtSome (StepR6 b.params) b rs
Applies Reason.R7 b rs = R7 b rs

-- some reason applies
abbrev pub IsRefuted : Problem → List Ranges → Type 0
IsRefuted b rs = (reason : Reason) × Applies reason b rs

-- the order of the reasons
abbrev pub reason_number : Reason → ℕ
reason_number Reason.R1 = 1
reason_number Reason.R2 = 2
reason_number Reason.R3 = 3
reason_number Reason.R4 = 4
reason_number Reason.R5 = 5
reason_number Reason.R6 = 6
reason_number Reason.R7 = 7

-- the first reason that applies
pub record IsFirstReason (b : Problem) (rs : List Ranges) (reason : Reason) : Type 0 where
  pub applies : Applies reason b rs
  pub none_before : (other : Reason) → reason_number other < reason_number reason → ¬ Applies other b rs
