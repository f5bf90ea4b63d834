-- The nine rules of a trace, each at one step.
use Rattle.std.specs.Prelude.{◌≡◌, ℕ, zero, ◌+◌, ◌-◌, ◌<◌, ◌≤◌, ◌⊎◌, List, [], ◌∷◌, IsSome, Bool, true, false, IsTrue}
use Rattle.glass_base.specs.declared.params.Params.{Params}
use Rattle.glass_base.specs.declared.item.Defect.{Defect}
use Rattle.glass_base.specs.Plates.{Width}
use Rattle.glass_base.specs.Problem.{Problem}
use Rattle.cut_model.specs.declared.steps.Step.{Step}
use Rattle.defect_map.specs.Queries.{HitsNone, CrossesNoneX, CrossesNoneY}
use Rattle.plan_trace.specs.declared.trace_rule.TraceRule.{TraceRule}
use Rattle.plan_trace.specs.Marks.{Level, NewPlate, NewStrip, NewBand, NewCell, Over, Cut, no_cut, Spot, spot, spots, levels}

-- whether a strip has no later strip on its plate, by the levels of the later steps; `end` where no step is left to tell
abbrev pub is_last_strip : Bool → List Level → Bool
is_last_strip end [] = end
is_last_strip end (NewPlate ∷ _) = true
is_last_strip end (NewStrip ∷ _) = false
is_last_strip end (_ ∷ later) = is_last_strip end later

-- whether a band has no later band in its strip
abbrev pub is_last_band : Bool → List Level → Bool
is_last_band end [] = end
is_last_band end (NewPlate ∷ _) = true
is_last_band end (NewStrip ∷ _) = true
is_last_band end (NewBand ∷ _) = false
is_last_band end (_ ∷ later) = is_last_band end later

-- whether a cell has no later cell in its band
abbrev pub is_last_cell : Bool → List Level → Bool
is_last_cell end [] = end
is_last_cell end (NewCell ∷ _) = false
is_last_cell end (Over ∷ later) = is_last_cell end later
is_last_cell end (_ ∷ _) = true

-- whether a step has no later step in its cell
abbrev pub is_last_in_cell : Bool → List Level → Bool
is_last_in_cell end [] = end
is_last_in_cell end (Over ∷ _) = false
is_last_in_cell end (_ ∷ _) = true

-- nothing lies between, or at least the least waste
abbrev pub Gap : ℕ → ℕ → ℕ → Type 0
Gap waste from to = (from ≡ to) ⊎ (from + waste ≤ to)

-- TR1: a plate has been begun, and not too many; the kind is one of the five
abbrev pub TR1 : Params → Cut → Type 0
TR1 p s = (1 ≤ s.plates) × (s.plates ≤ p.plates) × (s.draw.kind ≤ 4)

-- TR2: the stack has an item left
abbrev pub TR2 : Cut → Type 0
TR2 s = IsSome s.item

-- a step keeps the sides of what it does not begin
abbrev pub Inherits : Level → Cut → Cut → Type 0
Inherits NewPlate t s = Unit {0}
Inherits NewStrip t s = Unit {0}
Inherits NewBand t s = (s.a ≡ t.a) × (s.b ≡ t.b)
Inherits NewCell t s = (s.a ≡ t.a) × (s.b ≡ t.b) × (s.c ≡ t.c) × (s.d ≡ t.d)
Inherits Over t s = (s.a ≡ t.a) × (s.b ≡ t.b) × (s.c ≡ t.c) × (s.d ≡ t.d) × (s.e ≡ t.e)

-- TR3: turn and lift are 0 or 1, a square is not turned, and what is not begun is kept
abbrev pub TR3 : Level → Cut → Cut → Type 0
TR3 l t s = (s.draw.turn ≤ 1) × (s.draw.lift ≤ 1) × (s.w ≡ s.h → s.draw.turn ≡ 0) × Inherits l t s

-- a strip fits behind what ends at `from`, and into its plate
abbrev pub StripFits : Problem → ℕ → Cut → List Spot → Type 0
StripFits b from s later =
    Gap b.params.waste from s.a
    × (s.a + b.params.min1 ≤ s.b)
    × (s.b ≤ s.a + b.params.max1)
    × (s.b ≤ Width b s.plate)
    × (IsTrue (is_last_strip true (levels later)) → Gap b.params.waste s.b (Width b s.plate))

-- TR4: each strip fits behind the one before it on its plate, whose step `t` is
abbrev pub TR4 : Problem → Level → Cut → Cut → List Spot → Type 0
TR4 b NewPlate t s later = StripFits b 0 s later
TR4 b NewStrip t s later = StripFits b t.b s later
TR4 b _ t s later = Unit {0}

-- a band fits above what ends at `from`, and into its strip
abbrev pub BandFits : Params → ℕ → Cut → List Spot → Type 0
BandFits p from s later =
    Gap p.waste from s.c
    × (s.c + p.min2 ≤ s.d)
    × (s.d ≤ p.height)
    × (IsTrue (is_last_band true (levels later)) → Gap p.waste s.d p.height)

-- TR5: each band fits above the one before it in its strip
abbrev pub TR5 : Params → Level → Cut → Cut → List Spot → Type 0
TR5 p NewPlate t s later = BandFits p 0 s later
TR5 p NewStrip t s later = BandFits p 0 s later
TR5 p NewBand t s later = BandFits p t.d s later
TR5 p _ t s later = Unit {0}

-- a cell fits behind what ends at `from`, and into its band
abbrev pub CellFits : Params → ℕ → Cut → List Spot → Type 0
CellFits p from s later =
    Gap p.waste from s.e × (IsTrue (is_last_cell true (levels later)) → Gap p.waste (s.e + s.cell_w) s.b)

-- TR6: each cell fits behind the one before it in its band
abbrev pub TR6 : Params → Level → Cut → Cut → List Spot → Type 0
TR6 p NewPlate t s later = CellFits p s.a s later
TR6 p NewStrip t s later = CellFits p s.a s later
TR6 p NewBand t s later = CellFits p s.a s later
TR6 p NewCell t s later = CellFits p (t.e + t.cell_w) s later
TR6 p Over t s later = Unit {0}

-- an item that is alone in its cell, by its lift: it fills the cell, or leaves a waste above or below
abbrev pub AloneFits : Params → ℕ → Cut → Type 0
AloneFits p zero s = (s.c + s.h ≡ s.d) ⊎ ((s.c + s.h + p.waste ≤ s.d) × (p.waste ≤ s.w))
AloneFits p _ s = (s.c + s.h + p.waste ≤ s.d) × (p.waste ≤ s.w)

-- TR7: two items fill their cell, one over the other; one item alone fits. `m` is the level of the step before
abbrev pub TR7 : Params → Level → Level → Cut → Cut → List Spot → Type 0
TR7 p m Over t s later =
    (s.draw.lift ≡ 0) × (s.w ≡ t.w) × (t.draw.lift ≡ 0) × ¬ (m ≡ Over) × (s.c + (t.h + s.h) ≡ s.d)
TR7 p m _ t s later = IsTrue (is_last_in_cell true (levels later)) → AloneFits p s.draw.lift s

-- the lower side of an item of this height in a band from c to d
abbrev pub bottom : Level → ℕ → ℕ → ℕ → ℕ → ℕ
bottom Over lift c d h = d - h
bottom _ zero c d h = c
bottom _ _ c d h = d - h

-- TR8: the item's inside meets no defect
abbrev pub TR8 : List Defect → Level → Cut → Type 0
TR8 defects l s =
    let y : ℕ = bottom l s.draw.lift s.c s.d s.h in HitsNone defects s.plate s.e y (s.e + s.w) (y + s.h)

-- the line above an item that does not fill its cell, or below one that is lifted
abbrev pub LiftLine : List Defect → Level → ℕ → Cut → Type 0
LiftLine defects Over zero s = Unit {0}
LiftLine defects _ zero s = s.c + s.h < s.d → CrossesNoneY defects s.plate (s.c + s.h) s.e (s.e + s.w)
LiftLine defects _ _ s = CrossesNoneY defects s.plate (s.d - s.h) s.e (s.e + s.w)

-- TR9: the lines of the step's cuts run through no defect
pub record TR9 (b : Problem) (defects : List Defect) (l : Level) (s : Cut) : Type 0 where
  pub at_a : 0 < s.a → CrossesNoneX defects s.plate s.a 0 b.params.height
  pub at_b : s.b < Width b s.plate → CrossesNoneX defects s.plate s.b 0 b.params.height
  pub at_c : 0 < s.c → CrossesNoneY defects s.plate s.c s.a s.b
  pub at_d : s.d < b.params.height → CrossesNoneY defects s.plate s.d s.a s.b
  pub at_e : s.a < s.e → CrossesNoneX defects s.plate s.e s.c s.d
  pub at_end : s.e + s.w < s.b → CrossesNoneX defects s.plate (s.e + s.w) s.c s.d
  pub at_lift : LiftLine defects l s.draw.lift s

-- the rules in the order in which they are asked
abbrev pub trace_rules : List TraceRule
trace_rules =
    TraceRule.TR1
    ∷ TraceRule.TR2
    ∷ TraceRule.TR3
    ∷ TraceRule.TR4
    ∷ TraceRule.TR5
    ∷ TraceRule.TR6
    ∷ TraceRule.TR7
    ∷ TraceRule.TR8
    ∷ TraceRule.TR9
    ∷ []

-- their numbers, from 1 on
abbrev pub rule_number : TraceRule → ℕ
rule_number TraceRule.TR1 = 1
rule_number TraceRule.TR2 = 2
rule_number TraceRule.TR3 = 3
rule_number TraceRule.TR4 = 4
rule_number TraceRule.TR5 = 5
rule_number TraceRule.TR6 = 6
rule_number TraceRule.TR7 = 7
rule_number TraceRule.TR8 = 8
rule_number TraceRule.TR9 = 9

-- a rule at a step `s` of level `l`, the step before it and its level, and the later steps
abbrev pub KeepsTraceRule : Problem → TraceRule → Level → Cut → Level → Cut → List Spot → Type 0
KeepsTraceRule b TraceRule.TR1 m t l s later = TR1 b.params s
KeepsTraceRule b TraceRule.TR2 m t l s later = TR2 s
KeepsTraceRule b TraceRule.TR3 m t l s later = TR3 l t s
KeepsTraceRule b TraceRule.TR4 m t l s later = TR4 b l t s later
KeepsTraceRule b TraceRule.TR5 m t l s later = TR5 b.params l t s later
KeepsTraceRule b TraceRule.TR6 m t l s later = TR6 b.params l t s later
KeepsTraceRule b TraceRule.TR7 m t l s later = TR7 b.params m l t s later
KeepsTraceRule b TraceRule.TR8 m t l s later = TR8 b.defects l s
KeepsTraceRule b TraceRule.TR9 m t l s later = TR9 b b.defects l s

-- all rules at one step
pub record Rules (b : Problem) (m : Level) (t : Cut) (l : Level) (s : Cut) (later : List Spot) : Type 0 where
  pub tr1 : TR1 b.params s
  pub tr2 : TR2 s
  pub tr3 : TR3 l t s
  pub tr4 : TR4 b l t s later
  pub tr5 : TR5 b.params l t s later
  pub tr6 : TR6 b.params l t s later
  pub tr7 : TR7 b.params m l t s later
  pub tr8 : TR8 b.defects l s
  pub tr9 : TR9 b b.defects l s

-- a fact at each step, behind a step `t` of level `m`
abbrev pub EachStep : (Level → Cut → Level → Cut → List Spot → Type 0) → Level → Cut → List Spot → Type 0
EachStep R m t [] = Unit {0}
EachStep R m t (spot l s ∷ later) = R m t l s later × EachStep R l s later

-- the trace meets the nine rules
abbrev pub Meets : Problem → List Step → Type 0
Meets b steps = EachStep (Rules b) NewPlate no_cut (spots b steps)
