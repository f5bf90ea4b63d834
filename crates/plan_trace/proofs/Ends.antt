-- What lies behind the last cell, band and strip of a list, at each step of a trace.
use Rattle.std.proofs.Common.{◌+◌, List, [], ◌∷◌, IsTrue, true}
use Rattle.glass_base.specs.Plates.{Width}
use Rattle.glass_base.specs.Problem.{Problem}
use Rattle.plan_trace.specs.Marks.{Level, NewPlate, NewStrip, NewBand, NewCell, Over, Cut, Spot, spot, levels}
use Rattle.plan_trace.specs.TraceRules.{Rules, EachStep, Gap, is_last_cell, is_last_band, is_last_strip}
use Rattle.plan_trace.proofs.Inside.{Sound}

-- where a step's cell, band or strip is the last one, what remains is a gap
pub record Ends (b : Problem) (s : Cut) (later : List Spot) : Type 0 where
  pub cell : IsTrue (is_last_cell true (levels later)) → Gap b.params.waste (s.e + s.cell_w) s.b
  pub band : IsTrue (is_last_band true (levels later)) → Gap b.params.waste s.d b.params.height
  pub strip : IsTrue (is_last_strip true (levels later)) → Gap b.params.waste s.b (Width b s.plate)

pub ends_on : (b : Problem) (m : Level) (t : Cut) (later : List Spot) → EachStep (Rules b) m t later → EachStep (λ _ t l s _. Sound b l t s) m t later → Ends b t later →
    EachStep (λ _ _ _ s rest. Ends b s rest) m t later
ends_on b m t [] r ok h = tt
ends_on b m t (spot NewPlate s ∷ later) r ok h =
    let here : Ends b s later = record { cell = r.0.tr6.1; band = r.0.tr5.3; strip = r.0.tr4.4 } in
    (here, ends_on b NewPlate s later r.1 ok.1 here)
ends_on b m t (spot NewStrip s ∷ later) r ok h =
    let here : Ends b s later = record { cell = r.0.tr6.1; band = r.0.tr5.3; strip = r.0.tr4.4 } in
    (here, ends_on b NewStrip s later r.1 ok.1 here)
ends_on b m t (spot NewBand s ∷ later) r ok h =
    let here : Ends b s later = record { cell = r.0.tr6.1; band = r.0.tr5.3; strip = λ e. rw (ok.0.inherits.1, ok.0.plate_is) (h.strip e) } in
    (here, ends_on b NewBand s later r.1 ok.1 here)
ends_on b m t (spot NewCell s ∷ later) r ok h =
    let here : Ends b s later = record { cell = r.0.tr6.1; band = λ e. rw ok.0.inherits.3 (h.band e); strip = λ e. rw (ok.0.inherits.1, ok.0.plate_is) (h.strip e) } in
    (here, ends_on b NewCell s later r.1 ok.1 here)
ends_on b m t (spot Over s ∷ later) r ok h =
    let here : Ends b s later = record {
      cell = λ e. rw (ok.0.inherits.4, ok.0.follows.adds.0, ok.0.inherits.1) (h.cell e);
      band = λ e. rw ok.0.inherits.3 (h.band e);
      strip = λ e. rw (ok.0.inherits.1, ok.0.plate_is) (h.strip e);
    } in
    (here, ends_on b Over s later r.1 ok.1 here)
