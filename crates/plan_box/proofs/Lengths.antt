-- How far a trace reaches.
use Rattle.std.proofs.Common.{◌≡◌, ℕ, zero, suc, ◌+◌, ◌-◌, ◌≤◌, List, [], ◌∷◌, map, arith, ap, sym, ◌∙◌, refl, zero-add}
use Rattle.glass_base.specs.Plates.{Before}
use Rattle.glass_base.specs.Problem.{Problem}
use Rattle.cut_model.specs.declared.steps.Step.{Step}
use Rattle.cut_model.specs.Steps.{length_of, plates_after, plates_begun, last_right}
use Rattle.plan_trace.specs.declared.level.Level.{Level}
use Rattle.plan_trace.specs.declared.level.Level.TheVariants.{NewPlate, NewStrip, NewBand, NewCell, Over}
use Rattle.plan_trace.specs.Marks.{Draw, draw_of, marks, attach, place_of, Spot, spot, spots, Cut, cut, no_cut}
use Rattle.plan_trace.specs.TraceRules.{Rules, EachStep}
use Rattle.plan_trace.proofs.Inside.{Fits, Sound}
use Rattle.plan_box.proofs.Widths.{before_after, before_later, same_before}

-- where the last of some steps ends, or the one before where there is none
abbrev pub end_from : Problem → Cut → List Spot → ℕ
end_from b t [] = Before b t.plate + t.b
end_from b t (spot _ s ∷ later) = end_from b s later

-- the right side of the last strip, or `right` where there is no step
abbrev pub right_after : ℕ → List Step → ℕ
right_after right [] = right
right_after right (s ∷ ss) = right_after s.b ss

pub right_is : (s : Step) (ss : List Step) → last_right (s ∷ ss) ≡ right_after s.b ss
right_is s [] = refl
right_is s (n ∷ ss) = right_is n ss

pub plates_sum : (kind x y : ℕ) → plates_after kind x + y ≡ x + plates_after kind y
plates_sum zero x y = omega arith
plates_sum (suc kind) x y = refl

end_is : (b : Problem) (before : List Draw) (t : Cut) (ss : List Step) → t.plate ≡ t.plates - 1 →
    end_from b t (attach (marks b before t.place (map draw_of ss)) ss) ≡ Before b (t.plates + plates_begun ss - 1) + right_after t.b ss
end_is b before t [] is = ap (λ n. Before b n + t.b) (omega (arith, is))
end_is b before t (s ∷ ss) is =
    end_is b (draw_of s ∷ before) (cut (place_of b before t.place (draw_of s)) s) ss refl
    ∙ ap (λ n. Before b (n - 1) + right_after s.b ss) (plates_sum s.kind t.plates (plates_begun ss))

-- the length of a trace is where its last step ends
pub length_is : (b : Problem) (ss : List Step) → length_of b ss ≡ end_from b no_cut (spots b ss)
length_is b [] = refl
length_is b (s ∷ ss) =
    ap (λ n. Before b (plates_begun (s ∷ ss) - 1) + n) (right_is s ss)
    ∙ ap (λ n. Before b (n - 1) + right_after s.b ss) (sym (zero-add (plates_begun (s ∷ ss))))
    ∙ sym (end_is b [] no_cut (s ∷ ss) refl)

-- a step on the plate of the one before ends no earlier
same_plate : (b : Problem) (t s : Cut) → s.plate ≡ t.plate → t.b ≤ s.b → Before b t.plate + t.b ≤ Before b s.plate + s.b
same_plate b t s e le = omega (arith, le, same_before b s.plate t.plate e)

-- the plate of a later step is the same or a later one
pub step_on : (b : Problem) (m : Level) (t : Cut) (l : Level) (s : Cut) (later : List Spot) → 1 ≤ t.plates → t.plate ≡ t.plates - 1 →
    Rules b m t l s later → Sound b l t s → Fits b t → Before b t.plate + t.b ≤ Before b s.plate + s.b
step_on b m t NewPlate s later some is_plate r ok fits =
    omega (arith, fits.within, before_after b t.plate s.plate (omega (arith, ok.plate_is, some, is_plate)))
step_on b m t NewStrip s later some is_plate r ok fits = same_plate b t s ok.plate_is (omega (arith, r.tr4))
step_on b m t NewBand s later some is_plate r ok fits = same_plate b t s ok.plate_is (omega (arith, ok.inherits))
step_on b m t NewCell s later some is_plate r ok fits = same_plate b t s ok.plate_is (omega (arith, ok.inherits))
step_on b m t Over s later some is_plate r ok fits = same_plate b t s ok.plate_is (omega (arith, ok.inherits))

-- a trace is as long as each of its steps reaches
pub reaches : (b : Problem) (m : Level) (t : Cut) (later : List Spot) → 1 ≤ t.plates → t.plate ≡ t.plates - 1 → Fits b t →
    EachStep (Rules b) m t later → EachStep (λ _ t l s _. Sound b l t s) m t later → Before b t.plate + t.b ≤ end_from b t later
reaches b m t [] some is_plate fits r ok = omega arith
reaches b m t (spot l s ∷ later) some is_plate fits r ok =
    omega (arith, step_on b m t l s later some is_plate r.0 ok.0 fits, reaches b l s later r.0.tr1.0 ok.0.follows.plate ok.0.fits r.1 ok.1)

-- a trace ends on the plates that there are
pub ends_within : (b : Problem) (m : Level) (t : Cut) (ss : List Spot) → EachStep (Rules b) m t ss → EachStep (λ _ t l s _. Sound b l t s) m t ss →
    1 ≤ t.plates → t.plates ≤ b.params.plates → t.plate ≡ t.plates - 1 → Fits b t → end_from b t ss ≤ Before b b.params.plates
ends_within b m t [] r ok some few is_plate fits =
    omega (arith, fits.within, before_later b t.plate b.params.plates (omega (arith, some, few, is_plate)))
ends_within b m t (spot l s ∷ ss) r ok some few is_plate fits = ends_within b l s ss r.1 ok.1 r.0.tr1.0 r.0.tr1.1 ok.0.follows.plate ok.0.fits
