-- All that is known of each step of a trace that meets the rules.
use Rattle.std.proofs.Common.{List, [], ◌∷◌, map}
use Rattle.glass_base.specs.Problem.{Problem, IsProblem}
use Rattle.cut_model.specs.declared.steps.Step.{Step}
use Rattle.plan_trace.specs.Marks.{Level, NewPlate, Cut, cut, no_cut, no_place, place_of, draw_of, marks, attach, Spot, spot, spots}
use Rattle.plan_trace.specs.TraceRules.{Rules, EachStep, Meets}
use Rattle.plan_trace.specs.Canonical.{grown}
use Rattle.plan_trace.proofs.Inside.{Sound, meets_sound, sizes_of}
use Rattle.plan_trace.proofs.Totals.{Totals, totals}
use Rattle.plan_trace.proofs.Ends.{Ends, ends_on}
use Rattle.plan_trace.proofs.Items.{HasItem, items_all}

-- all that is known of a step
pub record Known (b : Problem) (m : Level) (t : Cut) (l : Level) (s : Cut) (later : List Spot) : Type 0 where
  pub rules : Rules b m t l s later
  pub sound : Sound b l t s
  pub ends : Ends b s later
  pub item : HasItem b s.place

-- of facts at each step
pub each_of : {R S : Level → Cut → Level → Cut → List Spot → Type 0} → ((m : Level) (t : Cut) (l : Level) (s : Cut) (later : List Spot) → R m t l s later → S m t l s later) →
    (m : Level) (t : Cut) (later : List Spot) → EachStep R m t later → EachStep S m t later
each_of f m t [] h = tt
each_of f m t (spot l s ∷ later) h = (f m t l s later h.0, each_of f l s later h.1)

pub rules_of : (b : Problem) (m : Level) (t : Cut) (later : List Spot) → EachStep (Known b) m t later → EachStep (Rules b) m t later
rules_of b m t later each = each_of (λ _ _ _ _ _ k. k.rules) m t later each

pub sound_of : (b : Problem) (m : Level) (t : Cut) (later : List Spot) → EachStep (Known b) m t later → EachStep (λ _ t l s _. Sound b l t s) m t later
sound_of b m t later each = each_of (λ _ _ _ _ _ k. k.sound) m t later each

pub totals_of : (b : Problem) (m : Level) (t : Cut) (l : Level) (n : Cut) (later : List Spot) → Known b m t l n later → EachStep (Known b) l n later → Totals b n (grown b later)
totals_of b m t l n later k each = totals b l n later k.sound.fits (rules_of b l n later each) (sound_of b l n later each)

known_from : (b : Problem) (m : Level) (t : Cut) (later : List Spot) → EachStep (Rules b) m t later → EachStep (λ _ t l s _. Sound b l t s) m t later → EachStep (λ _ _ _ s rest. Ends b s rest) m t later →
    EachStep (λ _ _ _ s _. HasItem b s.place) m t later → EachStep (Known b) m t later
known_from b m t [] r ok ends items = tt
known_from b m t (spot l s ∷ later) r ok ends items =
    (record { rules = r.0; sound = ok.0; ends = ends.0; item = items.0 }, known_from b l s later r.1 ok.1 ends.1 items.1)

-- of each step of a trace that meets the rules
pub known_all : (b : Problem) → IsProblem b → (ss : List Step) → Meets b ss → EachStep (Known b) NewPlate no_cut (spots b ss)
known_all b rules [] m = tt
known_all b rules (s ∷ ss) m =
    let first : Cut = cut (place_of b [] no_place (draw_of s)) s in
    let later : List Spot = attach (marks b (draw_of s ∷ []) first.place (map draw_of ss)) ss in
    let ok = meets_sound b (s ∷ ss) m in
    let end : Ends b first later = record { cell = m.0.tr6.1; band = m.0.tr5.3; strip = m.0.tr4.4 } in
    known_from b NewPlate no_cut (spots b (s ∷ ss)) m ok (end, ends_on b NewPlate first later m.1 ok.1 end) (items_all b rules [] NewPlate no_cut (s ∷ ss) (sizes_of b NewPlate no_cut (spots b (s ∷ ss)) m))
