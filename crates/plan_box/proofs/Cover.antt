-- No trace that meets the rules is shorter than a box's least length, nor in a box that is refuted.
use Rattle.std.proofs.Common.{◌≡◌, ℕ, ◌+◌, ◌-◌, ◌*◌, ◌≤◌, inl, inr, List, [], ◌∷◌, refl, arith, ap, mul-le-mul_left}
use Rattle.std.proofs.lemmas.Bool.{cases_order}
use Rattle.glass_base.specs.Items.{area_of}
use Rattle.glass_base.specs.Plates.{Before}
use Rattle.glass_base.specs.Problem.{Problem, IsProblem}
use Rattle.cut_model.specs.declared.steps.Step.{Step}
use Rattle.cut_model.specs.Steps.{length_of}
use Rattle.plan_trace.specs.Claims.{IsComplete}
use Rattle.plan_trace.specs.declared.level.Level.{Level}
use Rattle.plan_trace.specs.declared.level.Level.TheVariants.{NewPlate, NewStrip, NewBand, NewCell, Over}
use Rattle.plan_trace.specs.Marks.{Spot, spot, spots, levels, Cut, no_cut}
use Rattle.plan_trace.specs.TraceRules.{Rules, EachStep, Meets}
use Rattle.plan_trace.proofs.Inside.{Fits, Sound, meets_sound}
use Rattle.plan_box.specs.Ranges.{Ranges, InBox}
use Rattle.plan_box.specs.Decisions.{all_decided}
use Rattle.plan_box.specs.Leasts.{Known, no_known, Fixed, fixed, known, last_known, Holds, HoldAll}
use Rattle.plan_box.specs.Bounds.{end_of_strip, reached, least_length, bound}
use Rattle.plan_box.specs.declared.reason.Reason.{Reason}
use Rattle.plan_box.specs.Reasons.{AtSome, fixed_levels, StepR1, R1, Applies, IsFirstReason, reason_number}
use Rattle.plan_box.proofs.Counts.{whole_known}
use Rattle.plan_box.proofs.Law.{known_holds, no_box}
use Rattle.plan_box.proofs.Lengths.{end_from, length_is, reaches, ends_within}
use Rattle.plan_box.proofs.Packing.{area_at, fits_in, BandPacked, band_packed, three_from, ceil_le, first_in_band}
use Rattle.plan_box.proofs.Points.{r7_sound}
use Rattle.plan_box.proofs.Refute.{Here, Leads, leads_of, refute, step_r1, step_r2, step_r3, step_r4, step_r5, step_r6}
use Rattle.plan_box.proofs.WholeArea.{whole_area}
use Rattle.glass_base.proofs.PlateLemmas.{before-zero}

no_fits : (b : Problem) → Fits b no_cut
no_fits b = record {
  right = omega arith;
  top = omega arith;
  fill = omega arith;
  narrow = omega arith;
  within = omega arith;
  high = omega arith;
  ends = omega arith;
  widest = omega arith;
  least = λ h. absurd (omega (arith, h));
  tall = λ h. absurd (omega (arith, h));
}

no_packed : BandPacked no_cut
no_packed = record { fits = omega arith; part = omega arith }

-- the second line of the length
two_from : (b : Problem) (m : Level) (t : Cut) (k : Known) (ks : List Fixed) (ss : List Spot) → HoldAll ks ss →
    EachStep (Rules b) m t ss → EachStep (λ _ t l s _. Sound b l t s) m t ss → Holds k t → 1 ≤ t.plates → t.plate ≡ t.plates - 1 → Fits b t →
    end_of_strip b (last_known k ks) ≤ end_from b t ss
two_from b m t k [] ss h r ok at some is_plate fits =
    rw (ap (λ p. p.plate) at.place) (omega (arith, at.b, reaches b m t ss some is_plate fits r ok))
two_from b m t k (fixed l n ∷ ks) [] h r ok at some is_plate fits = elim h [ ]
two_from b m t k (fixed l n ∷ ks) (spot y s ∷ ss) h r ok at some is_plate fits =
    two_from b y s n ks ss h.2 r.1 ok.1 h.1 r.0.tr1.0 ok.0.follows.plate ok.0.fits

module _ (b : Problem) (high : 1 ≤ b.params.height) where
  reached_from : (ks : List Fixed) (xs : List Spot) → HoldAll ks xs → EachStep (Rules b) NewPlate no_cut xs → EachStep (λ _ t l s _. Sound b l t s) NewPlate no_cut xs →
      reached b (area_at no_cut xs) ks ≤ end_from b no_cut xs
  reached_from [] xs h r ok = omega arith
  reached_from (fixed l k ∷ ks) [] h r ok = elim h [ ]
  reached_from (fixed l k ∷ ks) (spot y s ∷ xs) h r ok =
      omega (
        arith,
        two_from b y s k ks xs h.2 r.1 ok.1 h.1 r.0.tr1.0 ok.0.follows.plate ok.0.fits,
        three_from b y s k ks xs high h.2 r.1 ok.1 h.1 r.0.tr1.0 ok.0.follows.plate ok.0.fits ok.0.own (band_packed b NewPlate no_cut y s xs r.0 ok.0 (no_fits b) refl no_packed),
      )

  first_area : (H E used area all : ℕ) → used + all ≤ H * E + area → area ≤ used → all ≤ H * E
  first_area H E used area all a c = omega arith

  in_all : (x y z n m : ℕ) → n ≤ 0 + m → 0 + n ≤ x + (y + (z + m))
  in_all x y z n m h = omega arith

  -- the items lie on the glass up to the end of the trace
  area_fits : (xs : List Spot) → EachStep (Rules b) NewPlate no_cut xs → EachStep (λ _ t l s _. Sound b l t s) NewPlate no_cut xs →
      area_at no_cut xs ≤ b.params.height * end_from b no_cut xs
  area_fits [] r ok = omega arith
  area_fits (spot NewPlate s ∷ xs) r ok =
      first_area _ _ _ _ _ (fits_in b NewPlate s xs r.0.tr1.0 ok.0.follows.plate ok.0.fits ok.0.own r.1 ok.1)
      (rw (ok.0.follows.area, ok.0.follows.adds.0) (in_all _ _ _ _ _ (first_in_band 0 s.w s.h s.cell_h (omega (arith, ok.0.follows.adds)))))
  area_fits (spot NewStrip s ∷ xs) r ok = absurd (omega (arith, r.0.tr1.0, ok.0.follows.counts))
  area_fits (spot NewBand s ∷ xs) r ok = absurd (omega (arith, r.0.tr1.0, ok.0.follows.counts))
  area_fits (spot NewCell s ∷ xs) r ok = absurd (omega (arith, r.0.tr1.0, ok.0.follows.counts))
  area_fits (spot Over s ∷ xs) r ok = absurd (omega (arith, r.0.tr1.0, ok.0.follows.counts))

  -- a trace ends on the plates that there are
  ends_all : (xs : List Spot) → EachStep (Rules b) NewPlate no_cut xs → EachStep (λ _ t l s _. Sound b l t s) NewPlate no_cut xs →
      end_from b no_cut xs ≤ Before b b.params.plates
  ends_all [] r ok = omega (arith, before-zero b)
  ends_all (spot y s ∷ xs) r ok = ends_within b y s xs r.1 ok.1 r.0.tr1.0 r.0.tr1.1 ok.0.follows.plate ok.0.fits

module _ (b : Problem) (rs : List Ranges) (ss : List Step) (is_in : InBox ss rs) (m : Meets b ss) where
  box_leads : Leads (all_decided rs) (fixed_levels (known b rs)) (levels (spots b ss))
  box_leads = leads_of _ _ _ (known_holds b rs ss is_in m) (whole_known b rs ss is_in)

  -- no decided step contradicts the trace
  by_steps : (R : Level → Known → Level → Known → List Level → Type 0) →
      ((m : Level) (j : Known) (t : Cut) (l : Level) (k : Known) (s : Cut) (later : List Level) (rest : List Spot) →
      Here b (all_decided rs) m j t l k s later rest → R m j l k later → ⊥) → ¬ AtSome R b rs
  by_steps R step some =
      refute b (all_decided rs) R step NewPlate no_known no_cut (known b rs) (spots b ss) no_box (known_holds b rs ss is_in m) m (meets_sound b ss m) box_leads some

-- the trace is in the box, meets the rules and has a step for each item
module _ (b : Problem) (rules : IsProblem b) (high : 1 ≤ b.params.height) (rs : List Ranges) (ss : List Step) (is_in : InBox ss rs) (whole : IsComplete b ss) where
  -- it is no shorter than the box's least length
  pub length_sound : least_length b rs ≤ length_of b ss
  length_sound =
      let ok = meets_sound b ss whole.meets in
      let area : area_at no_cut (spots b ss) ≡ area_of b.items = whole_area b rules ss whole.meets whole.each_item in
      omega (
        arith,
        length_is b ss,
        rw area at (reached_from b high (known b rs) (spots b ss) (known_holds b rs ss is_in whole.meets) whole.meets ok),
        ceil_le (area_of b.items) b.params.height (end_from b no_cut (spots b ss)) high (rw area at (area_fits b high (spots b ss) whole.meets ok)),
      )

  -- its loss is at least the bound
  pub bound_sound : bound b rs ≤ b.params.height * length_of b ss - area_of b.items
  bound_sound = omega (arith, mul-le-mul_left b.params.height length_sound)

  r1_sound : ¬ R1 b rs
  r1_sound r =
      elim r [
        | inl x ↦ by_steps b rs ss is_in whole.meets StepR1 (step_r1 b (all_decided rs)) x
        | inr x ↦ omega (arith, x, length_sound, length_is b ss, ends_all b high (spots b ss) whole.meets (meets_sound b ss whole.meets))
      ]

  -- no reason applies to the box
  pub reason_sound : (reason : Reason) → ¬ Applies reason b rs
  reason_sound Reason.R1 a = r1_sound a
  reason_sound Reason.R2 a = by_steps b rs ss is_in whole.meets _ (step_r2 b (all_decided rs)) a
  reason_sound Reason.R3 a = by_steps b rs ss is_in whole.meets _ (step_r3 b (all_decided rs)) a
  reason_sound Reason.R4 a = by_steps b rs ss is_in whole.meets _ (step_r4 b (all_decided rs)) a
  reason_sound Reason.R5 a = by_steps b rs ss is_in whole.meets _ (step_r5 b (all_decided rs)) a
  reason_sound Reason.R6 a = by_steps b rs ss is_in whole.meets _ (step_r6 b (all_decided rs)) a
  reason_sound Reason.R7 a = r7_sound b rs ss is_in whole.meets a

-- reasons of one number are one
by_number : (x y : Reason) → reason_number x ≡ reason_number y → x ≡ y
by_number Reason.R1 Reason.R1 e = refl
by_number Reason.R1 Reason.R2 e = absurd (cc e)
by_number Reason.R1 Reason.R3 e = absurd (cc e)
by_number Reason.R1 Reason.R4 e = absurd (cc e)
by_number Reason.R1 Reason.R5 e = absurd (cc e)
by_number Reason.R1 Reason.R6 e = absurd (cc e)
by_number Reason.R1 Reason.R7 e = absurd (cc e)
by_number Reason.R2 Reason.R1 e = absurd (cc e)
by_number Reason.R2 Reason.R2 e = refl
by_number Reason.R2 Reason.R3 e = absurd (cc e)
by_number Reason.R2 Reason.R4 e = absurd (cc e)
by_number Reason.R2 Reason.R5 e = absurd (cc e)
by_number Reason.R2 Reason.R6 e = absurd (cc e)
by_number Reason.R2 Reason.R7 e = absurd (cc e)
by_number Reason.R3 Reason.R1 e = absurd (cc e)
by_number Reason.R3 Reason.R2 e = absurd (cc e)
by_number Reason.R3 Reason.R3 e = refl
by_number Reason.R3 Reason.R4 e = absurd (cc e)
by_number Reason.R3 Reason.R5 e = absurd (cc e)
by_number Reason.R3 Reason.R6 e = absurd (cc e)
by_number Reason.R3 Reason.R7 e = absurd (cc e)
by_number Reason.R4 Reason.R1 e = absurd (cc e)
by_number Reason.R4 Reason.R2 e = absurd (cc e)
by_number Reason.R4 Reason.R3 e = absurd (cc e)
by_number Reason.R4 Reason.R4 e = refl
by_number Reason.R4 Reason.R5 e = absurd (cc e)
by_number Reason.R4 Reason.R6 e = absurd (cc e)
by_number Reason.R4 Reason.R7 e = absurd (cc e)
by_number Reason.R5 Reason.R1 e = absurd (cc e)
by_number Reason.R5 Reason.R2 e = absurd (cc e)
by_number Reason.R5 Reason.R3 e = absurd (cc e)
by_number Reason.R5 Reason.R4 e = absurd (cc e)
by_number Reason.R5 Reason.R5 e = refl
by_number Reason.R5 Reason.R6 e = absurd (cc e)
by_number Reason.R5 Reason.R7 e = absurd (cc e)
by_number Reason.R6 Reason.R1 e = absurd (cc e)
by_number Reason.R6 Reason.R2 e = absurd (cc e)
by_number Reason.R6 Reason.R3 e = absurd (cc e)
by_number Reason.R6 Reason.R4 e = absurd (cc e)
by_number Reason.R6 Reason.R5 e = absurd (cc e)
by_number Reason.R6 Reason.R6 e = refl
by_number Reason.R6 Reason.R7 e = absurd (cc e)
by_number Reason.R7 Reason.R1 e = absurd (cc e)
by_number Reason.R7 Reason.R2 e = absurd (cc e)
by_number Reason.R7 Reason.R3 e = absurd (cc e)
by_number Reason.R7 Reason.R4 e = absurd (cc e)
by_number Reason.R7 Reason.R5 e = absurd (cc e)
by_number Reason.R7 Reason.R6 e = absurd (cc e)
by_number Reason.R7 Reason.R7 e = refl

-- there is one first reason
pub first_reason_one : (b : Problem) (rs : List Ranges) (x y : Reason) → IsFirstReason b rs x → IsFirstReason b rs y → x ≡ y
first_reason_one b rs x y f g =
    elim (cases_order (reason_number x) (reason_number y)) [
      | inl same ↦ by_number x y same
      | inr (inl less) ↦ absurd (g.none_before x less f.applies)
      | inr (inr more) ↦ absurd (f.none_before y more g.applies)
    ]
