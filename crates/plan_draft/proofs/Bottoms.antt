-- The lower sides of bands, from one that may be right to the next.
use Rattle.std.proofs.Common.{◌≡◌, ℕ, ◌+◌, ◌<◌, ◌≤◌, ◌⊎◌, inl, inr, Option, Some, None, MatchOption, refl, arith}
use Rattle.std.proofs.lemmas.Bool.{cases_lt}
use Rattle.glass_base.specs.Problem.{Problem}
use Rattle.defect_map.specs.Queries.{CrossesNoneY, HitsNone}
use Rattle.plan_trace.specs.TraceRules.{Gap}
use Rattle.plan_draft.specs.inner.Least.{HasNone, HasNoneUpTo, IsSkip}
use Rattle.plan_draft.specs.inner.Places.{HasBand, IsBottomOf, IsTopOf}

-- what a stronger property has skipped
pub skip_stronger : {P Q : ℕ → Type 0} {from next : ℕ} → ((m : ℕ) → Q m → P m) → IsSkip P from next → IsSkip Q from next
skip_stronger f s = record { further = s.further; near = s.near; none_before = λ m le lt q. s.none_before m le lt (f m q) }

-- skipped numbers are behind
pub up_to_skip : {P : ℕ → Type 0} {from at next : ℕ} → HasNoneUpTo P from at → IsSkip P at next → HasNoneUpTo P from next
up_to_skip {at = at} h s = record {
  order = omega (arith, h.order, s.further);
  none = λ m le lt p. elim (cases_lt m at) [ inl less ↦ h.none m le less p | inr more ↦ s.none_before m more lt p ];
}

-- so is one number
pub up_to_next : {P : ℕ → Type 0} {from at : ℕ} → HasNoneUpTo P from at → ¬ P at → HasNoneUpTo P from (at + 1)
up_to_next {P = P} {at = at} h never = record {
  order = omega (arith, h.order);
  none = λ m le lt p. elim (cases_lt m at) [ inl less ↦ h.none m le less p | inr more ↦ by m (omega (arith, more, lt)) p ];
}
  where
    by : (m : ℕ) → m ≡ at → P m → ⊥
    by m e p = never (rw e at p)

bottom_hits : (b : Problem) (plate a right w h m : ℕ) → IsBottomOf b plate a right w h m → HitsNone b.defects plate a m (a + w) (m + h)
bottom_hits b plate a right w h m is = is.clear

-- at the plate's lower side
pub bottoms_zero : (b : Problem) (plate a right w h : ℕ) (found : Option ℕ) →
    MatchOption found (HitsNone b.defects plate a 0 (a + w) (0 + h)) (IsSkip (λ m. HitsNone b.defects plate a m (a + w) (m + h)) 0) →
    MatchOption found (IsBottomOf b plate a right w h 0) (IsSkip (IsBottomOf b plate a right w h) 0)
bottoms_zero b plate a right w h None clear = record { below = inl refl; line = inl refl; clear = clear }
bottoms_zero b plate a right w h (Some next) skip = skip_stronger (bottom_hits b plate a right w h) skip

-- above the least waste, where the line is clear
pub bottoms_above : (b : Problem) (plate a right w h c : ℕ) (found : Option ℕ) → b.params.waste ≤ c → CrossesNoneY b.defects plate c a right →
    MatchOption found (HitsNone b.defects plate a c (a + w) (c + h)) (IsSkip (λ m. HitsNone b.defects plate a m (a + w) (m + h)) c) →
    MatchOption found (IsBottomOf b plate a right w h c) (IsSkip (IsBottomOf b plate a right w h) c)
bottoms_above b plate a right w h c None le line clear = record { below = inr (omega (arith, le)); line = inr line; clear = clear }
bottoms_above b plate a right w h c (Some next) le line skip = skip_stronger (bottom_hits b plate a right w h) skip

-- below the least waste
pub bottoms_low : (b : Problem) (plate a right w h c : ℕ) → 0 < c → c < b.params.waste → IsSkip (IsBottomOf b plate a right w h) c b.params.waste
bottoms_low b plate a right w h c some lt = record {
  further = lt;
  near = omega (arith, b.params.accepted.waste_min1, b.params.accepted.min1_max1, b.params.accepted.max1_limit);
  none_before = λ m le less is. no_gap m (omega (arith, some, le)) less is.below;
}
  where
    no_gap : (m : ℕ) → 0 < m → m < b.params.waste → Gap b.params.waste 0 m → ⊥
    no_gap m positive less (inl e) = omega (arith, e, positive)
    no_gap m positive less (inr le) = omega (arith, le, less)

-- where the line is crossed
pub bottoms_crossed : (b : Problem) (plate a right w h c next : ℕ) → 0 < c → IsSkip (λ m. CrossesNoneY b.defects plate m a right) c next → IsSkip (IsBottomOf b plate a right w h) c next
bottoms_crossed b plate a right w h c next some s = record { further = s.further; near = s.near; none_before = λ m le lt is. by m (omega (arith, some, le)) is.line (s.none_before m le lt) }
  where
    by : (m : ℕ) → 0 < m → (m ≡ 0) ⊎ CrossesNoneY b.defects plate m a right → ¬ CrossesNoneY b.defects plate m a right → ⊥
    by m positive (inl e) crossed = omega (arith, e, positive)
    by m positive (inr clear) crossed = crossed clear

-- a band has its bottom
pub band_bottom : (b : Problem) (plate a right w h m : ℕ) → HasBand b plate a right w h m → IsBottomOf b plate a right w h m
band_bottom b plate a right w h m band = band.bottom

pub no_band : (b : Problem) (plate a right w h c : ℕ) → HasNone (IsTopOf b plate a right w h c) 0 → ¬ HasBand b plate a right w h c
no_band b plate a right w h c none band = none band.top (omega arith) band.is_top

-- a band that holds the item ends on the plate
under_height : (b : Problem) (plate a right w h c : ℕ) → HasBand b plate a right w h c → c + h ≤ b.params.height
under_height b plate a right w h c band = omega (arith, band.is_top.under, band.is_top.top.within)

pub bands_past : (b : Problem) (plate a right w h c : ℕ) → HasNoneUpTo (HasBand b plate a right w h) 0 c → b.params.height < c + h → HasNone (HasBand b plate a right w h) 0
bands_past b plate a right w h c none past m le band =
    elim (cases_lt m c) [
      | inl lt ↦ none.none m le lt band
      | inr more ↦ omega (arith, past, more, under_height b plate a right w h m band)
    ]
