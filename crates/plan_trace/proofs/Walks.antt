-- Steps as code carries them are the placed steps, in all that rules read.
use Rattle.std.proofs.Common.{◌≡◌, ℕ, zero, suc, ◌+◌, ◌<◌, ◌≤◌, ◌↔◌, List, [], ◌∷◌, All, length, map, take, drop, get_or, refl, sym, ap, subst, arith, IsTrue, true, zero-add, ◌⊎◌, inl, inr}
use Rattle.std.proofs.lemmas.Bool.{cases_order}
use Rattle.std.proofs.lemmas.List.{at_drop_more}
use Rattle.glass_base.specs.declared.params.Params.{Params}
use Rattle.glass_base.specs.declared.item.Defect.{Defect}
use Rattle.glass_base.specs.Items.{HasSides}
use Rattle.glass_base.specs.Problem.{Problem, IsProblem}
use Rattle.glass_base.proofs.PlateLemmas.{width_within}
use Rattle.cut_model.specs.declared.steps.Step.{Step}
use Rattle.cut_model.specs.Steps.{plates_after}
use Rattle.plan_trace.specs.declared.laid.Laid.{Laid}
use Rattle.plan_trace.specs.declared.trace_rule.TraceRule.{TraceRule}
use Rattle.plan_trace.specs.Marks.{Level, NewPlate, NewStrip, NewBand, NewCell, Over, level_of, Draw, draw_of, Place, place_of, begins, marks, attach, levels, Cut, cut, no_cut, Spot, spot, spots}
use Rattle.plan_trace.specs.TraceRules.{KeepsTraceRule, EachStep, TR3, TR4, TR5, TR6, TR7, TR9, StripFits, BandFits, CellFits, LiftLine, AloneFits, is_last_in_cell, trace_rules}
use Rattle.plan_trace.specs.Broken.{AtStep, RuleAt, RuleHolds}
use Rattle.plan_trace.specs.inner.Laid.{ahead, cut_of, draws_of, next_laid, no_laid, IsFitted}
use Rattle.plan_trace.proofs.Breaches.{at_each, each_size}
use Rattle.plan_trace.proofs.Inside.{Adds, Sound, sized_sound}
use Rattle.plan_trace.proofs.Items.{HasItem, high, item_all, items_all, wide}
use Rattle.plan_trace.proofs.Served.{spots_count}
use Rattle.plan_trace.proofs.LaidLemmas.{draws_more}
use Rattle.glass_base.specs.declared.limits.TheConstants.{MOST_SIDE}

-- what rules read of a placed step
abbrev pub seen : Cut → Cut
seen t = record t { place = record t.place { cell_h = 0; band_w = 0; strip_w = 0; band_area = 0; area = 0 } }

-- the rules do not read the rest
same3 : (l : Level) (t s : Cut) → TR3 l t s ↔ TR3 l (seen t) (seen s)
same3 NewPlate t s = ((λ h. h), (λ h. h))
same3 NewStrip t s = ((λ h. h), (λ h. h))
same3 NewBand t s = ((λ h. h), (λ h. h))
same3 NewCell t s = ((λ h. h), (λ h. h))
same3 Over t s = ((λ h. h), (λ h. h))

strip_same : (b : Problem) (from : ℕ) (s : Cut) (later other : List Spot) → levels later ≡ levels other → StripFits b from s later → StripFits b from (seen s) other
strip_same b from s later other e h = (h.0, h.1, h.2, h.3, λ last. h.4 (rw e last))

strip_back : (b : Problem) (from : ℕ) (s : Cut) (later other : List Spot) → levels later ≡ levels other → StripFits b from (seen s) other → StripFits b from s later
strip_back b from s later other e h = (h.0, h.1, h.2, h.3, λ last. h.4 (rw (← e) last))

same4 : (b : Problem) (l : Level) (t s : Cut) (later other : List Spot) → levels later ≡ levels other → TR4 b l t s later ↔ TR4 b l (seen t) (seen s) other
same4 b NewPlate t s later other e = (strip_same b 0 s later other e, strip_back b 0 s later other e)
same4 b NewStrip t s later other e = (strip_same b t.b s later other e, strip_back b t.b s later other e)
same4 b NewBand t s later other e = ((λ h. h), (λ h. h))
same4 b NewCell t s later other e = ((λ h. h), (λ h. h))
same4 b Over t s later other e = ((λ h. h), (λ h. h))

band_same : (p : Params) (from : ℕ) (s : Cut) (later other : List Spot) → levels later ≡ levels other → BandFits p from s later → BandFits p from (seen s) other
band_same p from s later other e h = (h.0, h.1, h.2, λ last. h.3 (rw e last))

band_back : (p : Params) (from : ℕ) (s : Cut) (later other : List Spot) → levels later ≡ levels other → BandFits p from (seen s) other → BandFits p from s later
band_back p from s later other e h = (h.0, h.1, h.2, λ last. h.3 (rw (← e) last))

same5 : (p : Params) (l : Level) (t s : Cut) (later other : List Spot) → levels later ≡ levels other → TR5 p l t s later ↔ TR5 p l (seen t) (seen s) other
same5 p NewPlate t s later other e = (band_same p 0 s later other e, band_back p 0 s later other e)
same5 p NewStrip t s later other e = (band_same p 0 s later other e, band_back p 0 s later other e)
same5 p NewBand t s later other e = (band_same p t.d s later other e, band_back p t.d s later other e)
same5 p NewCell t s later other e = ((λ h. h), (λ h. h))
same5 p Over t s later other e = ((λ h. h), (λ h. h))

cell_same : (p : Params) (from : ℕ) (s : Cut) (later other : List Spot) → levels later ≡ levels other → CellFits p from s later → CellFits p from (seen s) other
cell_same p from s later other e h = (h.0, λ last. h.1 (rw e last))

cell_back : (p : Params) (from : ℕ) (s : Cut) (later other : List Spot) → levels later ≡ levels other → CellFits p from (seen s) other → CellFits p from s later
cell_back p from s later other e h = (h.0, λ last. h.1 (rw (← e) last))

same6 : (p : Params) (l : Level) (t s : Cut) (later other : List Spot) → levels later ≡ levels other → TR6 p l t s later ↔ TR6 p l (seen t) (seen s) other
same6 p NewPlate t s later other e = (cell_same p s.a s later other e, cell_back p s.a s later other e)
same6 p NewStrip t s later other e = (cell_same p s.a s later other e, cell_back p s.a s later other e)
same6 p NewBand t s later other e = (cell_same p s.a s later other e, cell_back p s.a s later other e)
same6 p NewCell t s later other e = (cell_same p (t.e + t.cell_w) s later other e, cell_back p (t.e + t.cell_w) s later other e)
same6 p Over t s later other e = ((λ h. h), (λ h. h))

alone_same : (p : Params) (lift : ℕ) (s : Cut) → AloneFits p lift s ↔ AloneFits p lift (seen s)
alone_same p zero s = ((λ h. h), (λ h. h))
alone_same p (suc n) s = ((λ h. h), (λ h. h))

begun_same : (p : Params) (s : Cut) (later other : List Level) → later ≡ other →
    (IsTrue (is_last_in_cell true later) → AloneFits p s.draw.lift s) ↔ (IsTrue (is_last_in_cell true other) → AloneFits p s.draw.lift (seen s))
begun_same p s later other e =
    let same = alone_same p s.draw.lift s in ((λ h last. same.0 (h (rw e last))), (λ h last. same.1 (h (rw (← e) last))))

same7 : (p : Params) (m l : Level) (t s : Cut) (later other : List Spot) → levels later ≡ levels other → TR7 p m l t s later ↔ TR7 p m l (seen t) (seen s) other
same7 p m NewPlate t s later other e = begun_same p s (levels later) (levels other) e
same7 p m NewStrip t s later other e = begun_same p s (levels later) (levels other) e
same7 p m NewBand t s later other e = begun_same p s (levels later) (levels other) e
same7 p m NewCell t s later other e = begun_same p s (levels later) (levels other) e
same7 p m Over t s later other e = ((λ h. h), (λ h. h))

line_same : (defects : List Defect) (l : Level) (lift : ℕ) (s : Cut) → LiftLine defects l lift s ↔ LiftLine defects l lift (seen s)
line_same defects NewPlate zero s = ((λ h. h), (λ h. h))
line_same defects NewPlate (suc n) s = ((λ h. h), (λ h. h))
line_same defects NewStrip zero s = ((λ h. h), (λ h. h))
line_same defects NewStrip (suc n) s = ((λ h. h), (λ h. h))
line_same defects NewBand zero s = ((λ h. h), (λ h. h))
line_same defects NewBand (suc n) s = ((λ h. h), (λ h. h))
line_same defects NewCell zero s = ((λ h. h), (λ h. h))
line_same defects NewCell (suc n) s = ((λ h. h), (λ h. h))
line_same defects Over zero s = ((λ h. h), (λ h. h))
line_same defects Over (suc n) s = ((λ h. h), (λ h. h))

same9 : (b : Problem) (defects : List Defect) (l : Level) (s : Cut) → TR9 b defects l s ↔ TR9 b defects l (seen s)
same9 b defects l s =
    let line = line_same defects l s.draw.lift s in (
      (λ r. record { at_a = r.at_a; at_b = r.at_b; at_c = r.at_c; at_d = r.at_d; at_e = r.at_e; at_end = r.at_end; at_lift = line.0 r.at_lift }),
      (λ r. record { at_a = r.at_a; at_b = r.at_b; at_c = r.at_c; at_d = r.at_d; at_e = r.at_e; at_end = r.at_end; at_lift = line.1 r.at_lift }),
    )

-- no rule reads the rest
same_rule : (b : Problem) (rule : TraceRule) (m : Level) (t : Cut) (l : Level) (s : Cut) →
    (later other : List Spot) → levels later ≡ levels other →
    KeepsTraceRule b rule m t l s later ↔ KeepsTraceRule b rule m (seen t) l (seen s) other
same_rule b TraceRule.TR1 m t l s later other e = ((λ h. h), (λ h. h))
same_rule b TraceRule.TR2 m t l s later other e = ((λ h. h), (λ h. h))
same_rule b TraceRule.TR3 m t l s later other e = same3 l t s
same_rule b TraceRule.TR4 m t l s later other e = same4 b l t s later other e
same_rule b TraceRule.TR5 m t l s later other e = same5 b.params l t s later other e
same_rule b TraceRule.TR6 m t l s later other e = same6 b.params l t s later other e
same_rule b TraceRule.TR7 m t l s later other e = same7 b.params m l t s later other e
same_rule b TraceRule.TR8 m t l s later other e = ((λ h. h), (λ h. h))
same_rule b TraceRule.TR9 m t l s later other e = same9 b b.defects l s

-- the placed steps behind some draws and a place
abbrev pub tail_of : Problem → List Draw → Place → List Step → List Spot
tail_of b before t ss = attach (marks b before t (map draw_of ss)) ss

tail_levels : (b : Problem) (x : Draw) (before : List Draw) (t : Place) (ss : List Step) → levels (tail_of b (x ∷ before) t ss) ≡ levels (ahead ss)
tail_levels b x before t [] = refl
tail_levels b x before t (s ∷ ss) = ap (λ l. level_of s.kind ∷ l) (tail_levels b (draw_of s) (x ∷ before) (place_of b (x ∷ before) t (draw_of s)) ss)

-- an item that lies in its cell, in its band, in its strip
pub record IsLying (s : Cut) : Type 0 where
  pub wide : 1 ≤ s.w
  pub high : 1 ≤ s.h
  pub right : s.e + s.w ≤ s.b
  pub upper : s.c + s.h ≤ s.d
  pub left : s.a ≤ s.e
  pub end : s.b ≤ MOST_SIDE
  pub top : s.d ≤ MOST_SIDE

-- where a loop over a trace has come to
pub record Walked (b : Problem) (ss : List Step) (i : ℕ) (last : Laid) : Type 0 where
  pub level : Level
  pub at : Cut
  pub level_is : last.level ≡ level
  pub cut_is : cut_of last ≡ seen at
  pub few : last.plates ≤ i
  -- the rules from here on, and a fact of the placed steps from here on
  pub rules_there :
      (rule : TraceRule) (j : ℕ) →
      AtStep (KeepsTraceRule b rule) NewPlate no_cut (spots b ss) (i + j)
      ↔ AtStep (KeepsTraceRule b rule) level at (tail_of b (draws_of (take i ss)) at.place (drop i ss)) j
  pub fits_there : (j : ℕ) → AtStep (λ _ _ _ s _. IsLying s) NewPlate no_cut (spots b ss) (i + j) → AtStep (λ _ _ _ s _. IsLying s) level at (tail_of b (draws_of (take i ss)) at.place (drop i ss)) j

pub walk_start : (b : Problem) (ss : List Step) → Walked b ss 0 no_laid
walk_start b ss = record {
  level = NewPlate;
  at = no_cut;
  level_is = refl;
  cut_is = refl;
  few = omega arith;
  rules_there = λ rule j. ((λ h. rw zero-add at h), (λ h. rw zero-add h));
  fits_there = λ j h. rw zero-add at h;
}

-- one more step
next_there : (R : Level → Cut → Level → Cut → List Spot → Type 0) (b : Problem) (ss : List Step) (i : ℕ) (d : Step) (m : Level) (t : Cut) → i < length ss → (j : ℕ) →
    let before : List Draw = draws_of (take i ss) in
    let s : Step = get_or ss i d in
    let n : Cut = cut (place_of b before t.place (draw_of s)) s in
    AtStep R m t (tail_of b before t.place (drop i ss)) (suc j) ↔ AtStep R (begins before s.kind) n (tail_of b (draws_of (take (i + 1) ss)) n.place (drop (i + 1) ss)) j
next_there R b ss i d m t lt j =
    let before : List Draw = draws_of (take i ss) in
    let here : drop i ss ≡ get_or ss i d ∷ drop (i + 1) ss = at_drop_more (λ xs. xs) ss i d lt in
    rw (here, draws_more ss i d lt) ((λ h. h), (λ h. h))

pub next_seen : (b : Problem) (before : List Draw) (last : Laid) (t : Cut) (s : Step) → cut_of last ≡ seen t → cut_of (next_laid b before last s) ≡ seen (cut (place_of b before t.place (draw_of s)) s)
next_seen b before last t s e =
    rw (ap (λ (c : Cut). c.plates) e, ap (λ (c : Cut). c.cell_w) e) refl

pub plates_few : (kind before i : ℕ) → before ≤ i → plates_after kind before ≤ i + 1
plates_few zero before i h = omega (arith, h)
plates_few (suc n) before i h = omega (arith, h)

pub walk_next : (b : Problem) (ss : List Step) (i : ℕ) (d : Step) (last : Laid) → i < length ss → Walked b ss i last → Walked b ss (i + 1) (next_laid b (draws_of (take i ss)) last (get_or ss i d))
walk_next b ss i d last lt h =
    let before : List Draw = draws_of (take i ss) in
    let s : Step = get_or ss i d in
    let more : (j : ℕ) → i + 1 + j ≡ i + suc j = λ j. omega arith in
    record {
      level = begins before s.kind;
      at = cut (place_of b before h.at.place (draw_of s)) s;
      level_is = refl;
      cut_is = next_seen b before last h.at s h.cut_is;
      few = plates_few s.kind last.plates i h.few;
      rules_there = λ rule j. (
          let Keeps : ℕ → Type 0 = AtStep (KeepsTraceRule b rule) NewPlate no_cut (spots b ss) in
          let there = h.rules_there rule (suc j) in
          let on = next_there (KeepsTraceRule b rule) b ss i d h.level h.at lt j in (
            (λ x. on.0 (there.0 (subst Keeps (more j) x))),
            (λ y. subst Keeps (sym (more j)) (there.1 (on.1 y))),
          ));
      fits_there = λ j x.
          (next_there (λ _ _ _ s _. IsLying s) b ss i d h.level h.at lt j).0
          (h.fits_there (suc j) (subst (AtStep (λ _ _ _ s _. IsLying s) NewPlate no_cut (spots b ss)) (more j) x));
    }

-- what a test of a step says of the trace
pub rule_here : (b : Problem) (ss : List Step) (i : ℕ) (rule : TraceRule) (d : Step) (last : Laid) →
    i < length ss → Walked b ss i last →
    let here : Laid = next_laid b (draws_of (take i ss)) last (get_or ss i d) in
    RuleAt b ss rule i
    ↔ KeepsTraceRule b rule last.level (cut_of last) here.level (cut_of here) (ahead (drop (i + 1) ss))
rule_here b ss i rule d last lt h =
    let before : List Draw = draws_of (take i ss) in
    let s : Step = get_or ss i d in
    let now : Cut = cut (place_of b before h.at.place (draw_of s)) s in
    let here : drop i ss ≡ s ∷ drop (i + 1) ss = at_drop_more (λ xs. xs) ss i d lt in
    let rest : List Spot = tail_of b (draw_of s ∷ before) now.place (drop (i + 1) ss) in
    let levels_are = tail_levels b (draw_of s) before now.place (drop (i + 1) ss) in
    let level : Level = begins before s.kind in
    let same = same_rule b rule h.level h.at level now rest (ahead (drop (i + 1) ss)) levels_are in
    let Keeps : ℕ → Type 0 = AtStep (KeepsTraceRule b rule) NewPlate no_cut (spots b ss) in
    let there = h.rules_there rule 0 in
    let plain : i + 0 ≡ i = omega arith in
    let seen_now = next_seen b before last h.at s h.cut_is in (
      (λ x. rw (h.level_is, h.cut_is, seen_now) (same.0 (rw here at (there.0 (subst Keeps (sym plain) x))))),
      (λ y. subst Keeps plain (there.1 (rw here (same.1 (rw (h.level_is, h.cut_is, seen_now) at y))))),
    )

cell_tall : (waste : ℕ) (l : Level) (t s : Place) → Adds waste l t s → s.h ≤ s.cell_h
cell_tall waste NewPlate t s h = omega (arith, h.1)
cell_tall waste NewStrip t s h = omega (arith, h.1)
cell_tall waste NewBand t s h = omega (arith, h.1)
cell_tall waste NewCell t s h = omega (arith, h.1)
cell_tall waste Over t s h = omega (arith, h.1)

lying_from : (b : Problem) → IsProblem b → (m : Level) (t : Cut) (ss : List Spot) → EachStep (λ _ t l s _. Sound b l t s) m t ss → EachStep (λ _ _ _ s _. HasItem b s.place) m t ss → EachStep (λ _ _ _ s _. IsLying s) m t ss
lying_from b rules m t [] ok items = tt
lying_from b rules m t (spot l s ∷ later) ok items =
    let item = items.0.1 in
    let sides = item_all b HasSides s.place items.0.0 rules.sides item in
    let fits = ok.0.fits in (
      record {
        wide = omega (arith, item.w, wide s.draw.turn items.0.0 sides);
        high = omega (arith, item.h, high s.draw.turn items.0.0 sides);
        right = omega (arith, fits.right, ok.0.own);
        upper = omega (arith, fits.top, cell_tall b.params.waste l t.place s.place ok.0.follows.adds);
        left = fits.ends.2;
        end = omega (arith, fits.within, (width_within b s.plate rules).1);
        top = omega (arith, fits.high, b.params.accepted.height_limit);
      },
      lying_from b rules l s later ok.1 items.1,
    )

-- where the rules on sizes are kept the items lie in their places
pub lying_all : (b : Problem) → IsProblem b → (ss : List Step) → All (RuleHolds b ss) (take 7 trace_rules) →
    EachStep (λ _ _ _ s _. IsLying s) NewPlate no_cut (spots b ss)
lying_all b rules ss h =
    let sizes = each_size b NewPlate no_cut (spots b ss) h in
    lying_from b rules NewPlate no_cut (spots b ss) (sized_sound b ss sizes) (items_all b rules [] NewPlate no_cut ss sizes)

pub fitted_here : (b : Problem) (ss : List Step) (i : ℕ) (d : Step) (last : Laid) → i < length ss → Walked b ss i last → EachStep (λ _ _ _ s _. IsLying s) NewPlate no_cut (spots b ss) →
    IsFitted (next_laid b (draws_of (take i ss)) last (get_or ss i d))
fitted_here b ss i d last lt h all =
    let here : drop i ss ≡ get_or ss i d ∷ drop (i + 1) ss = at_drop_more (λ xs. xs) ss i d lt in
    let plain : i ≡ i + 0 = omega arith in
    let x = rw here at (h.fits_there 0 (subst (AtStep (λ _ _ _ s _. IsLying s) NewPlate no_cut (spots b ss)) plain (at_each (λ _ _ _ s _. IsLying s) NewPlate no_cut (spots b ss) all i))) in
    record { wide = x.wide; high = x.high; right = x.right; upper = x.upper; left = x.left; end = x.end; top = x.top }

-- one more step keeps a rule
pub more_kept : (P : ℕ → Type 0) (i : ℕ) → ((j : ℕ) → j < i → P j) → P i → (j : ℕ) → j < i + 1 → P j
more_kept P i before here j lt = by (cases_order j i)
  where
    by : (j ≡ i) ⊎ ((j < i) ⊎ (i < j)) → P j
    by (inl e) = subst P (sym e) here
    by (inr (inl less)) = before j less
    by (inr (inr more)) = absurd (omega (arith, more, lt))

each_before : (R : Level → Cut → Level → Cut → List Spot → Type 0) (m : Level) (t : Cut) (xs : List Spot) → ((j : ℕ) → j < length xs → AtStep R m t xs j) → EachStep R m t xs
each_before R m t [] h = tt
each_before R m t (spot l s ∷ later) h = (h 0 (omega arith), each_before R l s later (λ j lt. h (suc j) (omega (arith, lt))))

-- a rule that each step keeps is kept
pub all_kept : (b : Problem) (ss : List Step) (rule : TraceRule) (i : ℕ) → length ss ≤ i →
    ((j : ℕ) → j < i → RuleAt b ss rule j) → RuleHolds b ss rule
all_kept b ss rule i le h =
    each_before (KeepsTraceRule b rule) NewPlate no_cut (spots b ss)
    (λ j lt. h j (omega (arith, lt, le, spots_count b [] no_cut ss)))
