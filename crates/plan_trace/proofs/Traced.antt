-- The trace of the canonical plan of a trace that meets the rules is that trace.
use Rattle.std.proofs.Common.{◌≡◌, ℕ, suc, zero, ◌+◌, ◌-◌, ◌*◌, ◌<◌, ◌≤◌, ◌==◌, List, [], ◌∷◌, ◌++◌, false, cond, refl, arith, sym, ap, ◌∙◌, map, Option, Some, None}
use Rattle.std.specs.Prelude.{unwrap_or, option_and_then}
use Rattle.std.specs.Option.{option_map_or}
use Rattle.std.proofs.lemmas.Bool.Decides.{nat_tests}
use Rattle.glass_base.specs.declared.item.Item.{Item}
use Rattle.glass_base.specs.Plates.{Width}
use Rattle.glass_base.specs.Problem.{Problem}
use Rattle.glass_base.specs.Stacks.{stack_of}
use Rattle.cut_model.specs.declared.family.Sort.{Sort}
use Rattle.cut_model.specs.declared.steps.Step.{Step}
use Rattle.cut_model.specs.Order.{item_with}
use Rattle.cut_model.specs.Steps.{plates_after}
use Rattle.cut_model.specs.Sized.{sized}
use Rattle.cut_model.specs.Traces.{steps_in, turn_in, outside}
use Rattle.cut_model.specs.Tree.{nothing}
use Rattle.plan_trace.specs.Marks.{Level, NewPlate, NewStrip, NewBand, NewCell, Over, Draw, Place, place_of, level_of, no_place, draw_of, marks, attach, Spot, spot, spots, Cut, cut, no_cut, item_width, item_height}
use Rattle.plan_trace.specs.TraceRules.{Rules, EachStep, Meets}
use Rattle.plan_trace.specs.Canonical.{Grown, grown, item_id}
use Rattle.plan_trace.specs.Claims.{CanonicalIsTraced}
use Rattle.plan_trace.proofs.Inside.{meets_sound, no_fits}
use Rattle.plan_trace.proofs.Items.{IsItemOf}
use Rattle.plan_trace.proofs.Known.{Known, known_all, rules_of}
use Rattle.plan_trace.proofs.RoundTrip.{Back, kind_of, CellReady, emits, emitted, all_steps, gap_steps, band_sides, strip_sides, plate_sides, from_bands, from_strips}

-- the turn that the width of an item shows
turn_shown : (turn width height : ℕ) (i : Item) → turn ≤ 1 → width ≡ item_width turn (Some i) → height ≡ item_height turn (Some i) → (width ≡ height → turn ≡ 0) → cond (width == i.length) 0 1 ≡ turn
turn_shown zero width height i le e f square = grind (arith, nat_tests)
turn_shown (suc zero) width height i le e f square = apart i.length i.width width height e f (λ q. omega (arith, square q))
  where
    apart : (length wide width height : ℕ) → width ≡ wide → height ≡ length → (width ≡ height → ⊥) → ◌≡◌ {A = ℕ} (cond (width == length) 0 1) 1
    apart length wide width height e f square = grind (arith, nat_tests)
turn_shown (suc (suc n)) width height i le e f square = absurd (omega arith)

back_of : (b : Problem) (l : Level) (s : Cut) (item : Item) → IsItemOf b s.place item → kind_of l ≡ s.draw.kind → ((width : ℕ) → width ≡ s.w → cond (width == item.length) 0 1 ≡ s.draw.turn) → Back b l s
back_of b l s item is kind turn = λ r ew ea eb ec ed ee.
    let found : item_with b.items (item_id s.item) ≡ Some item = rw is.is is.found in
    let t : cond (r.width == item.length) 0 1 ≡ s.draw.turn = turn r.width ew in
    let at : Option Item → Step = λ (o : Option Item). record { stack = unwrap_or (option_and_then (stack_of b.items) o) 0; turn = option_map_or (turn_in r) o 0; kind = kind_of l; lift = s.draw.lift; a = r.a; b = r.b; c = r.c; d = r.d; e = r.e } in
    let on : Option ℕ → Step = λ (o : Option ℕ). record { stack = unwrap_or o 0; turn = turn_in r item; kind = kind_of l; lift = s.draw.lift; a = r.a; b = r.b; c = r.c; d = r.d; e = r.e } in
    ap at found ∙ ap on is.stack ∙ (λ j. record { stack = s.draw.stack; turn = t j; kind = kind j; lift = s.draw.lift; a = ea j; b = eb j; c = ec j; d = ed j; e = ee j })

-- a step's level shows its kind
abbrev KindShown : Level → Cut → Type 0
KindShown l s = kind_of l ≡ s.draw.kind

kind_back : (kind : ℕ) → kind ≤ 4 → kind_of (level_of kind) ≡ kind
kind_back zero h = refl
kind_back (suc zero) h = refl
kind_back (suc (suc zero)) h = refl
kind_back (suc (suc (suc zero))) h = refl
kind_back (suc (suc (suc (suc zero)))) h = refl
kind_back (suc (suc (suc (suc (suc n))))) h = absurd (omega arith)

pub first_kind_is : (kind : ℕ) → 1 ≤ plates_after kind 0 → 0 ≡ kind
first_kind_is zero h = refl
first_kind_is (suc n) h = absurd (omega arith)

kinds_later : (b : Problem) (x : Draw) (before : List Draw) (m : Level) (t : Cut) (ss : List Step) →
    EachStep (Rules b) m t (attach (marks b (x ∷ before) t.place (map draw_of ss)) ss) → EachStep (λ _ _ l s _. KindShown l s) m t (attach (marks b (x ∷ before) t.place (map draw_of ss)) ss)
kinds_later b x before m t [] r = tt
kinds_later b x before m t (s ∷ ss) r =
    (kind_back s.kind r.0.tr1.2, kinds_later b (draw_of s) (x ∷ before) (level_of s.kind) (cut (place_of b (x ∷ before) t.place (draw_of s)) s) ss r.1)

kinds_all : (b : Problem) (ss : List Step) → Meets b ss → EachStep (λ _ _ l s _. KindShown l s) NewPlate no_cut (spots b ss)
kinds_all b [] r = tt
kinds_all b (s ∷ ss) r = (first_kind_is s.kind r.0.tr1.0, kinds_later b (draw_of s) [] NewPlate (cut (place_of b [] no_place (draw_of s)) s) ss r.1)

-- each step is found again from its item
back_all : (b : Problem) (m : Level) (t : Cut) (later : List Spot) → EachStep (Known b) m t later → EachStep (λ _ _ l s _. KindShown l s) m t later → EachStep (λ _ _ l s _. Back b l s) m t later
back_all b m t [] known kinds = tt
back_all b m t (spot l s ∷ later) known kinds =
    let r = known.0.rules in
    let item = known.0.item in (
      back_of b l s item.0 item.1 kinds.0 (λ width e. turn_shown s.draw.turn width s.h item.0 r.tr3.0 (e ∙ item.1.w) item.1.h (λ q. r.tr3.2 (sym e ∙ q))),
      back_all b l s later known.1 kinds.1,
    )

alone_of : (b : Problem) (l : Level) (s : Cut) (later : List Spot) → EachStep (Rules b) l s later → ((grown b later).above ≡ None → ⊥) → s.draw.lift ≡ 0
alone_of b l s [] r h = absurd (h refl)
alone_of b l s (spot NewPlate n ∷ later) r h = absurd (h refl)
alone_of b l s (spot NewStrip n ∷ later) r h = absurd (h refl)
alone_of b l s (spot NewBand n ∷ later) r h = absurd (h refl)
alone_of b l s (spot NewCell n ∷ later) r h = absurd (h refl)
alone_of b l s (spot Over n ∷ later) r h = r.0.tr7.2

apart_of : (h v lift waste : ℕ) → 1 ≤ waste → h + lift * waste ≤ v → 1 ≤ lift → (h == v) ≡ false
apart_of h v zero waste w e l = absurd (omega arith)
apart_of h v (suc n) waste w e l = let f : h < v = omega (arith, e) in grind (arith, nat_tests)

apart_at : (b : Problem) (m : Level) (t : Cut) (l : Level) (s : Cut) (later : List Spot) → Known b m t l s later → 1 ≤ s.draw.lift → (s.h == s.d - s.c) ≡ false
apart_at b m t NewPlate s later k h = apart_of s.h (s.d - s.c) s.draw.lift b.params.waste b.params.accepted.waste_positive (omega (arith, k.sound.top, k.sound.follows.adds)) h
apart_at b m t NewStrip s later k h = apart_of s.h (s.d - s.c) s.draw.lift b.params.waste b.params.accepted.waste_positive (omega (arith, k.sound.top, k.sound.follows.adds)) h
apart_at b m t NewBand s later k h = apart_of s.h (s.d - s.c) s.draw.lift b.params.waste b.params.accepted.waste_positive (omega (arith, k.sound.top, k.sound.follows.adds)) h
apart_at b m t NewCell s later k h = apart_of s.h (s.d - s.c) s.draw.lift b.params.waste b.params.accepted.waste_positive (omega (arith, k.sound.top, k.sound.follows.adds)) h
apart_at b m t Over s later k h = absurd (omega (arith, h, k.rules.tr7.0))

ready_all : (b : Problem) (m : Level) (t : Cut) (later : List Spot) → EachStep (Known b) m t later → EachStep (λ _ _ l s rest. CellReady s (grown b rest).above) m t later
ready_all b m t [] known = tt
ready_all b m t (spot l s ∷ later) known =
    (record { one = known.0.rules.tr3.1; apart = apart_at b m t l s later known.0; alone = alone_of b l s later (rules_of b l s later known.1) }, ready_all b l s later known.1)

steps_back : (b : Problem) (before : List Draw) (t : Place) (ss : List Step) → all_steps (attach (marks b before t (map draw_of ss)) ss) ≡ ss
steps_back b before t [] = refl
steps_back b before t (s ∷ ss) = ap (λ x. s ∷ x) (steps_back b (draw_of s ∷ before) (place_of b before t (draw_of s)) ss)

-- the trace of the canonical plan is the trace
pub canonical_traced : CanonicalIsTraced
canonical_traced b rules [] m = refl
canonical_traced b rules (s ∷ ss) m =
    let known = known_all b rules (s ∷ ss) m in
    let now : Grown = grown b (spots b (s ∷ ss)) in
    let e : emitted b no_cut now ≡ s ∷ all_steps (attach (marks b (draw_of s ∷ []) (place_of b [] no_place (draw_of s)) (map draw_of ss)) ss) =
    emits b NewPlate no_cut (spots b (s ∷ ss)) (no_fits b) m (meets_sound b (s ∷ ss) m) (back_all b NewPlate no_cut (spots b (s ∷ ss)) known (kinds_all b (s ∷ ss) m)) (ready_all b NewPlate no_cut (spots b (s ∷ ss)) known) in
    sym
    (ap (λ x. x ++ from_bands b no_cut now) (gap_steps b 3 (band_sides b (strip_sides b no_cut) no_cut) (no_cut.e + no_cut.cell_w) no_cut.b 3 Sort.Waste nothing tt refl (omega arith))
    ∙ ap (λ x. x ++ from_strips b no_cut now) (gap_steps b 2 (strip_sides b no_cut) no_cut.d b.params.height 2 Sort.Waste nothing tt refl (omega arith))
    ∙ ap (λ x. x ++ steps_in b 0 (outside b) 0 0 0 (sized b 0 now.plates)) (gap_steps b 1 (plate_sides b no_cut.plate) no_cut.b (Width b no_cut.plate) 1 Sort.Waste nothing tt refl (omega arith)))
    ∙ e ∙ ap (λ x. s ∷ x) (steps_back b (draw_of s ∷ []) (place_of b [] no_place (draw_of s)) ss)
