-- Steps one after another, as loops go over them.
use Rattle.std.proofs.Common.{◌≡◌, ℕ, ◌+◌, ◌<◌, ◌≤◌, List, [], ◌∷◌, ◌++◌, length, take, drop, get_or, refl, ap, ◌∙◌, arith, true, false, Bool, IsTrue, ◌↔◌}
use Rattle.std.proofs.lemmas.List.{at_drop_more, take_more}
use Rattle.glass_base.specs.Problem.{Problem}
use Rattle.glass_base.specs.declared.item.Defect.{Defect}
use Rattle.cut_model.specs.declared.steps.Step.{Step}
use Rattle.plan_trace.specs.Marks.{Level, NewPlate, level_of, Draw, draw_of, begins, levels, Cut}
use Rattle.plan_trace.specs.TraceRules.{is_last_strip, is_last_band, is_last_cell, LiftLine, TR9}
use Rattle.plan_trace.specs.inner.Laid.{draws_before, draws_of, levels_of, ahead, StripClear, BandClear, CellClear}

-- the levels from a step on
levels_at : {A : Type 0} (f : List Level → A) (steps : List Step) (i : ℕ) (d : Step) → i < length steps → f (levels_of (drop i steps)) ≡ f (level_of (get_or steps i d).kind ∷ levels_of (drop (i + 1) steps))
levels_at f steps i d lt = at_drop_more (λ xs. f (levels_of xs)) steps i d lt

pub strip_at : (steps : List Step) (i : ℕ) (d : Step) → i < length steps → is_last_strip true (levels_of (drop i steps)) ≡ is_last_strip true (level_of (get_or steps i d).kind ∷ levels_of (drop (i + 1) steps))
strip_at steps i d lt = levels_at (is_last_strip true) steps i d lt

pub band_at : (steps : List Step) (i : ℕ) (d : Step) → i < length steps → is_last_band true (levels_of (drop i steps)) ≡ is_last_band true (level_of (get_or steps i d).kind ∷ levels_of (drop (i + 1) steps))
band_at steps i d lt = levels_at (is_last_band true) steps i d lt

pub cell_at : (steps : List Step) (i : ℕ) (d : Step) → i < length steps → is_last_cell true (levels_of (drop i steps)) ≡ is_last_cell true (level_of (get_or steps i d).kind ∷ levels_of (drop (i + 1) steps))
cell_at steps i d lt = levels_at (is_last_cell true) steps i d lt

-- one more step before others
push_draw : (steps : List Step) (s : Step) (done : List Draw) → draws_before (steps ++ s ∷ []) done ≡ draw_of s ∷ draws_before steps done
push_draw [] s done = refl
push_draw (x ∷ steps) s done = push_draw steps s (draw_of x ∷ done)

pub draws_more : (steps : List Step) (i : ℕ) (d : Step) → i < length steps → draws_of (take (i + 1) steps) ≡ draw_of (get_or steps i d) ∷ draws_of (take i steps)
draws_more steps i d lt = ap draws_of (take_more steps i d lt) ∙ push_draw (take i steps) (get_or steps i d) []

pub draws_none : (steps : List Step) (kind : ℕ) → length steps ≡ 0 → begins (draws_of steps) kind ≡ NewPlate
draws_none [] kind e = refl
draws_none (s ∷ steps) kind e = absurd (omega (arith, e))

begun_later : (steps : List Step) (x : Draw) (done : List Draw) (kind : ℕ) → begins (draws_before steps (x ∷ done)) kind ≡ level_of kind
begun_later [] x done kind = refl
begun_later (s ∷ steps) x done kind = begun_later steps (draw_of s) (x ∷ done) kind

pub draws_some : (steps : List Step) (kind : ℕ) → 1 ≤ length steps → begins (draws_of steps) kind ≡ level_of kind
draws_some [] kind e = absurd (omega (arith, e))
draws_some (s ∷ steps) kind e = begun_later steps (draw_of s) [] kind

-- what rules read of later steps
pub levels_ahead : (later : List Step) → levels (ahead later) ≡ levels_of later
levels_ahead [] = refl
levels_ahead (s ∷ later) = ap (λ l. level_of s.kind ∷ l) (levels_ahead later)

-- the lines of a step, one after another
pub lines_clear : (b : Problem) (defects : List Defect) (l : Level) (s : Cut) →
    (StripClear b defects s × BandClear b.params defects s × CellClear defects s × LiftLine defects l s.draw.lift s) ↔ TR9 b defects l s
lines_clear b defects l s = (
  (λ h. record { at_a = h.0.0; at_b = h.0.1; at_c = h.1.0; at_d = h.1.1; at_e = h.2.0; at_end = h.2.1; at_lift = h.3 }),
  (λ r. ((r.at_a, r.at_b), (r.at_c, r.at_d), (r.at_e, r.at_end), r.at_lift)),
)

pub not_both : (b : Bool) → b ≡ false → IsTrue b → ⊥
not_both true e h = cc
not_both false e h = cc
