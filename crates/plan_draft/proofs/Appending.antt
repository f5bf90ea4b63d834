-- One more step behind steps that meet the rules.
use Rattle.std.proofs.Common.{◌≡◌, ℕ, ◌+◌, List, [], ◌∷◌, ◌++◌, map, true, IsTrue, refl, ap}
use Rattle.glass_base.specs.declared.params.Params.{Params}
use Rattle.glass_base.specs.Problem.{Problem}
use Rattle.cut_model.specs.declared.steps.Step.{Step}
use Rattle.plan_trace.specs.declared.level.Level.{Level}
use Rattle.plan_trace.specs.declared.level.Level.TheVariants.{NewPlate, NewStrip, NewBand, NewCell, Over}
use Rattle.plan_trace.specs.Marks.{Cut, Draw, Place, attach, begins, cut, draw_of, levels, marks, place_of, Spot}
use Rattle.plan_trace.specs.TraceRules.{EachStep, Rules, StripFits, BandFits, CellFits, AloneFits, TR4, TR5, TR6, TR7, is_last_band, is_last_cell, is_last_in_cell, is_last_strip}
use Rattle.plan_trace.specs.inner.Laid.{draws_before}
use Rattle.plan_draft.specs.inner.Lasts.{last_cut}

-- the placed steps behind some draws and a place
abbrev pub behind : Problem → List Draw → Place → List Step → List Spot
behind b before t ss = attach (marks b before t (map draw_of ss)) ss

-- the level of the last of some steps
abbrev pub last_level : List Draw → Level → List Step → Level
last_level before m [] = m
last_level before m (s ∷ ss) = last_level (draw_of s ∷ before) (begins before s.kind) ss

-- a step behind these
abbrev pub next_level : List Draw → List Step → Step → Level
next_level before ss s = begins (draws_before ss before) s.kind

abbrev pub next_cut : Problem → List Draw → Cut → List Step → Step → Cut
next_cut b before t ss s = cut (place_of b (draws_before ss before) (last_cut b before t ss).place (draw_of s)) s

more_levels : (b : Problem) (before : List Draw) (t : Cut) (ss : List Step) (s : Step) → levels (behind b before t.place (ss ++ s ∷ [])) ≡ levels (behind b before t.place ss) ++ next_level before ss s ∷ []
more_levels b before t [] s = refl
more_levels b before t (x ∷ ss) s =
    ap (λ ls. begins before x.kind ∷ ls) (more_levels b (draw_of x ∷ before) (cut (place_of b before t.place (draw_of x)) x) ss s)

-- a piece that is the last one with one more step behind is the last one without it
fewer_strips : (ls : List Level) (l : Level) → IsTrue (is_last_strip true (ls ++ l ∷ [])) → IsTrue (is_last_strip true ls)
fewer_strips [] l h = refl
fewer_strips (NewPlate ∷ ls) l h = refl
fewer_strips (NewStrip ∷ ls) l h = h
fewer_strips (NewBand ∷ ls) l h = fewer_strips ls l h
fewer_strips (NewCell ∷ ls) l h = fewer_strips ls l h
fewer_strips (Over ∷ ls) l h = fewer_strips ls l h

fewer_bands : (ls : List Level) (l : Level) → IsTrue (is_last_band true (ls ++ l ∷ [])) → IsTrue (is_last_band true ls)
fewer_bands [] l h = refl
fewer_bands (NewPlate ∷ ls) l h = refl
fewer_bands (NewStrip ∷ ls) l h = refl
fewer_bands (NewBand ∷ ls) l h = h
fewer_bands (NewCell ∷ ls) l h = fewer_bands ls l h
fewer_bands (Over ∷ ls) l h = fewer_bands ls l h

fewer_cells : (ls : List Level) (l : Level) → IsTrue (is_last_cell true (ls ++ l ∷ [])) → IsTrue (is_last_cell true ls)
fewer_cells [] l h = refl
fewer_cells (NewPlate ∷ ls) l h = refl
fewer_cells (NewStrip ∷ ls) l h = refl
fewer_cells (NewBand ∷ ls) l h = refl
fewer_cells (NewCell ∷ ls) l h = h
fewer_cells (Over ∷ ls) l h = fewer_cells ls l h

fewer_items : (ls : List Level) (l : Level) → IsTrue (is_last_in_cell true (ls ++ l ∷ [])) → IsTrue (is_last_in_cell true ls)
fewer_items [] l h = refl
fewer_items (NewPlate ∷ ls) l h = refl
fewer_items (NewStrip ∷ ls) l h = refl
fewer_items (NewBand ∷ ls) l h = refl
fewer_items (NewCell ∷ ls) l h = refl
fewer_items (Over ∷ ls) l h = h

strip_longer : (b : Problem) (from : ℕ) (s : Cut) (later longer : List Spot) (l : Level) → levels longer ≡ levels later ++ l ∷ [] → StripFits b from s later → StripFits b from s longer
strip_longer b from s later longer l e h = (h.0, h.1, h.2, h.3, λ last. h.4 (fewer_strips (levels later) l (rw e at last)))

band_longer : (p : Params) (from : ℕ) (s : Cut) (later longer : List Spot) (l : Level) → levels longer ≡ levels later ++ l ∷ [] → BandFits p from s later → BandFits p from s longer
band_longer p from s later longer l e h = (h.0, h.1, h.2, λ last. h.3 (fewer_bands (levels later) l (rw e at last)))

cell_longer : (p : Params) (from : ℕ) (s : Cut) (later longer : List Spot) (l : Level) → levels longer ≡ levels later ++ l ∷ [] → CellFits p from s later → CellFits p from s longer
cell_longer p from s later longer l e h = (h.0, λ last. h.1 (fewer_cells (levels later) l (rw e at last)))

item_longer : (p : Params) (s : Cut) (later longer : List Spot) (l : Level) → levels longer ≡ levels later ++ l ∷ [] → (IsTrue (is_last_in_cell true (levels later)) → AloneFits p s.draw.lift s) →
    IsTrue (is_last_in_cell true (levels longer)) → AloneFits p s.draw.lift s
item_longer p s later longer l e h last = h (fewer_items (levels later) l (rw e at last))

longer4 : (b : Problem) (k : Level) (t s : Cut) (later longer : List Spot) (l : Level) → levels longer ≡ levels later ++ l ∷ [] → TR4 b k t s later → TR4 b k t s longer
longer4 b NewPlate t s later longer l e h = strip_longer b 0 s later longer l e h
longer4 b NewStrip t s later longer l e h = strip_longer b t.b s later longer l e h
longer4 b NewBand t s later longer l e h = h
longer4 b NewCell t s later longer l e h = h
longer4 b Over t s later longer l e h = h

longer5 : (p : Params) (k : Level) (t s : Cut) (later longer : List Spot) (l : Level) → levels longer ≡ levels later ++ l ∷ [] → TR5 p k t s later → TR5 p k t s longer
longer5 p NewPlate t s later longer l e h = band_longer p 0 s later longer l e h
longer5 p NewStrip t s later longer l e h = band_longer p 0 s later longer l e h
longer5 p NewBand t s later longer l e h = band_longer p t.d s later longer l e h
longer5 p NewCell t s later longer l e h = h
longer5 p Over t s later longer l e h = h

longer6 : (p : Params) (k : Level) (t s : Cut) (later longer : List Spot) (l : Level) → levels longer ≡ levels later ++ l ∷ [] → TR6 p k t s later → TR6 p k t s longer
longer6 p NewPlate t s later longer l e h = cell_longer p s.a s later longer l e h
longer6 p NewStrip t s later longer l e h = cell_longer p s.a s later longer l e h
longer6 p NewBand t s later longer l e h = cell_longer p s.a s later longer l e h
longer6 p NewCell t s later longer l e h = cell_longer p (t.e + t.cell_w) s later longer l e h
longer6 p Over t s later longer l e h = h

longer7 : (p : Params) (m k : Level) (t s : Cut) (later longer : List Spot) (l : Level) → levels longer ≡ levels later ++ l ∷ [] → TR7 p m k t s later → TR7 p m k t s longer
longer7 p m NewPlate t s later longer l e h = item_longer p s later longer l e h
longer7 p m NewStrip t s later longer l e h = item_longer p s later longer l e h
longer7 p m NewBand t s later longer l e h = item_longer p s later longer l e h
longer7 p m NewCell t s later longer l e h = item_longer p s later longer l e h
longer7 p m Over t s later longer l e h = h

longer : (b : Problem) (m : Level) (t : Cut) (k : Level) (s : Cut) (later more : List Spot) (l : Level) → levels more ≡ levels later ++ l ∷ [] → Rules b m t k s later → Rules b m t k s more
longer b m t k s later more l e r = record {
  tr1 = r.tr1;
  tr2 = r.tr2;
  tr3 = r.tr3;
  tr4 = longer4 b k t s later more l e r.tr4;
  tr5 = longer5 b.params k t s later more l e r.tr5;
  tr6 = longer6 b.params k t s later more l e r.tr6;
  tr7 = longer7 b.params m k t s later more l e r.tr7;
  tr8 = r.tr8;
  tr9 = r.tr9;
}

-- where the steps so far meet the rules and the next step does, they meet them together
pub appended : (b : Problem) (before : List Draw) (m : Level) (t : Cut) (ss : List Step) (s : Step) → EachStep (Rules b) m t (behind b before t.place ss) →
    Rules b (last_level before m ss) (last_cut b before t ss) (next_level before ss s) (next_cut b before t ss s) [] → EachStep (Rules b) m t (behind b before t.place (ss ++ s ∷ []))
appended b before m t [] s h r = (r, tt)
appended b before m t (x ∷ ss) s h r =
    let here : Cut = cut (place_of b before t.place (draw_of x)) x in (
      longer b m t (begins before x.kind) here _ _ (next_level (draw_of x ∷ before) ss s) (more_levels b (draw_of x ∷ before) here ss s) h.0,
      appended b (draw_of x ∷ before) (begins before x.kind) here ss s h.1 r,
    )

-- and the other way round
pub last_rules : (b : Problem) (before : List Draw) (m : Level) (t : Cut) (ss : List Step) (s : Step) → EachStep (Rules b) m t (behind b before t.place (ss ++ s ∷ [])) →
    Rules b (last_level before m ss) (last_cut b before t ss) (next_level before ss s) (next_cut b before t ss s) []
last_rules b before m t [] s h = h.0
last_rules b before m t (x ∷ ss) s h = last_rules b (draw_of x ∷ before) (begins before x.kind) (cut (place_of b before t.place (draw_of x)) x) ss s h.1
