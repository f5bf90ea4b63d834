-- The canonical plan of steps as code carries them is that of the trace.
use Rattle.std.proofs.Common.{◌≡◌, ℕ, ◌+◌, ◌<◌, List, [], ◌∷◌, length, map, take, drop, get_or, refl, ap, ◌∙◌}
use Rattle.std.proofs.lemmas.List.{at_drop_more}
use Rattle.glass_base.specs.Problem.{Problem}
use Rattle.cut_model.specs.declared.steps.Step.{Step}
use Rattle.plan_trace.specs.declared.laid.Laid.{Laid}
use Rattle.plan_trace.specs.Marks.{Level, NewPlate, NewStrip, NewBand, NewCell, Over, Draw, draw_of, place_of, begins, marks, attach, Cut, cut, no_cut}
use Rattle.plan_trace.specs.Canonical.{Grown, add_step, canonical, grown}
use Rattle.plan_trace.specs.inner.Laid.{cut_of, draws_of, laid_list, next_laid, no_laid}
use Rattle.plan_trace.specs.inner.Piles.{spots_of}
use Rattle.plan_trace.proofs.LaidLemmas.{draws_more}
use Rattle.plan_trace.proofs.Walks.{seen, next_seen}

-- a plan grows by what rules read of a step
step_seen : (b : Problem) (l : Level) (s : Cut) (g : Grown) → add_step b l (seen s) g ≡ add_step b l s g
step_seen b NewPlate s g = refl
step_seen b NewStrip s g = refl
step_seen b NewBand s g = refl
step_seen b NewCell s g = refl
step_seen b Over s g = refl

grown_laid : (b : Problem) (before : List Draw) (last : Laid) (t : Cut) (ss : List Step) → cut_of last ≡ seen t →
    grown b (spots_of (laid_list b before last ss)) ≡ grown b (attach (marks b before t.place (map draw_of ss)) ss)
grown_laid b before last t [] e = refl
grown_laid b before last t (s ∷ ss) e =
    let l : Level = begins before s.kind in
    let n : Cut = cut (place_of b before t.place (draw_of s)) s in
    let now = next_seen b before last t s e in
    let rest = grown_laid b (draw_of s ∷ before) (next_laid b before last s) n ss now in
    ap (λ (x : Cut). add_step b l x (grown b (spots_of (laid_list b (draw_of s ∷ before) (next_laid b before last s) ss)))) now
    ∙ step_seen b l n _
    ∙ ap (add_step b l n) rest

pub laid_canonical : (b : Problem) (ss : List Step) → (grown b (spots_of (laid_list b [] no_laid ss))).plates ≡ canonical b ss
laid_canonical b ss = ap (λ (g : Grown). g.plates) (grown_laid b [] no_laid no_cut ss refl)

-- one more step
pub laid_more : (b : Problem) (ss : List Step) (i : ℕ) (d : Step) (last : Laid) → i < length ss →
    let n : Laid = next_laid b (draws_of (take i ss)) last (get_or ss i d) in
    laid_list b (draws_of (take i ss)) last (drop i ss) ≡ n ∷ laid_list b (draws_of (take (i + 1) ss)) n (drop (i + 1) ss)
laid_more b ss i d last lt =
    let here : drop i ss ≡ get_or ss i d ∷ drop (i + 1) ss = at_drop_more (λ xs. xs) ss i d lt in
    rw (here, draws_more ss i d lt) refl
