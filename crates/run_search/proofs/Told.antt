-- The improvements of a search, as they are told.
use Rattle.std.proofs.Common.{◌≡◌, ℕ, ◌<◌, ◌≤◌, ◌+◌, ◌++◌, List, [], ◌∷◌, append_assoc, append-nil, codes, decimal, get_or, length, take, AllPairs, Bool, true, false, map, Option, Some, None, refl, sym, ap, subst, ◌∙◌, arith}
use Rattle.std.proofs.lemmas.List.{take_more}
use Rattle.std.proofs.lemmas.List.Elements.{All-map, All-weaker}
use Rattle.std.proofs.lemmas.List.Kept.{AllPairs-cons}
use Rattle.glass_base.specs.Problem.{Problem, IsProblem}
use Rattle.glass_base.specs.Run.{Listed}
use Rattle.cut_model.specs.Lawful.{IsLawful}
use Rattle.cut_model.specs.Loss.{loss_of as plan_loss}
use Rattle.cut_model.specs.Tree.{Forest}
use Rattle.cut_model.specs.declared.steps.Step.{Step}
use Rattle.cut_model.specs.declared.steps.Trace.{Trace}
use Rattle.plan_trace.specs.Canonical.{canonical}
use Rattle.plan_trace.proofs.Good.{canonical_good, canonical_loses}
use Rattle.cert_log.specs.declared.history.History.{History}
use Rattle.cert_log.specs.Lawful.{loss_of, no_loss, trace_loss}
use Rattle.best_board.specs.declared.entry.Entry.{Entry}
use Rattle.best_board.specs.Improvements.{AreImprovements, Found, IsImprovement, found_in, last_loss}
use Rattle.best_board.specs.Settles.{Settles}
use Rattle.best_board.proofs.Improving.{Falls}
use Rattle.best_board.proofs.Those.{pairs_head, pairs_tail}
use Rattle.box_workers.specs.Runs.{first_loss}
use Rattle.box_workers.specs.Watched.{AreOfSearch, steps_of}
use Rattle.run_search.specs.Plans.{AreImprovements as AreLosses, AreTold, entry_lines, first_of, last_of}
use Rattle.run_search.specs.inner.Searches.{AreWatched, begun_with, losses_in}
use Rattle.run_search.proofs.Searched.{known}

abbrev losses : List Found → List ℕ
losses fs = map (λ (f : Found). f.loss) fs

losses_same : (es : List Entry) → losses (found_in es) ≡ map (λ (e : Entry). e.loss) es
losses_same [] = refl
losses_same (e ∷ es) = ap (λ (ns : List ℕ). e.loss ∷ ns) (losses_same es)

last_same : (fs : List Found) → last_of (losses fs) ≡ last_loss fs
last_same [] = refl
last_same (f ∷ []) = refl
last_same (f ∷ g ∷ fs) = last_same (g ∷ fs)

first_same : (fs : List Found) → first_of (losses fs) ≡ begun_with fs
first_same [] = refl
first_same (f ∷ fs) = refl

abbrev IsPlanLoss : Problem → ℕ → Type 0
IsPlanLoss b n = (plan : Forest) × IsLawful b plan × (plan_loss b plan ≡ n)

-- the line of one more improvement
line_pushed : (es : List Entry) (e : Entry) → entry_lines (map (λ (d : Entry). d.loss) (es ++ e ∷ [])) ≡ entry_lines (map (λ (d : Entry). d.loss) es) ++ (codes "entry " ++ decimal e.loss ++ codes "\n")
line_pushed [] e = append-nil (codes "entry " ++ decimal e.loss ++ codes "\n")
line_pushed (d ∷ es) e =
    let line : List ℕ = codes "entry " ++ decimal d.loss ++ codes "\n" in
    ap (λ (later : List ℕ). line ++ later) (line_pushed es e) ∙ sym (append_assoc line (entry_lines (map (λ (c : Entry). c.loss) es)) (codes "entry " ++ decimal e.loss ++ codes "\n"))

pub next_line : (es : List Entry) (i : ℕ) (e : Entry) → i < length es → e ≡ get_or es i e
    → entry_lines (map (λ (d : Entry). d.loss) (take (i + 1) es)) ≡ entry_lines (map (λ (d : Entry). d.loss) (take i es)) ++ (codes "entry " ++ decimal e.loss ++ codes "\n")
next_line es i e lt is =
    ap (λ (xs : List Entry). entry_lines (map (λ (d : Entry). d.loss) xs)) (take_more es i e lt ∙ ap (λ (d : Entry). take i es ++ d ∷ []) (sym is)) ∙ line_pushed (take i es) e

-- an improvement has a lawful plan of its loss
has_plan : (b : Problem) → IsProblem b → (f : Found) → IsImprovement b f → IsPlanLoss b f.loss
has_plan b rules f is =
    let loses = canonical_loses b rules f.steps is.complete in let loss = is.loss_is in
    (canonical b f.steps, (canonical_good b rules f.steps is.complete).lawful, omega (arith, loses, loss))

falling : (fs : List Found) → AllPairs Falls fs → AllPairs (λ (earlier : ℕ) (later : ℕ). later < earlier) (losses fs)
falling [] h = λ i j d lt len. absurd (omega arith)
falling (f ∷ fs) h =
    let R : ℕ → ℕ → Type 0 = λ earlier later. later < earlier in
    AllPairs-cons R f.loss (losses fs) (All-map (R f.loss) (λ (g : Found). g.loss) fs (pairs_head Falls f fs h)) (falling fs (pairs_tail Falls f fs h))

told_of : (b : Problem) (to_beat : ℕ) (fs : List Found) → IsProblem b → AreImprovements b fs → (to_beat < no_loss → begun_with fs ≡ Some to_beat) → AreLosses b to_beat (last_loss fs) (losses fs)
told_of b to_beat fs rules are begun = record {
  lawful = All-map (IsPlanLoss b) (λ (f : Found). f.loss) fs (All-weaker (IsImprovement b) (λ (f : Found). IsPlanLoss b f.loss) (has_plan b rules) fs are.each);
  falling = falling fs are.falling;
  first = λ small. first_same fs ∙ begun small;
  last = last_same fs;
}

-- what was watched is told
pub told : (b : Problem) (to_beat best : ℕ) (loss : Option ℕ) (watch : Bool) (list : Option (Listed Entry)) → IsProblem b → loss ≡ loss_of best → AreWatched b to_beat best watch list
    → AreTold b to_beat loss watch (losses_in list)
told b to_beat best loss false list rules e h = ap losses_in h
told b to_beat best loss true None rules e h = absurd h
told b to_beat best loss true (Some list) rules e h =
    subst (λ (ns : List ℕ). AreLosses b to_beat loss ns) (losses_same list.items)
    (subst (λ (o : Option ℕ). AreLosses b to_beat o (losses (found_in list.items))) (h.2 ∙ sym e) (told_of b to_beat (found_in list.items) rules h.0 h.1))

-- improvements that end with a plan begin with the first one, where there is one
begun_settled : (b : Problem) (first : List Step) (last : Option (List Step)) (board list : List Found) (n : ℕ) → Settles b (Some first) last board list → last_loss list ≡ Some n
    → begun_with list ≡ Some (trace_loss b first)
begun_settled b first None board list n s ends = let none : last_loss [] ≡ Some n = subst (λ (fs : List Found). last_loss fs ≡ Some n) s ends in cc none
begun_settled b first (Some last) board list n s ends = ap begun_with s.2

-- those of a search begin with the plan from which it went on
begun : (b : Problem) (first : Option Trace) (h : History) (list : List Found) → AreOfSearch b (steps_of first) h list → h.best ≤ first_loss b first → first_loss b first < no_loss
    → begun_with list ≡ Some (first_loss b first)
begun b None h list are least small = absurd (omega (arith, small))
begun b (Some t) h list are least small = begun_settled b t.steps.items (steps_of h.plan) are.board list h.best are.settles (are.last ∙ known h.best (omega arith))

-- they are what is to be watched
pub watched : (b : Problem) (first : Option Trace) (h : History) (list : Listed Entry) → AreOfSearch b (steps_of first) h (found_in list.items) → h.best ≤ first_loss b first
    → AreWatched b (first_loss b first) h.best true (Some list)
watched b first h list are least = (are.improvements, begun b first h (found_in list.items) are least, are.last)
