-- How the improvements of a search are put together.
use Rattle.std.proofs.Common.{◌≡◌, ℕ, ◌+◌, ◌<◌, List, [], ◌∷◌, ◌++◌, length, take, get_or, append_assoc, append-nil, refl, sym, ap, subst, ◌∙◌, Option, IfSome}
use Rattle.std.proofs.lemmas.List.{take_more}
use Rattle.glass_base.specs.Problem.{Problem}
use Rattle.cut_model.specs.declared.steps.Step.{Step}
use Rattle.plan_trace.specs.Claims.{IsComplete}
use Rattle.cert_log.specs.Lawful.{trace_loss}
use Rattle.best_board.specs.declared.entry.Entry.{Entry}
use Rattle.best_board.specs.Improvements.{AreImprovements, Found, found, found_in, last_loss, with_loss}
use Rattle.best_board.specs.Settles.{AreThose, IsBetween}
use Rattle.best_board.proofs.Improving.{entered}
use Rattle.best_board.proofs.Those.{those_less, those_more}

found_pushed : (es : List Entry) (e : Entry) → found_in (es ++ e ∷ []) ≡ found_in es ++ found e ∷ []
found_pushed [] e = refl
found_pushed (d ∷ es) e = ap (λ (fs : List Found). found d ∷ fs) (found_pushed es e)

-- an entry was appended, and loses less than the last one
pub entered_entry : (b : Problem) (list new : List Entry) (e : Entry) (steps : List Step) → AreImprovements b (found_in list) → IsComplete b steps → IfSome (last_loss (found_in list)) (λ loss. e.loss < loss)
    → e.trace.steps.items ≡ steps → e.loss ≡ trace_loss b steps → new ≡ list ++ e ∷ [] → AreImprovements b (found_in new)
entered_entry b list new e steps are complete below same loss pushed =
    let is : found e ≡ with_loss b steps = cc (same, loss) in
    let all : found_in new ≡ found_in list ++ with_loss b steps ∷ [] = ap found_in pushed ∙ found_pushed list e ∙ ap (λ (f : Found). found_in list ++ f ∷ []) is in
    subst (AreImprovements b) (sym all) (entered b (found_in list) steps are complete (subst (λ (n : ℕ). IfSome (last_loss (found_in list)) (λ loss. n < loss)) loss below))

-- the entries up to the next one
next_entry : (es : List Entry) (i : ℕ) (e : Entry) → i < length es → e ≡ get_or es i e → found_in (take (i + 1) es) ≡ found_in (take i es) ++ found e ∷ []
next_entry es i e lt is =
    ap found_in (take_more es i e lt ∙ ap (λ (d : Entry). take i es ++ d ∷ []) (sym is)) ∙ found_pushed (take i es) e

-- those of these entries that lie between two losses were appended to a list
abbrev pub Gathers : Problem → Option ℕ → ℕ → List Entry → List Found → List Found → Type 0
Gathers b most least es before list = (between : List Found) × AreThose (IsBetween b most least) (found_in es) between × (list ≡ before ++ between)

pub gathers_none : (b : Problem) (most : Option ℕ) (least : ℕ) (before : List Found) → Gathers b most least [] before before
gathers_none b most least before = ([], refl, sym (append-nil before))

-- the next one lies between, and was appended
pub gathers_more : (b : Problem) (most : Option ℕ) (least : ℕ) (es : List Entry) (i : ℕ) (e : Entry) (before list new : List Found) → i < length es → e ≡ get_or es i e → IsBetween b most least (found e)
    → new ≡ list ++ found e ∷ [] → Gathers b most least (take i es) before list → Gathers b most least (take (i + 1) es) before new
gathers_more b most least es i e before list new lt at is pushed g =
    let P : Found → Type 0 = IsBetween b most least in (
      g.0 ++ found e ∷ [],
      subst (λ (fs : List Found). AreThose P fs (g.0 ++ found e ∷ [])) (sym (next_entry es i e lt at)) (those_more P (found_in (take i es)) g.0 (found e) g.1 is),
      pushed ∙ ap (λ (fs : List Found). fs ++ found e ∷ []) g.2 ∙ append_assoc before g.0 (found e ∷ []),
    )

-- the next one does not
pub gathers_less : (b : Problem) (most : Option ℕ) (least : ℕ) (es : List Entry) (i : ℕ) (e : Entry) (before list : List Found) → i < length es → e ≡ get_or es i e → ¬ IsBetween b most least (found e)
    → Gathers b most least (take i es) before list → Gathers b most least (take (i + 1) es) before list
gathers_less b most least es i e before list lt at isnt g =
    let P : Found → Type 0 = IsBetween b most least in
    (g.0, subst (λ (fs : List Found). AreThose P fs g.0) (sym (next_entry es i e lt at)) (those_less P (found_in (take i es)) g.0 (found e) g.1 isnt), g.2)

-- three parts, one behind the other
pub joined : (none first both all begins between ends : List Found) → none ≡ [] → first ≡ none ++ begins → both ≡ first ++ between → all ≡ both ++ ends → all ≡ begins ++ (between ++ ends)
joined none first both all begins between ends e f g h =
    h ∙ ap (λ (fs : List Found). fs ++ ends) (g ∙ ap (λ (fs : List Found). fs ++ between) (f ∙ ap (λ (fs : List Found). fs ++ begins) e)) ∙ append_assoc begins between ends
