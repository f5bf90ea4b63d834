-- Plans each of which loses less than those before it.
use Rattle.std.proofs.Common.{◌≡◌, ◌==◌, ℕ, ◌<◌, ◌≤◌, List, [], ◌∷◌, ◌++◌, All, AllPairs, Bool, true, false, cond, refl, sym, ap, subst, inl, inr, ◌∙◌, Option, Some, None, IfSome, option_map, arith}
use Rattle.std.proofs.lemmas.Bool.{cases_Bool}
use Rattle.std.proofs.lemmas.List.Elements.{All-append, All-cons, All-get_or, All-head, All-nil, All-push, All-tail, All-weaker}
use Rattle.std.proofs.lemmas.List.Kept.{AllPairs-cons}
use Rattle.std.proofs.lemmas.List.Quantifiers.{all_pairs_push}
use Rattle.glass_base.specs.Problem.{Problem}
use Rattle.cut_model.specs.declared.steps.Step.{Step}
use Rattle.plan_trace.specs.Claims.{IsComplete}
use Rattle.cert_log.specs.Lawful.{trace_loss}
use Rattle.best_board.specs.declared.entry.Entry.{Entry}
use Rattle.best_board.specs.Improvements.{AreImprovements, Found, IsImprovement, found_in, last_loss, with_loss}
use Rattle.best_board.specs.Settles.{AreThose, IsBetween, IsNoWorse, Settles, ends}
use Rattle.best_board.proofs.Those.{pairs_head, pairs_tail, those_hold, those_pairs}

abbrev pub Falls : Found → Found → Type 0
Falls earlier later = later.loss < earlier.loss

pub no_improvements : (b : Problem) → AreImprovements b []
no_improvements b = record { each = All-nil (IsImprovement b); falling = λ i j d lt len. absurd (omega arith) }

pub last_pushed : (fs : List Found) (f : Found) → last_loss (fs ++ f ∷ []) ≡ Some f.loss
last_pushed [] f = refl
last_pushed (g ∷ []) f = refl
last_pushed (g ∷ h ∷ fs) f = last_pushed (h ∷ fs) f

-- the loss of the last entry
pub last_entry : (es : List Entry) (e : Entry) → last_loss (found_in (es ++ e ∷ [])) ≡ Some e.loss
last_entry [] e = refl
last_entry (d ∷ []) e = refl
last_entry (d ∷ c ∷ es) e = last_entry (c ∷ es) e

-- what loses less than the last plan loses less than each
above_last : (n : ℕ) (fs : List Found) → AllPairs Falls fs → IfSome (last_loss fs) (λ loss. n < loss) → All (λ (f : Found). n < f.loss) fs
above_last n [] falling above = All-nil (λ (f : Found). n < f.loss)
above_last n (f ∷ []) falling above = All-cons (λ (g : Found). n < g.loss) f [] above (All-nil (λ (g : Found). n < g.loss))
above_last n (f ∷ g ∷ fs) falling above =
    let later = above_last n (g ∷ fs) (pairs_tail Falls f (g ∷ fs) falling) above in
    let least = All-head (λ (h : Found). n < h.loss) g fs later in
    let next = All-head (Falls f) g fs (pairs_head Falls f (g ∷ fs) falling) in
    All-cons (λ (h : Found). n < h.loss) f (g ∷ fs) (omega (arith, least, next)) later

is_plan : (b : Problem) (steps : List Step) → IsComplete b steps → IsImprovement b (with_loss b steps)
is_plan b steps complete = record { complete = complete; loss_is = refl }

-- one more plan, which loses less than all before it
lower_pushed : (b : Problem) (fs : List Found) (f : Found) → AreImprovements b fs → IsImprovement b f → All (λ (g : Found). f.loss < g.loss) fs → AreImprovements b (fs ++ f ∷ [])
lower_pushed b fs f are is above = record {
  each = All-push (IsImprovement b) fs f are.each is;
  falling = all_pairs_push Falls fs f are.falling (λ k d lt. All-get_or (λ (g : Found). f.loss < g.loss) fs k d lt above);
}

-- a plan that loses less than the last one is entered
pub entered : (b : Problem) (fs : List Found) (steps : List Step) → AreImprovements b fs → IsComplete b steps → IfSome (last_loss fs) (λ loss. trace_loss b steps < loss)
    → AreImprovements b (fs ++ with_loss b steps ∷ [])
entered b fs steps are complete below = lower_pushed b fs (with_loss b steps) are (is_plan b steps complete) (above_last (trace_loss b steps) fs are.falling below)

-- a plan before all others, which loses more than they
higher_first : (b : Problem) (f : Found) (fs : List Found) → AreImprovements b fs → IsImprovement b f → All (λ (g : Found). g.loss < f.loss) fs → AreImprovements b (f ∷ fs)
higher_first b f fs are is below = record {
  each = All-cons (IsImprovement b) f fs is are.each;
  falling = AllPairs-cons Falls f fs below are.falling;
}

between_are : (b : Problem) (most : Option ℕ) (least : ℕ) (kept between : List Found) → AllPairs Falls kept → AreThose (IsBetween b most least) kept between → AreImprovements b between
between_are b most least kept between falling those = record {
  each = All-weaker (IsBetween b most least) (IsImprovement b) (λ f is. is.improvement) between (those_hold (IsBetween b most least) kept between those);
  falling = those_pairs (IsBetween b most least) Falls kept between those falling;
}

-- the plans between and the last one, which loses less
with_last : (b : Problem) (most : Option ℕ) (last : List Step) (kept between : List Found) → AllPairs Falls kept → IsComplete b last → AreThose (IsBetween b most (trace_loss b last)) kept between
    → AreImprovements b (between ++ with_loss b last ∷ [])
with_last b most last kept between falling complete those =
    let P : Found → Type 0 = IsBetween b most (trace_loss b last) in
    lower_pushed b between (with_loss b last) (between_are b most (trace_loss b last) kept between falling those) (is_plan b last complete)
    (All-weaker P (λ (g : Found). trace_loss b last < g.loss) (λ g is. is.above) between (those_hold P kept between those))

-- between two equal losses there is nothing
nothing_between : (b : Problem) (most least : ℕ) (fs : List Found) → least ≡ most → All (IsBetween b (Some most) least) fs → fs ≡ []
nothing_between b most least [] e all = refl
nothing_between b most least (f ∷ fs) e all =
    let is = All-head (IsBetween b (Some most) least) f fs all in
    let above = is.above in let below = is.below in absurd (omega arith)

pub record IsSettled (b : Problem) (last : List Step) (list : List Found) : Type 0 where
  pub improvements : AreImprovements b list
  pub last_is : last_loss list ≡ Some (trace_loss b last)

-- the list where the first plan loses more than the last one, or as much
settled_from : (b : Problem) (first last : List Step) (kept between : List Found) (same : Bool) → (trace_loss b last == trace_loss b first) ≡ same → AllPairs Falls kept → IsComplete b first → IsComplete b last
    → trace_loss b last ≤ trace_loss b first → AreThose (IsBetween b (Some (trace_loss b first)) (trace_loss b last)) kept between
    → IsSettled b last (with_loss b first ∷ (between ++ cond same [] (with_loss b last ∷ [])))
settled_from b first last kept between true e falling begun complete worse those =
    let P : Found → Type 0 = IsBetween b (Some (trace_loss b first)) (trace_loss b last) in
    let equal : trace_loss b last ≡ trace_loss b first = grind (arith, e) in
    let none = nothing_between b (trace_loss b first) (trace_loss b last) between equal (those_hold P kept between those) in
    subst (λ (fs : List Found). IsSettled b last (with_loss b first ∷ (fs ++ []))) (sym none) (record {
      improvements = higher_first b (with_loss b first) [] (no_improvements b) (is_plan b first begun) (All-nil (λ (g : Found). g.loss < trace_loss b first));
      last_is = ap Some (sym equal);
    })
settled_from b first last kept between false e falling begun complete worse those =
    let P : Found → Type 0 = IsBetween b (Some (trace_loss b first)) (trace_loss b last) in
    let Q : Found → Type 0 = λ g. g.loss < trace_loss b first in
    let less : trace_loss b last < trace_loss b first = grind (arith, e, worse) in
    let lower = All-weaker P Q (λ g is. is.below) between (those_hold P kept between those) in
    record {
      improvements = higher_first b (with_loss b first) (between ++ with_loss b last ∷ []) (with_last b (Some (trace_loss b first)) last kept between falling complete those) (is_plan b first begun)
          (All-push Q between (with_loss b last) lower less);
      last_is = last_pushed (with_loss b first ∷ between) (with_loss b last);
    }

-- what is settled are improvements that end with the last plan
pub settled : (b : Problem) (first : Option (List Step)) (last : List Step) (kept list : List Found) → AllPairs Falls kept → IfSome first (IsComplete b) → IsComplete b last → IsNoWorse b first (Some last)
    → Settles b first (Some last) kept list → IsSettled b last list
settled b None last kept list falling begun complete worse s =
    subst (IsSettled b last) (sym s.2) (record {
      improvements = with_last b None last kept s.0 falling complete s.1;
      last_is = last_pushed s.0 (with_loss b last);
    })
settled b (Some first) last kept list falling begun complete worse s =
    subst (IsSettled b last) (sym s.2) (settled_from b first last kept s.0 (trace_loss b last == trace_loss b first) refl falling begun complete worse s.1)
