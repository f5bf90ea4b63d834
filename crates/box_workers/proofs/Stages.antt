-- The stages of a search: before it, after several workers, after the caller.
use Rattle.std.proofs.Common.{◌≡◌, ℕ, ◌≤◌, inl, inr, List, [], ◌∷◌, ◌++◌, length, append-nil, reverse, refl, sym, ap, ◌∙◌, arith, All}
use Rattle.std.specs.Prelude.{sum_by}
use Rattle.std.proofs.lemmas.List.Elements.{All-nil, All-cons, All-same}
use Rattle.std.proofs.lemmas.List.Sums.{sum_by-append}
use Rattle.glass_base.specs.Problem.{Problem}
use Rattle.plan_box.specs.Ranges.{PlainBox}
use Rattle.cert_log.specs.declared.history.Left.{Left}
use Rattle.cert_log.specs.Events.{Event, made_by}
use Rattle.shared_best.specs.declared.view.View.{View}
use Rattle.shared_best.specs.Seats.{Words, Seated}
use Rattle.shared_best.specs.Words.{newcomer}
use Rattle.box_workers.specs.declared.hand.Hand.{Hand}
use Rattle.box_workers.specs.Histories.{left_boxes}
use Rattle.box_workers.specs.inner.Hands.{IsFresh}
use Rattle.box_workers.specs.inner.Members.{IsUnused}
use Rattle.box_workers.specs.inner.Rounds.{IsSpent, HasEnded}
use Rattle.box_workers.specs.inner.Teamwork.{IsStage, HasBegun}
use Rattle.box_workers.proofs.Lists.{nil_back, sum_reverse}
use Rattle.box_workers.proofs.Progress.{all_sum}
use Rattle.box_workers.proofs.Teamwork.{teamwork_none, teamwork_more}
use Rattle.glass_base.specs.declared.limits.TheConstants.{MOST_BUDGET}

pub newcomer_unused : (v : View) (first : ℕ) → v ≡ newcomer first → IsUnused v
newcomer_unused v first e = record { tickets = ap (λ (u : View). u.tickets) e; looks = ap (λ (u : View). u.looks) e; announced = ap (λ (u : View). u.announced) e }

-- nothing was done
stage_none : (b : Problem) (w : Words) (starts : ℕ) (boxes : List PlainBox) (v : View) (k : Hand) → IsUnused v → IsFresh b k → k.left.items ≡ [] → IsStage b w starts boxes v k [] [] (reverse boxes)
stage_none b w starts boxes v k unused fresh left = record {
  teamwork = teamwork_none b w v k unused fresh left;
  weighs = λ weight. (let a = all_sum weight [] (left_boxes k.left.items) in let e = ap (λ (ls : List Left). sum_by weight (left_boxes ls)) left in let turned = sum_reverse weight boxes in omega arith);
}

pub begun_none : (b : Problem) (w : Words) (starts : ℕ) (boxes : List PlainBox) (workers : ℕ) (s : Seated) (k : Hand) → s.view ≡ newcomer w.first → IsFresh b k → k.left.items ≡ [] → w.budget ≤ MOST_BUDGET → workers ≡ 1 → HasBegun b w starts boxes workers s s k k (reverse boxes)
begun_none b w starts boxes workers s k new fresh left budget one = record {
  events = [];
  spent = [];
  stage = stage_none b w starts boxes s.view k (newcomer_unused s.view w.first new) fresh left;
  share_is = refl;
  allowance = (let a = ap (λ (u : View). u.allowance) new in omega arith);
  one = λ _. (refl, refl, refl, refl, refl);
  team = λ many. absurd (let e = one in omega arith);
}

-- the tickets that a worker over a list of boxes drew in vain
pub beyond : (budget : ℕ) (waiting : List PlainBox) (spent : List ℕ) → IsSpent budget waiting spent → All (λ t. budget ≤ t) spent
beyond budget waiting spent (inl none) = All-same (λ t. budget ≤ t) spent [] none.0 (All-nil (λ t. budget ≤ t))
beyond budget waiting spent (inr some) = All-same (λ t. budget ≤ t) spent (some.0 ∷ []) some.1 (All-cons (λ t. budget ≤ t) some.0 [] some.2 (All-nil (λ t. budget ≤ t)))

none_waits : (budget : ℕ) (waiting : List PlainBox) (spent : List ℕ) → IsSpent budget waiting spent → spent ≡ [] → waiting ≡ []
none_waits budget waiting spent (inl none) is = none.1
none_waits budget waiting spent (inr some) is = absurd (let e = ap (λ (l : List ℕ). length l) (sym some.1 ∙ is) in omega arith)

-- the caller has worked
module _ (b : Problem) (w : Words) (starts : ℕ) (boxes before after : List PlainBox) (s t : Seated) (k l : Hand) (es : List Event) (spent : List ℕ) (r : IsStage b w starts boxes s.view k es spent before) (e : HasEnded b w starts before s t k l after) where
  pub stage_ended : IsStage b w starts boxes t.view l (es ++ e.events) (spent ++ e.spent) after
  stage_ended = record {
    teamwork = teamwork_more b w s t k l es e.events spent e.spent [] r.teamwork e.run.worked (e.run.left ∙ sym (append-nil k.left.items)) (beyond w.budget after e.spent e.is_spent) (λ _. refl);
    weighs = λ weight. (
        let x = r.weighs weight in let y = e.run.weighs weight in let m = sum_by-append (λ (d : Event). sum_by weight (made_by starts d)) es e.events in let n = sum_by-append (λ (d : Event). weight d.box) es e.events in
        let a = all_sum weight es (left_boxes k.left.items) in let c = all_sum weight e.events after in let d = all_sum weight (es ++ e.events) (left_boxes l.left.items) in
        let i = ap (λ (ls : List Left). sum_by weight (left_boxes ls)) e.run.left in omega arith);
  }

  -- a box waits on only where a ticket was drawn in vain
  pub none_left : spent ++ e.spent ≡ [] → after ≡ []
  none_left none = none_waits w.budget after e.spent e.is_spent (nil_back spent e.spent none)
