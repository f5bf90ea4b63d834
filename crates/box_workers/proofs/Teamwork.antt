-- What several workers did, put together.
use Rattle.std.proofs.Common.{◌≡◌, ℕ, ◌+◌, ◌≤◌, inl, inr, List, [], ◌∷◌, ◌++◌, map, min, reverse, refl, sym, ap, ◌∙◌, subst, arith, All}
use Rattle.std.specs.Prelude.{sum_by}
use Rattle.std.specs.List.{Contains}
use Rattle.std.proofs.lemmas.List.{map-append}
use Rattle.std.proofs.lemmas.List.Elements.{All-nil, All-cons, All-append, Contains-append_cases}
use Rattle.std.proofs.lemmas.List.Sums.{sum_by-append}
use Rattle.glass_base.specs.Problem.{Problem}
use Rattle.plan_box.specs.Bounds.{bound}
use Rattle.plan_box.specs.Ranges.{PlainBox}
use Rattle.cert_log.specs.declared.history.Left.{Left}
use Rattle.cert_log.specs.declared.history.Note.{Note}
use Rattle.cert_log.specs.Lawful.{no_loss, IsBest}
use Rattle.cert_log.proofs.Members.{first_or_later, contains_none}
use Rattle.cert_log.specs.Events.{Event, note_of, tickets_of}
use Rattle.cert_log.proofs.Counts.{sum_map}
use Rattle.shared_best.specs.declared.view.View.{View}
use Rattle.shared_best.specs.Seats.{Words, Seated}
use Rattle.shared_best.specs.Words.{joined}
use Rattle.box_workers.specs.declared.hand.Hand.{Hand}
use Rattle.box_workers.specs.Runs.{least_loss, IsHandled, AreHandled}
use Rattle.box_workers.specs.Works.{Worked, left_open}
use Rattle.box_workers.specs.inner.Hands.{IsFresh}
use Rattle.box_workers.specs.inner.Members.{IsUnused}
use Rattle.box_workers.specs.inner.Teamwork.{Stands, HaveBounds, IsTeamwork, Joins}
use Rattle.box_workers.proofs.Lists.{all_reverse, nil_front, nil_back}
use Rattle.box_workers.proofs.Progress.{least_low}
use Rattle.box_workers.proofs.Worked.{least_min}

-- each box was handled where the hand had some loss
pub handled_at : (b : Problem) (w : Words) (loss : ℕ) (es : List Event) (e : Event) → AreHandled b w loss es → Contains es e → (l : ℕ) × IsHandled b w l e × (least_loss loss es ≤ min l e.probed)
handled_at b w loss [] e all at = absurd (contains_none e at)
handled_at b w loss (d ∷ es) e all at =
    elim (first_or_later d es e at) [
      | inl is ↦ (loss, subst (IsHandled b w loss) is all.0, (let l = least_low (min loss d.probed) es in let p = ap (λ (z : Event). z.probed) is in omega arith))
      | inr later ↦ handled_at b w (min loss d.probed) es e all.1 later
    ]

-- by lesser numbers it stands too
stands_on : (b : Problem) (w : Words) (lowest lower best less : ℕ) (e : Event) → lower ≤ lowest → less ≤ best → Stands b w lowest best e → Stands b w lower less e
stands_on b w lowest lower best less e low few s =
    record { loss = s.loss; handled = s.handled; first = s.first; seen = (let a = s.seen in omega arith); least = (let a = s.least in omega arith) }

least_append : (loss : ℕ) (es ds : List Event) → least_loss loss (es ++ ds) ≡ least_loss (least_loss loss es) ds
least_append loss [] ds = refl
least_append loss (e ∷ es) ds = least_append (min loss e.probed) es ds

pub open_bounds : (b : Problem) (xs : List PlainBox) → HaveBounds b (left_open b xs)
open_bounds b [] = All-nil (λ (l : Left). l.bound ≡ bound b l.bx.ranges)
open_bounds b (x ∷ xs) = All-cons (λ (l : Left). l.bound ≡ bound b l.bx.ranges) (record { bx = x; bound = bound b x.ranges }) (left_open b xs) refl (open_bounds b xs)

-- the tickets and the looks of two parts of the work
tickets_sum : (weight : ℕ → ℕ) (es ds : List Event) (spent vain : List ℕ) → sum_by weight (tickets_of (es ++ ds)) + sum_by weight (spent ++ vain) ≡ (sum_by weight (tickets_of es) + sum_by weight spent) + (sum_by weight (tickets_of ds) + sum_by weight vain)
tickets_sum weight es ds spent vain =
    let m = ap (sum_by weight) (map-append (λ (e : Event). e.ticket) es ds) in let a = sum_by-append weight (tickets_of es) (tickets_of ds) in let c = sum_by-append weight spent vain in omega arith

looks_sum : (weight : ℕ × ℕ → ℕ) (es : List Event) → sum_by weight (map (λ (e : Event). (e.ticket, e.seen)) es) ≡ sum_by (λ (e : Event). weight (e.ticket, e.seen)) es
looks_sum weight es = sum_map (λ (e : Event). (e.ticket, e.seen)) weight es

-- nothing was done
pub teamwork_none : (b : Problem) (w : Words) (v : View) (k : Hand) → IsUnused v → IsFresh b k → k.left.items ≡ [] → IsTeamwork b w v k [] []
teamwork_none b w v k u f left = record {
  tickets = λ weight. ap (sum_by weight) u.tickets;
  looks = λ weight. ap (sum_by weight) u.looks;
  beyond = All-nil (λ t. w.budget ≤ t);
  log = f.log;
  each = λ e at. absurd (contains_none e at);
  loss = f.loss;
  announced = u.announced ∙ sym f.loss;
  plan = subst (IsBest b k.loss) (sym f.plan) f.loss;
  bounds = subst (HaveBounds b) (sym left) (open_bounds b []);
  emptied = λ _. left;
}

-- one worker went on
module _ (b : Problem) (w : Words) (s t : Seated) (k m : Hand) (es ds : List Event) (spent vain : List ℕ) (xs : List PlainBox) (r : IsTeamwork b w s.view k es spent) (q : Worked b w s t k m ds vain)
    (left : m.left.items ≡ k.left.items ++ left_open b xs) (beyond : All (λ t. w.budget ≤ t) vain) (none : vain ≡ [] → xs ≡ []) where
  least_is : m.loss ≡ least_loss no_loss (es ++ ds)
  least_is = q.loss ∙ ap (λ (n : ℕ). least_loss n ds) r.loss ∙ sym (least_append no_loss es ds)

  announced_is : t.view.announced ≡ m.loss
  announced_is = let a = r.announced in elim q.better [ inl more ↦ (let c = more.0 in let d = more.2 in omega arith) | inr same ↦ (let c = same.0 in let d = same.2 in omega arith) ]

  plan_is : IsBest b m.loss m.plan
  plan_is = elim q.better [
    | inl more ↦ subst (IsBest b m.loss) (sym more.1.1) more.1.2
    | inr same ↦ subst (λ (n : ℕ). IsBest b n m.plan) (sym same.0) (subst (IsBest b k.loss) (sym same.1) r.plan)
  ]

  lower : m.loss ≤ k.loss
  lower = let a = q.loss in let c = least_low k.loss ds in omega arith

  each : (e : Event) → Contains (es ++ ds) e → Stands b w t.view.seen m.loss e
  each e at =
      elim (Contains-append_cases es ds e at) [
        | inl before ↦ stands_on b w s.view.seen t.view.seen k.loss m.loss e q.seen lower (r.each e before)
        | inr now ↦
            (let g = handled_at b w k.loss ds e q.handled now in let i = q.between e now in
            record { loss = g.0; handled = g.1; first = i.first; seen = i.later; least = (let a = q.loss in let c = g.2 in omega arith) })
      ]

  pub teamwork_more : IsTeamwork b w t.view m (es ++ ds) (spent ++ vain)
  teamwork_more = record {
    tickets = λ weight. (
        let a = ap (sum_by weight) q.tickets in let c = sum_by-append weight s.view.tickets (tickets_of ds ++ vain) in let d = sum_by-append weight (tickets_of ds) vain in
        let n = tickets_sum weight es ds spent vain in let o = r.tickets weight in omega arith);
    looks = λ weight. (
        let a = ap (sum_by weight) q.looks in let c = sum_by-append weight s.view.looks (map (λ (e : Event). (e.ticket, e.seen)) ds) in let d = looks_sum weight ds in
        let n = sum_by-append (λ (e : Event). weight (e.ticket, e.seen)) es ds in let o = r.looks weight in omega arith);
    beyond = All-append (λ t. w.budget ≤ t) spent vain r.beyond beyond;
    log = q.log ∙ ap (λ (ns : List Note). ns ++ map note_of ds) r.log ∙ sym (map-append note_of es ds);
    each = each;
    loss = least_is;
    announced = announced_is;
    plan = plan_is;
    bounds = subst (HaveBounds b) (sym left) (All-append (λ (l : Left). l.bound ≡ bound b l.bx.ranges) k.left.items (left_open b xs) r.bounds (open_bounds b xs));
    emptied = λ no_ticket. (left ∙ ap (λ (ls : List Left). ls ++ left_open b xs) (r.emptied (nil_front spent vain no_ticket)) ∙ ap (left_open b) (none (nil_back spent vain no_ticket)));
  }

-- two parts of the work are put together
module _ (b : Problem) (w : Words) (v u x : View) (k other m : Hand) (es ds : List Event) (spent vain : List ℕ) (r : IsTeamwork b w v k es spent) (q : IsTeamwork b w u other ds vain) (view : x ≡ joined v u) (joins : Joins other k m) where
  both_losses : m.loss ≡ min k.loss other.loss
  both_losses = elim joins.plan [ inl less ↦ (let a = less.0 in let c = less.1 in omega arith) | inr more ↦ (let a = more.0 in let c = more.1 in omega arith) ]

  both_least : m.loss ≡ least_loss no_loss (es ++ ds)
  both_least =
      let a = both_losses in let c = r.loss in let d = q.loss in let l = least_append no_loss es ds in
      let n = least_min (least_loss no_loss es) no_loss ds (least_low no_loss es) in omega arith

  both_plans : IsBest b m.loss m.plan
  both_plans = elim joins.plan [
    | inl less ↦ subst (λ (n : ℕ). IsBest b n m.plan) (sym less.1) (subst (IsBest b other.loss) (sym less.2) q.plan)
    | inr more ↦ subst (λ (n : ℕ). IsBest b n m.plan) (sym more.1) (subst (IsBest b k.loss) (sym more.2) r.plan)
  ]

  both_seen : x.seen ≡ min v.seen u.seen
  both_seen = ap (λ (z : View). z.seen) view

  both_each : (e : Event) → Contains (es ++ ds) e → Stands b w x.seen m.loss e
  both_each e at =
      let a = both_seen in let c = both_losses in
      elim (Contains-append_cases es ds e at) [
        | inl first ↦ stands_on b w v.seen x.seen k.loss m.loss e (omega arith) (omega arith) (r.each e first)
        | inr second ↦ stands_on b w u.seen x.seen other.loss m.loss e (omega arith) (omega arith) (q.each e second)
      ]

  pub teamwork_both : IsTeamwork b w x m (es ++ ds) (spent ++ vain)
  teamwork_both = record {
    tickets = λ weight. (
        let a = ap (λ (z : View). sum_by weight z.tickets) view in let c = sum_by-append weight v.tickets u.tickets in
        let n = tickets_sum weight es ds spent vain in let o = r.tickets weight in let p = q.tickets weight in omega arith);
    looks = λ weight. (
        let a = ap (λ (z : View). sum_by weight z.looks) view in let c = sum_by-append weight v.looks u.looks in
        let n = sum_by-append (λ (e : Event). weight (e.ticket, e.seen)) es ds in let o = r.looks weight in let p = q.looks weight in omega arith);
    beyond = All-append (λ t. w.budget ≤ t) spent vain r.beyond q.beyond;
    log = joins.log ∙ ap (λ (ns : List Note). ns ++ other.log.items) r.log ∙ ap (λ (ns : List Note). map note_of es ++ ns) q.log ∙ sym (map-append note_of es ds);
    each = both_each;
    loss = both_least;
    announced = (let a = ap (λ (z : View). z.announced) view in let c = r.announced in let d = q.announced in let l = both_losses in omega arith);
    plan = both_plans;
    bounds = subst (HaveBounds b) (sym joins.left)
        (All-append (λ (l : Left). l.bound ≡ bound b l.bx.ranges) k.left.items (reverse other.left.items) r.bounds (all_reverse (λ (l : Left). l.bound ≡ bound b l.bx.ranges) other.left.items q.bounds));
    emptied = λ no_ticket. (joins.left ∙ ap (λ (ls : List Left). ls ++ reverse other.left.items) (r.emptied (nil_front spent vain no_ticket)) ∙ ap (λ (ls : List Left). reverse ls) (q.emptied (nil_back spent vain no_ticket)));
  }
