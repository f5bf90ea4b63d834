-- One more box was handled by a worker.
use Rattle.std.proofs.Common.{◌≡◌, ℕ, ◌+◌, ◌<◌, ◌≤◌, ◌⊎◌, inl, inr, Bool, true, false, cond, nat_lt, List, [], ◌∷◌, ◌++◌, length, length-append, append-nil, append_assoc, map, min, refl, sym, ap, ◌∙◌, subst, arith, All}
use Rattle.std.specs.Prelude.{OnErr, sum_by, Option, Result, Ok, Err}
use Rattle.std.specs.List.{Contains}
use Rattle.std.proofs.lemmas.List.{length-map, map-append}
use Rattle.std.proofs.lemmas.List.Elements.{Contains-append_cases}
use Rattle.std.proofs.lemmas.List.Sums.{sum_by_push}
use Rattle.std.proofs.lemmas.Bool.Decides.{nat_tests}
use Rattle.glass_base.specs.Problem.{Problem}
use Rattle.glass_base.specs.Run.{Listed}
use Rattle.cut_model.specs.declared.steps.Trace.{Trace}
use Rattle.plan_box.specs.Frames.{frame_of}
use Rattle.plan_box.specs.Ranges.{Ranges, PlainBox, IsBox}
use Rattle.box_bound.specs.Leastings.{IsOf}
use Rattle.cert_log.specs.declared.history.Act.{Act}
use Rattle.cert_log.specs.declared.history.Cause.{Cause}
use Rattle.cert_log.specs.declared.history.Left.{Left}
use Rattle.cert_log.specs.declared.history.Note.{Note}
use Rattle.cert_log.specs.Lawful.{no_loss, times, trace_loss}
use Rattle.cert_log.proofs.Members.{times-append, first_or_later, contains_none}
use Rattle.cert_log.specs.Events.{Event, note_of, made_by, tickets_of}
use Rattle.shared_best.specs.declared.view.View.{View}
use Rattle.shared_best.specs.Seats.{Words, Seated, IsSeatOf}
use Rattle.shared_best.specs.Words.{looked, lowered, drawn, none_known, IsWhole}
use Rattle.box_workers.specs.declared.hand.Hand.{Hand}
use Rattle.box_workers.specs.Handling.{IsIdle, IsProbed, IsAct, told, IsPlanAfter, Handles, Spends}
use Rattle.box_workers.specs.Runs.{least_loss, IsHandled, AreHandled, AreSeen, Reached, AreReached}
use Rattle.box_workers.specs.Works.{BrokeOff, HasPlan, IsBetter, IsBetween, Worked, left_open}
use Rattle.box_workers.specs.inner.Hands.{IsLike}
use Rattle.box_workers.specs.inner.Rounds.{AreFew, BreaksOff, HasRun, HasEnded, Stops, Turns}
use Rattle.box_workers.proofs.Progress.{told_keeps, last_push, least_push, least_low, few_push, rising_push, all_sum}

handled_push : (b : Problem) (w : Words) (loss : ℕ) (es : List Event) (e : Event) → AreHandled b w loss es → IsHandled b w (least_loss loss es) e → AreHandled b w loss (es ++ e ∷ [])
handled_push b w loss [] e all last = (last, tt)
handled_push b w loss (d ∷ es) e all last = (all.0, handled_push b w (min loss d.probed) es e all.1 last)

seen_push : (m : ℕ) (es : List Event) (e : Event) → AreSeen m es → e.seen ≡ least_loss m es → AreSeen m (es ++ e ∷ [])
seen_push m [] e all last = (last, tt)
seen_push m (d ∷ es) e all last = (all.0, seen_push (min m d.probed) es e all.1 last)

reached_push : (b : Problem) (m : ℕ) (es : List Event) (e : Event) → AreReached b m es → Reached b e.box.ranges (min (least_loss m es) e.probed) e.act → AreReached b m (es ++ e ∷ [])
reached_push b m [] e all last = (last, tt)
reached_push b m (d ∷ es) e all last = (all.0, reached_push b (min m d.probed) es e all.1 last)

-- the least of a lesser loss
pub least_min : (a c : ℕ) (es : List Event) → a ≤ c → least_loss a es ≡ min a (least_loss c es)
least_min a c [] h = omega arith
least_min a c (e ∷ es) h = let i = least_min (min a e.probed) (min c e.probed) es (omega arith) in let l = least_low (min c e.probed) es in omega arith

-- where the least of all losses was seen, it decides
exact : (b : Problem) (floor m loss probed seen : ℕ) (rs : List Ranges) (a : Act) → seen ≡ m → m ≤ loss → loss ≤ no_loss → IsProbed b rs probed → IsAct b floor rs seen (min loss probed) a → Reached b rs (min m probed) a
exact b floor m loss probed seen rs (Act.Split step v) s low small p is = let l = is.1 in omega arith
exact b floor m loss probed seen rs (Act.Closed (Cause.Reason r) threshold) s low small p is =
    elim p [ inl found ↦ absurd (found.0.not_refuted (_, is.1.applies)) | inr none ↦ (let t = is.0 in let n = none.1 in omega arith) ]
exact b floor m loss probed seen rs (Act.Closed Cause.Bound threshold) s low small p is = let t = is.0 in omega arith
exact b floor m loss probed seen rs (Act.Closed Cause.Floor threshold) s low small p is = let t = is.0 in omega arith
exact b floor m loss probed seen rs (Act.Closed Cause.Unsaid threshold) s low small p is = absurd is

-- what is announced at last
announced_is : (loss probed : ℕ) (v : View) → ((probed < loss) × ((told loss probed v).announced ≡ min v.announced probed)) ⊎ ((loss ≤ probed) × ((told loss probed v).announced ≡ v.announced))
announced_is loss probed v = by_test (nat_lt probed loss) refl
  where
    of_true : (a b : ℕ) → nat_lt a b ≡ true → a < b
    of_true a b h = grind (arith, nat_tests)

    of_false : (a b : ℕ) → nat_lt a b ≡ false → b ≤ a
    of_false a b h = grind (arith, nat_tests)

    by_test : (t : Bool) → nat_lt probed loss ≡ t → ((probed < loss) × ((told loss probed v).announced ≡ min v.announced probed)) ⊎ ((loss ≤ probed) × ((told loss probed v).announced ≡ v.announced))
    by_test true q = inl (of_true probed loss q, ap (λ (t : Bool). (cond t (lowered v probed) v).announced) q)
    by_test false q = inr (of_false probed loss q, ap (λ (t : Bool). (cond t (lowered v probed) v).announced) q)

-- the plan of a box that was handled, where it is better
has_plan : (b : Problem) (rs : List Ranges) (loss probed : ℕ) (old new : Option Trace) → IsProbed b rs probed → IsPlanAfter b rs loss probed old new → probed < loss → loss ≤ no_loss → HasPlan b probed new
has_plan b rs loss probed old new probe (inr worse) less small = absurd (let l = worse.0 in omega arith)
has_plan b rs loss probed old new (inr none) (inl better) less small = absurd (let e = none.1 in omega arith)
has_plan b rs loss probed old new (inl found) (inl better) less small =
    let t = better.1.0 in (t, better.1.1, ((λ e. (let l = less in omega arith)), better.1.3, (let e = found.1 in let f = ap (trace_loss b) better.1.2 in omega arith)))

same_plan : (b : Problem) (rs : List Ranges) (loss probed : ℕ) (old new : Option Trace) → IsPlanAfter b rs loss probed old new → loss ≤ probed → new ≡ old
same_plan b rs loss probed old new (inl better) more = absurd (let l = better.0 in omega arith)
same_plan b rs loss probed old new (inr worse) more = worse.1

count : (es : List Event) → length (tickets_of es) ≡ length es
count es = length-map es (λ (e : Event). e.ticket)

pub like_idle : (k l : Hand) → IsIdle k l → IsLike k l
like_idle k l i = record { worker = i.worker; log = i.log; plan = i.plan; loss = i.loss }

-- nothing was done yet
pub worked_none : (b : Problem) (w : Words) (s : Seated) (k l : Hand) → IsSeatOf w s → IsLike k l → Worked b w s s k l [] []
worked_none b w s k l seat like = record {
  seat = seat;
  tickets = sym (append-nil s.view.tickets);
  rising = λ i j d low high. absurd (omega arith);
  allowance = omega arith;
  looks = sym (append-nil s.view.looks);
  seen = omega arith;
  between = λ e at. absurd (contains_none e at);
  log = like.log ∙ sym (append-nil k.log.items);
  handled = tt;
  worker = like.worker;
  loss = like.loss;
  better = inr (like.loss, like.plan, refl);
  exact = λ _ _. (tt, tt);
}

module _ (b : Problem) (w : Words) (s t u : Seated) (k l m : Hand) (es : List Event) (r : Worked b w s t k l es []) where
  tickets_so_far : t.view.tickets ≡ s.view.tickets ++ tickets_of es
  tickets_so_far = r.tickets ∙ ap (λ (ts : List ℕ). s.view.tickets ++ ts) (append-nil (tickets_of es))

  t_announced : t.view.announced ≤ s.view.announced
  t_announced = elim r.better [ inl more ↦ (let a = more.2 in omega arith) | inr same ↦ (let a = same.2 in omega arith) ]

  -- a ticket was drawn in vain
  module _ (ticket : ℕ) (drew : u.view ≡ drawn t.view ticket) (like : IsLike l m) where
    later : u.view.seen ≡ t.view.seen
    later = ap (λ (v : View). v.seen) drew

    still_better : IsBetter b s.view u.view k m
    still_better =
        let a = ap (λ (v : View). v.announced) drew in let n = like.loss in
        elim r.better [
          | inl more ↦ inl ((let z = more.0 in omega arith), subst (λ (q : Option Trace). HasPlan b m.loss q) (sym like.plan) (subst (λ (i : ℕ). HasPlan b i l.plan) (sym n) more.1), (let z = more.2 in omega arith))
          | inr same ↦ inr (n ∙ same.0, like.plan ∙ same.1, a ∙ same.2)
        ]

    pub worked_spent : IsSeatOf w u → 1 ≤ t.view.allowance → Worked b w s u k m es (ticket ∷ [])
    worked_spent seat some = record {
      seat = seat;
      tickets = ap (λ (v : View). v.tickets) drew ∙ ap (λ (ts : List ℕ). ts ++ ticket ∷ []) tickets_so_far ∙ append_assoc s.view.tickets (tickets_of es) (ticket ∷ []);
      rising = r.rising;
      allowance = (let a = ap (λ (v : View). v.allowance) drew in let q = r.allowance in omega arith);
      looks = ap (λ (v : View). v.looks) drew ∙ r.looks;
      seen = (let a = later in let q = r.seen in omega arith);
      between = λ e at. (let f = r.between e at in record { first = f.first; seen = f.seen; announced = f.announced; later = (let a = later in let g = f.later in omega arith) });
      log = like.log ∙ r.log;
      handled = r.handled;
      worker = like.worker ∙ r.worker;
      loss = like.loss ∙ r.loss;
      better = still_better;
      exact = r.exact;
    }

  -- one more box was handled
  module _ (x : PlainBox) (e : Event) (h : Handles b w x t u l m e) (small : k.loss ≤ no_loss) where
    abbrev last : View
    last = looked (drawn t.view e.ticket) e.seen

    l_low : l.loss ≤ k.loss
    l_low = let q = r.loss in let a = least_low k.loss es in omega arith

    l_small : l.loss ≤ no_loss
    l_small = let a = l_low in omega arith

    u_seen : u.view.seen ≡ e.seen
    u_seen = ap (λ (v : View). v.seen) h.seat ∙ told_keeps (λ (v : View). v.seen) l.loss e.probed last refl

    u_announced : ((e.probed < l.loss) × (u.view.announced ≡ min t.view.announced e.probed)) ⊎ ((l.loss ≤ e.probed) × (u.view.announced ≡ t.view.announced))
    u_announced = elim (announced_is l.loss e.probed last) [ inl a ↦ inl (a.0, ap (λ (v : View). v.announced) h.seat ∙ a.1) | inr a ↦ inr (a.0, ap (λ (v : View). v.announced) h.seat ∙ a.1) ]

    better : IsBetter b s.view u.view k m
    better =
        let n = h.loss in let low = l_low in
        elim u_announced [
          | inl a ↦
              (let p = has_plan b x.ranges l.loss e.probed l.plan m.plan h.probed h.plan a.0 l_small in
              let is : e.probed ≡ m.loss = (let z = a.0 in omega arith) in
              inl ((let z = a.0 in omega arith), subst (λ (i : ℕ). HasPlan b i m.plan) is p, elim r.better [ inl more ↦ (let z = a.1 in let y = more.2 in let c = a.0 in omega arith) | inr same ↦ (let z = a.1 in let y = same.2 in let c = a.0 in omega arith) ]))
          | inr a ↦
              (let p = same_plan b x.ranges l.loss e.probed l.plan m.plan h.plan a.0 in
              let is : m.loss ≡ l.loss = (let z = a.0 in omega arith) in
              elim r.better [
                | inl more ↦ inl ((let z = more.0 in omega arith), subst (λ (q : Option Trace). HasPlan b m.loss q) (sym p) (subst (λ (i : ℕ). HasPlan b i l.plan) (sym is) more.1), (let z = a.1 in let y = more.2 in omega arith))
                | inr same ↦ inr ((let z = same.0 in omega arith), p ∙ same.1, a.1 ∙ same.2)
              ])
        ]

    between : (d : Event) → Contains (es ++ e ∷ []) d → IsBetween w s.view u.view d
    between d at =
        elim (Contains-append_cases es (e ∷ []) d at) [
          | inl before ↦ (let f = r.between d before in record { first = f.first; seen = f.seen; announced = f.announced; later = (let a = u_seen in let c = h.look.seen in let g = f.later in omega arith) })
          | inr here ↦
              elim (first_or_later e [] d here) [
                | inl is ↦
                    subst (IsBetween w s.view u.view) is record {
                      first = h.look.first;
                      seen = (let a = h.look.seen in let c = r.seen in omega arith);
                      announced = (let a = h.look.announced in let c = t_announced in omega arith);
                      later = (let a = u_seen in omega arith);
                    }
                | inr later ↦ absurd (contains_none d later)
              ]
        ]

    pub new_tickets : (y : ℕ) → 0 < times y (tickets_of es) → y < e.ticket
    new_tickets y has = h.look.fresh y (let a = ap (times y) tickets_so_far in let c = times-append y s.view.tickets (tickets_of es) in omega arith)

    t_whole : IsWhole s.view → IsWhole t.view
    t_whole whole = let a = ap (λ (ts : List ℕ). length ts) tickets_so_far in let c = length-append s.view.tickets (tickets_of es) in let n = count es in let q = r.allowance in omega arith

    act_at : IsAct b w.floor e.box.ranges e.seen (min l.loss e.probed) e.act
    act_at = subst (λ (y : PlainBox). IsAct b w.floor y.ranges e.seen (min l.loss e.probed) e.act) (sym h.box) (subst (λ (n : ℕ). IsAct b w.floor x.ranges e.seen n e.act) h.loss h.act)

    probed_at : IsProbed b e.box.ranges e.probed
    probed_at = subst (λ (y : PlainBox). IsProbed b y.ranges e.probed) (sym h.box) h.probed

    exact_more : IsWhole s.view → min w.first s.view.announced ≤ k.loss → AreSeen (min w.first s.view.announced) (es ++ e ∷ []) × AreReached b (min w.first s.view.announced) (es ++ e ∷ [])
    exact_more whole low =
        let z = min w.first s.view.announced in
        let d = least_min z k.loss es low in let q = r.loss in
        let is : min w.first t.view.announced ≡ least_loss z es = elim r.better [ inl more ↦ (let a = more.2 in omega arith) | inr same ↦ (let a = same.2 in let c = same.0 in omega arith) ] in
        let seen : e.seen ≡ least_loss z es = h.look.whole (t_whole whole) ∙ is in
        let before = r.exact whole low in
        (seen_push z es e before.0 seen, reached_push b z es e before.1 (exact b w.floor (least_loss z es) l.loss e.probed e.seen e.box.ranges e.act seen (omega arith) l_small probed_at act_at))

    pub worked_more : x.frame ≡ frame_of b → IsSeatOf w u → 1 ≤ t.view.allowance → Worked b w s u k m (es ++ e ∷ []) []
    worked_more of seat some = record {
      seat = seat;
      tickets = ap (λ (v : View). v.tickets) h.seat ∙ told_keeps (λ (v : View). v.tickets) l.loss e.probed last refl ∙ ap (λ (ts : List ℕ). ts ++ e.ticket ∷ []) tickets_so_far ∙ append_assoc s.view.tickets (tickets_of es) (e.ticket ∷ [])
          ∙ ap (λ (ts : List ℕ). s.view.tickets ++ ts) (sym (map-append (λ (d : Event). d.ticket) es (e ∷ [])) ∙ sym (append-nil (tickets_of (es ++ e ∷ []))));
      rising = rising_push es e r.rising new_tickets;
      allowance = (let a = ap (λ (v : View). v.allowance) h.seat ∙ told_keeps (λ (v : View). v.allowance) l.loss e.probed last refl in let c = length-append es (e ∷ []) in let q = r.allowance in omega arith);
      looks = ap (λ (v : View). v.looks) h.seat ∙ told_keeps (λ (v : View). v.looks) l.loss e.probed last refl ∙ ap (λ (n : ℕ). t.view.looks ++ (n, e.seen) ∷ []) (last_push none_known e.ticket t.view.tickets)
          ∙ ap (λ (ps : List (ℕ × ℕ)). ps ++ (e.ticket, e.seen) ∷ []) r.looks ∙ append_assoc s.view.looks (map (λ (d : Event). (d.ticket, d.seen)) es) ((e.ticket, e.seen) ∷ [])
          ∙ ap (λ (ps : List (ℕ × ℕ)). s.view.looks ++ ps) (sym (map-append (λ (d : Event). (d.ticket, d.seen)) es (e ∷ [])));
      seen = (let a = u_seen in let c = h.look.seen in let q = r.seen in omega arith);
      between = between;
      log = h.log ∙ ap (λ (ns : List Note). ns ++ note_of e ∷ []) r.log ∙ append_assoc k.log.items (map note_of es) (note_of e ∷ []) ∙ ap (λ (ns : List Note). k.log.items ++ ns) (sym (map-append note_of es (e ∷ [])));
      handled = handled_push b w k.loss es e r.handled record {
        frame = ap (λ (y : PlainBox). y.frame) h.box ∙ of;
        valid = subst IsBox (sym h.box) h.valid;
        probed = probed_at;
        in_budget = h.look.in_budget;
        act = subst (λ (n : ℕ). IsAct b w.floor e.box.ranges e.seen (min n e.probed) e.act) r.loss act_at;
      };
      worker = h.worker ∙ r.worker;
      loss = h.loss ∙ ap (λ (n : ℕ). min n e.probed) r.loss ∙ sym (least_push k.loss es e);
      better = better;
      exact = exact_more;
    }

-- each box takes one ticket
pub draws_one : (b : Problem) (w : Words) (x : PlainBox) (t u : Seated) (l m : Hand) (e : Event) → Handles b w x t u l m e → 1 ≤ t.view.allowance → u.view.allowance + 1 ≡ t.view.allowance
draws_one b w x t u l m e h some =
    let a = ap (λ (v : View). v.allowance) h.seat ∙ told_keeps (λ (v : View). v.allowance) l.loss e.probed (looked (drawn t.view e.ticket) e.seen) refl in omega arith

-- a seat that was free to draw more tickets than the budget has may draw one more
pub may_draw : (budget now before : ℕ) (es : List Event) → AreFew budget es → now + (length es + 0) ≡ before → budget < before → 1 ≤ now
may_draw budget now before es (inl none) is h = let z = ap (λ (l : List Event). length l) none in omega arith
may_draw budget now before es (inr some) is h = let a = some.2 in let c = some.3 in omega arith

-- a worker over a list of boxes
module _ (b : Problem) (w : Words) (starts : ℕ) (boxes : List PlainBox) (s t u : Seated) (k l m : Hand) (ws : List PlainBox) (x : PlainBox) (es : List Event) (r : HasRun b w starts boxes s t k l (ws ++ x ∷ []) es [])
    (seat : IsSeatOf w u) (scratch : length m.scratch.steps.items ≡ length b.items) (leasts : IsOf b m.leasts) (room : w.budget < s.view.allowance) where
  pub some : 1 ≤ t.view.allowance
  some = may_draw w.budget t.view.allowance s.view.allowance es r.few r.worked.allowance room

  pub turned : (after : List PlainBox) (q : Turns b w starts x t u l m ws after) → k.loss ≤ no_loss → x.frame ≡ frame_of b → All (λ (y : PlainBox). y.frame ≡ frame_of b) after → HasRun b w starts boxes s u k m after (es ++ q.event ∷ []) []
  turned after q small of frames =
      let e = q.event in let h = q.handles in record {
        worked = worked_more b w s t u k l m es r.worked x e h small of seat some;
        left = ap (λ (ls : Listed Left). ls.items) h.left ∙ r.left;
        few = few_push w.budget es e r.few (new_tickets b w s t u k l m es r.worked x e h small) h.look.in_budget;
        scratch = scratch;
        leasts = leasts;
        weighs = λ g. (
            let z = r.weighs g in let a = all_sum g es (ws ++ x ∷ []) in let c = all_sum g (es ++ e ∷ []) after in let y = q.waits g in
            let p = sum_by_push (λ (d : Event). sum_by g (made_by starts d)) es e in let n = sum_by_push (λ (d : Event). g d.box) es e in let o = sum_by_push g ws x in let i = ap g h.box in omega arith);
        frames = frames;
      }

  ran_out : (p : Spends w t u l m) → HasRun b w starts boxes s u k m (ws ++ x ∷ []) es (p.ticket ∷ [])
  ran_out p = record {
    worked = worked_spent b w s t u k l m es r.worked p.ticket p.seat (like_idle l m p.idle) seat some;
    left = ap (λ (ls : Listed Left). ls.items) p.idle.left ∙ r.left;
    few = r.few;
    scratch = scratch;
    leasts = leasts;
    weighs = r.weighs;
    frames = r.frames;
  }

  pub ended : (p : Spends w t u l m) (after : List PlainBox) → after ≡ ws ++ x ∷ [] → HasEnded b w starts boxes s u k m after
  ended p after is = record {
    events = es;
    spent = p.ticket ∷ [];
    run = subst (λ (xs : List PlainBox). HasRun b w starts boxes s u k m xs es (p.ticket ∷ [])) (sym is) (ran_out p);
    is_spent = inr (p.ticket, refl, p.spent);
  }

-- what holds anyway holds of a refusal
pub when_err : {T E P : Type 0} (r : Result T E) → P → OnErr r P
when_err (Ok x) p = tt
when_err (Err e) p = p

-- a worker whose memory runs out
module _ (b : Problem) (w : Words) (s t : Seated) (k l : Hand) (es : List Event) (r : Worked b w s t k l es []) where
  -- nothing more was done
  worked_same : (m : Hand) → IsLike l m → Worked b w s t k m es []
  worked_same m like = record {
    seat = r.seat;
    tickets = r.tickets;
    rising = r.rising;
    allowance = r.allowance;
    looks = r.looks;
    seen = r.seen;
    between = r.between;
    log = like.log ∙ r.log;
    handled = r.handled;
    worker = like.worker ∙ r.worker;
    loss = like.loss ∙ r.loss;
    better = elim r.better [
      | inl more ↦ inl ((let z = more.0 in let n = like.loss in omega arith), subst (λ (q : Option Trace). HasPlan b m.loss q) (sym like.plan) (subst (λ (i : ℕ). HasPlan b i l.plan) (sym like.loss) more.1), (let z = more.2 in let n = like.loss in omega arith))
      | inr same ↦ inr (like.loss ∙ same.0, like.plan ∙ same.1, same.2)
    ];
    exact = r.exact;
  }

  module _ (left : l.left.items ≡ k.left.items) where
    -- it broke off between two boxes
    pub lost_between : BrokeOff b w s t k l
    lost_between = record { events = es; spent = []; left = []; worked = r; left_is = left ∙ sym (append-nil k.left.items); in_vain = inl (refl, refl) }

    -- it broke off at a box
    pub lost_at : (x : PlainBox) (u : Seated) (m : Hand) → BreaksOff b w x t u l m → k.loss ≤ no_loss → x.frame ≡ frame_of b → IsSeatOf w u → 1 ≤ t.view.allowance → BrokeOff b w s u k m
    lost_at x u m (inl idle) small of seat may =
        subst (λ (v : Seated). BrokeOff b w s v k m) (sym idle.0) (record {
          events = es;
          spent = [];
          left = [];
          worked = worked_same m (like_idle l m idle.1);
          left_is = ap (λ (ls : Listed Left). ls.items) idle.1.left ∙ left ∙ sym (append-nil k.left.items);
          in_vain = inl (refl, refl);
        })
    lost_at x u m (inr h) small of seat may = record {
      events = es ++ h.0 ∷ [];
      spent = [];
      left = [];
      worked = worked_more b w s t u k l m es r x h.0 h.1 small of seat may;
      left_is = ap (λ (ls : Listed Left). ls.items) h.1.left ∙ left ∙ sym (append-nil k.left.items);
      in_vain = inl (refl, refl);
    }

    -- it broke off where the budget was spent
    pub lost_spent : (x : PlainBox) (u : Seated) (m : Hand) → Stops b w x t u l m → IsSeatOf w u → 1 ≤ t.view.allowance → BrokeOff b w s u k m
    lost_spent x u m stops seat may = record {
      events = es;
      spent = stops.ticket ∷ [];
      left = x ∷ [];
      worked = worked_spent b w s t u k l m es r stops.ticket stops.seat stops.leaves.like seat may;
      left_is = stops.leaves.left ∙ ap (λ (ls : List Left). ls ++ left_open b (x ∷ [])) left;
      in_vain = inr (stops.ticket, x, refl, refl, stops.spent);
    }
