-- The history of a search is lawful, and its seat shows it.
use Rattle.std.proofs.Common.{◌≡◌, ℕ, ◌+◌, ◌-◌, ◌/◌, ◌<◌, ◌≤◌, inr, Bool, true, false, cond, nat_lt, List, [], ◌++◌, length, append-nil, map, min, refl, sym, ap, ◌∙◌, subst, arith, All}
use Rattle.std.specs.Prelude.{sum_by, Option, Some, None}
use Rattle.std.specs.List.{Contains}
use Rattle.std.proofs.lemmas.List.{length-map}
use Rattle.std.proofs.lemmas.Nat.{mul-le}
use Rattle.std.proofs.lemmas.Bool.{lt-ltb}
use Rattle.std.proofs.lemmas.Bool.Decides.{nat_tests}
use Rattle.glass_base.specs.Plates.{Before}
use Rattle.glass_base.specs.Problem.{Problem, IsProblem}
use Rattle.glass_base.proofs.PlateLemmas.{before_within}
use Rattle.plan_box.specs.Ranges.{Ranges, PlainBox}
use Rattle.glass_base.specs.Run.{Listed}
use Rattle.cut_model.specs.declared.steps.Trace.{Trace}
use Rattle.plan_box.specs.Bounds.{bound, least_length}
use Rattle.plan_box.specs.declared.reason.Reason.{Reason}
use Rattle.plan_box.specs.Frames.{frame_of}
use Rattle.plan_box.specs.Reasons.{IsRefuted}
use Rattle.cert_log.specs.declared.history.Act.{Act}
use Rattle.cert_log.specs.declared.history.Cause.{Cause}
use Rattle.cert_log.specs.declared.history.Left.{Left}
use Rattle.cert_log.specs.declared.history.Note.{Note}
use Rattle.cert_log.specs.declared.history.History.{History}
use Rattle.cert_log.specs.Good.{IsFloor, Reaches}
use Rattle.cert_log.specs.Lawful.{no_loss, loss_of, numbered, once_below, IsBest, IsLawful, Handled}
use Rattle.cert_log.specs.Events.{Event, note_of, tickets_of, SplitsFree}
use Rattle.cert_log.proofs.Counts.{sum_map}
use Rattle.cert_log.proofs.Sames.{test_of}
use Rattle.shared_best.specs.declared.view.View.{View}
use Rattle.shared_best.specs.Seats.{Words, Seated, IsSeatOf}
use Rattle.shared_best.specs.Words.{IsWhole, Settles, share, kept_half, new_half, newcomer, joined, none_known, seat_view}
use Rattle.box_workers.specs.declared.hand.Hand.{Hand}
use Rattle.box_workers.specs.Handling.{IsAct}
use Rattle.box_workers.specs.Runs.{first_loss, least_loss, AreHandled, AreSeen, AreReached, IsAlone, Within, Shows, course_of}
use Rattle.box_workers.specs.Works.{Worked}
use Rattle.box_workers.specs.inner.Hands.{IsFresh}
use Rattle.box_workers.specs.inner.Rounds.{HasEnded}
use Rattle.box_workers.specs.inner.Searched.{HasSearched, Finishes}
use Rattle.box_workers.specs.inner.Teamwork.{Stands, HaveBounds, IsTeamwork, IsStage, HasBegun}
use Rattle.box_workers.specs.Histories.{left_boxes, IsRight, IsAccount, IsHistory}
use Rattle.box_workers.proofs.Accounts.{accounts_are_lawful}
use Rattle.box_workers.proofs.Lists.{ones, empty}
use Rattle.box_workers.proofs.Progress.{all_sum, least_low}
use Rattle.box_workers.proofs.Collected.{kept_share}
use Rattle.box_workers.proofs.Stages.{stage_ended, none_left}
use Rattle.glass_base.specs.declared.limits.TheConstants.{MOST_SIDE}

-- a seat that was split and joined again
pub joined_again : (v : View) → v.announced ≤ none_known → joined (kept_half v) (new_half v) ≡ v
joined_again v small =
    ap (λ (n : ℕ). seat_view v.live v.first n (min v.announced none_known) (v.looks ++ []) (v.tickets ++ []) ((v.allowance - v.allowance / 2) + v.allowance / 2)) (let e : min v.seen v.seen ≡ v.seen = omega arith in e)
    ∙ ap (λ (n : ℕ). seat_view v.live v.first v.seen n (v.looks ++ []) (v.tickets ++ []) ((v.allowance - v.allowance / 2) + v.allowance / 2)) (let e : min v.announced none_known ≡ v.announced = omega arith in e)
    ∙ ap (λ (l : List (ℕ × ℕ)). seat_view v.live v.first v.seen v.announced l (v.tickets ++ []) ((v.allowance - v.allowance / 2) + v.allowance / 2)) (append-nil v.looks)
    ∙ ap (λ (l : List ℕ). seat_view v.live v.first v.seen v.announced v.looks l ((v.allowance - v.allowance / 2) + v.allowance / 2)) (append-nil v.tickets)
    ∙ ap (λ (n : ℕ). seat_view v.live v.first v.seen v.announced v.looks v.tickets n) (let e : (v.allowance - v.allowance / 2) + v.allowance / 2 ≡ v.allowance = omega arith in e)

-- the bound of a box that is not refuted is a loss
bound_small : (b : Problem) (rs : List Ranges) → IsProblem b → ¬ IsRefuted b rs → bound b rs < no_loss
bound_small b rs rules unrefuted =
    let a = b.params.accepted in
    let few : least_length b rs ≤ Before b b.params.plates = at_most (least_length b rs) (Before b b.params.plates) (λ above. unrefuted (Reason.R1, inr above)) in
    let w = before_within b b.params.plates rules in let p = a.few_plates in
    let h = mul-le b.params.height (least_length b rs) MOST_SIDE 20000000 a.height_limit (omega arith) in omega arith
  where
    at_most : (m n : ℕ) → ¬ (n < m) → m ≤ n
    at_most m n h = omega arith

reaches : (threshold n : ℕ) → threshold ≤ n → n < no_loss → Reaches (loss_of threshold) n
reaches threshold n low small = by_test (nat_lt threshold no_loss) refl
  where
    of_false : (a b : ℕ) → nat_lt a b ≡ false → b ≤ a
    of_false a b h = grind (arith, nat_tests)

    by_test : (t : Bool) → nat_lt threshold no_loss ≡ t → Reaches (cond t (Some threshold) None) n
    by_test true q = low
    by_test false q = absurd (let l = of_false threshold no_loss q in omega arith)

-- a floor reaches a loss that is known
reaches_known : (threshold floor : ℕ) → threshold ≤ floor → threshold < no_loss → Reaches (loss_of threshold) floor
reaches_known threshold floor le known = subst (λ (t : Bool). Reaches (cond t (Some threshold) None) floor) (sym (lt-ltb threshold no_loss known)) le

splits_free : (b : Problem) (floor : ℕ) (rs : List Ranges) (seen loss : ℕ) (a : Act) → IsAct b floor rs seen loss a → SplitsFree rs a
splits_free b floor rs seen loss (Act.Split step v) is = is.2
splits_free b floor rs seen loss (Act.Closed cause threshold) is = tt

-- what was done with a box is right, where what was seen and the hand's loss are no less than the best loss at last
right_of : (b : Problem) (floor first best seen loss : ℕ) (rs : List Ranges) (a : Act) → IsProblem b → best ≤ seen → best ≤ loss → seen ≤ first → IsAct b floor rs seen loss a → Handled b floor first best rs a
right_of b floor first best seen loss rs (Act.Split step v) rules low_seen low_loss top is = (is.0, (let l = is.1 in omega arith), is.2)
right_of b floor first best seen loss rs (Act.Closed (Cause.Reason r) threshold) rules low_seen low_loss top is = (is.1, (let t = is.0 in omega arith), (let t = is.0 in omega arith))
right_of b floor first best seen loss rs (Act.Closed Cause.Bound threshold) rules low_seen low_loss top is =
    ((is.1, reaches threshold (bound b rs) is.2 (bound_small b rs rules is.1)), (let t = is.0 in omega arith), (let t = is.0 in omega arith))
right_of b floor first best seen loss rs (Act.Closed Cause.Floor threshold) rules low_seen low_loss top is =
    ((is.2, reaches_known threshold floor is.3 is.4), (let t = is.0 in omega arith), (let t = is.0 in omega arith))
right_of b floor first best seen loss rs (Act.Closed Cause.Unsaid threshold) rules low_seen low_loss top is = absurd is

-- the threshold of a closed box is at most what was seen, and the bound of one that was split is below it
act_within : (b : Problem) (floor : ℕ) (rs : List Ranges) (seen loss : ℕ) (a : Act) → IsAct b floor rs seen loss a → Within b rs seen a
act_within b floor rs seen loss (Act.Split step v) is = let l = is.1 in omega arith
act_within b floor rs seen loss (Act.Closed (Cause.Reason r) threshold) is = let t = is.0 in omega arith
act_within b floor rs seen loss (Act.Closed Cause.Bound threshold) is = let t = is.0 in omega arith
act_within b floor rs seen loss (Act.Closed Cause.Floor threshold) is = let t = is.0 in omega arith
act_within b floor rs seen loss (Act.Closed Cause.Unsaid threshold) is = absurd is

-- what stands is right by each loss that is at most what was seen, and at most its worker's loss
stands_right : (b : Problem) (boxes : List PlainBox) (w : Words) (lowest best low : ℕ) (e : Event) → IsProblem b → Stands b w lowest best e → low ≤ lowest → low ≤ best → IsRight b (course_of boxes w) low e
stands_right b boxes w lowest best low e rules s low_seen low_loss =
    let d = s.handled in let f = s.seen in let q = s.least in record {
      valid = d.valid;
      free = splits_free b w.floor e.box.ranges e.seen (min s.loss e.probed) e.act d.act;
      in_budget = d.in_budget;
      right = right_of b w.floor w.first low e.seen (min s.loss e.probed) e.box.ranges e.act rules (omega arith) (omega arith) s.first d.act;
    }

count : (es : List Event) → length (tickets_of es) ≡ length es
count es = length-map es (λ (e : Event). e.ticket)

-- what one worker alone did, whose seat is the first one and whose hand is new
module _ (b : Problem) (w : Words) (starts : ℕ) (boxes : List PlainBox) (s t : Seated) (k l : Hand) (waiting : List PlainBox) (ended : HasEnded b w starts boxes s t k l waiting) (new : s.view ≡ newcomer w.first) (fresh : IsFresh b k) where
  abbrev es : List Event
  es = ended.events

  abbrev r : Worked b w s t k l es ended.spent
  r = ended.run.worked

  was_whole : IsWhole s.view
  was_whole = subst (λ (v : View). IsWhole v) (sym new) refl

  exact_from : w.first ≤ no_loss → AreSeen w.first es × AreReached b w.first es
  exact_from small =
      let f = fresh.loss in let n = ap (λ (v : View). v.announced) new in
      let is : min w.first s.view.announced ≡ w.first = omega arith in
      subst (λ (z : ℕ). AreSeen z es × AreReached b z es) is (r.exact was_whole (omega arith))

  pub alone : w.first ≤ no_loss → IsAlone b w t.view es ended.spent
  alone small =
      let x = exact_from small in record {
        handled = subst (λ (n : ℕ). AreHandled b w n es) fresh.loss r.handled;
        seen = x.0;
        reached = x.1;
        rising = r.rising;
        tickets = r.tickets ∙ ap (λ (v : View). v.tickets ++ (tickets_of es ++ ended.spent)) new;
        looks = r.looks ∙ ap (λ (v : View). v.looks ++ map (λ (e : Event). (e.ticket, e.seen)) es) new;
      }

-- what all did, once the seat has settled
module _ (b : Problem) (w : Words) (boxes : List PlainBox) (v : View) (k : Hand) (events : List Event) (vain : List ℕ) (waiting : List PlainBox) (first : Option Trace) (h : History) (rules : IsProblem b) (stage : IsStage b w h.starts boxes v k events vain waiting)
    (none : vain ≡ [] → waiting ≡ []) (settled : Settles v) (of_first : v.first ≡ w.first) (starts : h.starts ≡ length boxes) (ids : numbered 0 boxes) (of_instance : All (λ (x : PlainBox). x.frame ≡ frame_of b) boxes) (log : h.log ≡ k.log)
    (weighs : (weight : PlainBox → ℕ) → sum_by (λ (l : Left). weight l.bx) h.left.items ≡ sum_by (λ (l : Left). weight l.bx) k.left.items + sum_by weight waiting) (bounds : HaveBounds b h.left.items) (plan : IsBest b h.best h.plan)
    (first_is : w.first ≡ first_loss b first) (small : first_loss b first ≤ no_loss) (best : h.best ≡ min (first_loss b first) k.loss) (floor_is : h.floor ≡ w.floor) (least_is : IsFloor b w.floor) where
  abbrev team : IsTeamwork b w v k events vain
  team = stage.teamwork

  best_is : h.best ≡ min w.first (least_loss no_loss events)
  best_is = let f = first_is in let l = team.loss in let i = best in omega arith

  log_all : h.log.items ≡ map note_of events
  log_all = ap (λ (l : Listed Note). l.items) log ∙ team.log

  right : (e : Event) → Contains events e → IsRight b (course_of boxes w) h.best e
  right e at =
      stands_right b boxes w v.seen k.loss h.best e rules (team.each e at) (let q = settled.seen in let a = team.announced in let f = first_is in let i = best in let o = of_first in omega arith)
      (let i = best in omega arith)

  drawn : length v.tickets ≡ length events + length vain
  drawn = let t = team.tickets (λ (_ : ℕ). 1) in let a = ones v.tickets in let c = ones (tickets_of events) in let d = ones vain in let m = count events in omega arith

  account : IsAccount b (course_of boxes w) h events vain
  account = record {
    of_instance = of_instance;
    starts = starts;
    ids = ids;
    log = log_all;
    right = right;
    tickets = λ x. (sym (team.tickets (λ (t : ℕ). test_of t x)) ∙ settled.tickets x ∙ ap (once_below x) drawn);
    beyond = team.beyond;
    emptied = λ no_ticket. empty h.left.items (
        let q = weighs (λ (_ : PlainBox). 1) in let a = ap (λ (ls : List Left). sum_by (λ (_ : Left). 1) ls) (team.emptied no_ticket) in let z = ap (sum_by (λ (_ : PlainBox). 1)) (none no_ticket) in omega arith);
    weighs = λ g. (
        let q = stage.weighs g in let a = all_sum g events (left_boxes k.left.items) in let c = all_sum g events (left_boxes h.left.items) in let l = weighs g in
        let m = sum_map (λ (l : Left). l.bx) g h.left.items in let n = sum_map (λ (l : Left). l.bx) g k.left.items in omega arith);
    bounds = bounds;
    plan = plan;
    best = (let i = best_is in omega arith);
    floor_is = floor_is;
    least_is = least_is;
  }

  history : IsHistory b (course_of boxes w) h events
  history = accounts_are_lawful b (course_of boxes w) h events vain account

  shown : (workers : ℕ) → (workers ≡ 1 → IsAlone b w v events vain) → Shows b w boxes workers v h
  shown workers one = record {
    events = events;
    log = log_all;
    placed = history.placed;
    valid = λ e at. (team.each e at).handled.valid;
    probed = λ e at. (team.each e at).handled.probed;
    spent = vain;
    beyond = team.beyond;
    tickets = team.tickets;
    in_budget = λ e at. (team.each e at).handled.in_budget;
    looks = team.looks;
    within = λ e at. (let d = (team.each e at).handled in act_within b w.floor e.box.ranges e.seen _ e.act d.act);
    announced = team.announced ∙ team.loss;
    best = best_is;
    alone = one;
  }

-- a search, from its new seat and its new hand on
module _ (b : Problem) (w : Words) (starts : ℕ) (boxes : List PlainBox) (workers : ℕ) (s0 s s' : Seated) (k0 k k' : Hand) (before waiting : List PlainBox) (begun : HasBegun b w starts boxes workers s0 s k0 k before)
    (ended : HasEnded b w starts before s s' k k' waiting) where
  abbrev events : List Event
  events = begun.events ++ ended.events

  abbrev vain : List ℕ
  vain = begun.spent ++ ended.spent

  stage : IsStage b w starts boxes s'.view k' events vain waiting
  stage = stage_ended b w starts boxes before waiting s s' k k' begun.events begun.spent begun.stage ended

  pub small_announced : s'.view.announced ≤ none_known
  small_announced = let t = stage.teamwork in let a = t.announced in let l = t.loss in let i = least_low no_loss events in omega arith

  module _ (new : s0.view ≡ newcomer w.first) where
    pub is_whole : IsWhole s'.view
    is_whole = kept_share b w s s' k k' ended.events ended.spent ended.run.worked ∙ begun.share_is ∙ ap (λ (v : View). share v) new

    module _ (fresh : IsFresh b k0) (small : w.first ≤ no_loss) where
      pub one_alone : workers ≡ 1 → IsAlone b w s'.view events vain
      one_alone one =
          let o = begun.one one in
          subst (λ (es : List Event). IsAlone b w s'.view (es ++ ended.events) vain) (sym o.0)
          (subst (λ (ts : List ℕ). IsAlone b w s'.view ended.events (ts ++ ended.spent)) (sym o.1)
          (alone b w starts before s s' k k' waiting ended (ap (λ (u : Seated). u.view) o.2 ∙ new) (subst (IsFresh b) (sym o.3) fresh) small))

module _ (b : Problem) (w : Words) (boxes : List PlainBox) (workers : ℕ) (s0 s s' t : Seated) (k0 k k' : Hand) (before waiting : List PlainBox) (first : Option Trace) (h : History) (rules : IsProblem b) (begun : HasBegun b w h.starts boxes workers s0 s k0 k before)
    (ended : HasEnded b w h.starts before s s' k k' waiting) (new : s0.view ≡ newcomer w.first) (fresh : IsFresh b k0) (same : t ≡ s') (settles : IsWhole t.view → Settles t.view) (starts : h.starts ≡ length boxes) (ids : numbered 0 boxes) (of_instance : All (λ (x : PlainBox). x.frame ≡ frame_of b) boxes) (log : h.log ≡ k'.log)
    (weighs : (weight : PlainBox → ℕ) → sum_by (λ (l : Left). weight l.bx) h.left.items ≡ sum_by (λ (l : Left). weight l.bx) k'.left.items + sum_by weight waiting) (bounds : HaveBounds b h.left.items) (plan : IsBest b h.best h.plan)
    (first_is : w.first ≡ first_loss b first) (small : first_loss b first ≤ no_loss) (best : h.best ≡ min (first_loss b first) k'.loss) (floor_is : h.floor ≡ w.floor) (least_is : IsFloor b w.floor) where
  whole : IsWhole s'.view
  whole = is_whole b w h.starts boxes workers s0 s s' k0 k k' before waiting begun ended new

  settled : Settles s'.view
  settled = subst (λ (u : Seated). Settles u.view) same (settles (subst (λ (u : Seated). IsWhole u.view) (sym same) whole))

  at_last : IsStage b w h.starts boxes s'.view k' (begun.events ++ ended.events) (begun.spent ++ ended.spent) waiting
  at_last = stage_ended b w h.starts boxes before waiting s s' k k' begun.events begun.spent begun.stage ended

  spent_all : begun.spent ++ ended.spent ≡ [] → waiting ≡ []
  spent_all = none_left b w h.starts boxes before waiting s s' k k' begun.events begun.spent begun.stage ended

  pub lawful : IsLawful b (course_of boxes w) h
  lawful = (history b w boxes s'.view k' (begun.events ++ ended.events) (begun.spent ++ ended.spent) waiting first h rules at_last spent_all settled ended.run.worked.seat.1 starts ids of_instance log weighs bounds plan first_is small best floor_is least_is).lawful

  pub shows : Shows b w boxes workers t.view h
  shows =
      subst (λ (u : Seated). Shows b w boxes workers u.view h) (sym same)
      (shown b w boxes s'.view k' (begun.events ++ ended.events) (begun.spent ++ ended.spent) waiting first h rules at_last spent_all settled ended.run.worked.seat.1 starts ids of_instance log weighs bounds plan first_is small best floor_is least_is workers
      (one_alone b w h.starts boxes workers s0 s s' k0 k k' before waiting begun ended new fresh (let f = first_is in let l = small in omega arith)))

-- a search from its new seat and its new hand on, whose seat has settled, and its history
module _ (b : Problem) (w : Words) (boxes : List PlainBox) (workers : ℕ) (s0 s' : Seated) (k0 k' : Hand) (waiting : List PlainBox) (d : HasSearched b w (length boxes) boxes workers s0 s' k0 k' waiting) where
  pub all_announced : s'.view.announced ≤ none_known
  all_announced = small_announced b w (length boxes) boxes workers s0 d.seat s' k0 d.hand k' d.before waiting d.begun d.ended

  pub all_done : IsTeamwork b w s'.view k' (d.begun.events ++ d.ended.events) (d.begun.spent ++ d.ended.spent)
  all_done = (stage_ended b w (length boxes) boxes d.before waiting d.seat s' d.hand k' d.begun.events d.begun.spent d.begun.stage d.ended).teamwork

  module _ (new : s0.view ≡ newcomer w.first) (t : Seated) (same : t ≡ s') where
    pub all_whole : IsSeatOf w t × IsWhole t.view
    all_whole =
        subst (λ (u : Seated). IsSeatOf w u × IsWhole u.view) (sym same)
        (d.ended.run.worked.seat, is_whole b w (length boxes) boxes workers s0 d.seat s' k0 d.hand k' d.before waiting d.begun d.ended new)

    module _ (first : Option Trace) (n : ℕ) (is : n ≡ length boxes) (h : History) (f : Finishes b n w.floor k' waiting first h) (rules : IsProblem b) (fresh : IsFresh b k0) (settles : IsWhole t.view → Settles t.view) (ids : numbered 0 boxes)
        (of_instance : All (λ (x : PlainBox). x.frame ≡ frame_of b) boxes) (first_is : w.first ≡ first_loss b first) (least_is : IsFloor b w.floor) where
      starts : h.starts ≡ length boxes
      starts = f.starts ∙ is

      begun : HasBegun b w h.starts boxes workers s0 d.seat k0 d.hand d.before
      begun = subst (λ (m : ℕ). HasBegun b w m boxes workers s0 d.seat k0 d.hand d.before) (sym starts) d.begun

      ended : HasEnded b w h.starts d.before d.seat s' d.hand k' waiting
      ended = subst (λ (m : ℕ). HasEnded b w m d.before d.seat s' d.hand k' waiting) (sym starts) d.ended

      pub all_lawful : IsLawful b (course_of boxes w) h
      all_lawful =
          lawful b w boxes workers s0 d.seat s' t k0 d.hand k' d.before waiting first h rules begun ended new fresh same settles starts ids of_instance f.log f.weighs f.bounds f.plan first_is f.small f.best f.floor_is least_is

      pub all_shown : Shows b w boxes workers t.view h
      all_shown =
          shows b w boxes workers s0 d.seat s' t k0 d.hand k' d.before waiting first h rules begun ended new fresh same settles starts ids of_instance f.log f.weighs f.bounds f.plan first_is f.small f.best f.floor_is least_is
