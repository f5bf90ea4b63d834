-- What one more worker did joins what the others did.
use Rattle.std.proofs.Common.{◌≡◌, ℕ, ◌+◌, ◌≤◌, List, [], ◌∷◌, ◌++◌, length, length-append, append-nil, reverse, refl, sym, ap, ◌∙◌, subst, arith, All}
use Rattle.std.specs.Prelude.{sum_by, Some}
use Rattle.std.proofs.lemmas.List.{length-map, map-append, append_assoc, reverse-append}
use Rattle.std.proofs.lemmas.List.Elements.{All-nil, All-cons, All-same, All-pop}
use Rattle.std.proofs.lemmas.List.Sums.{sum_by-append, sum_by_push}
use Rattle.glass_base.specs.Problem.{Problem}
use Rattle.plan_box.specs.Ranges.{PlainBox}
use Rattle.cert_log.specs.declared.history.Left.{Left}
use Rattle.cert_log.specs.Events.{Event, made_by, all_boxes, tickets_of}
use Rattle.cert_log.proofs.Counts.{sum_map}
use Rattle.box_ring.specs.Arms.{ArmState, put, taken}
use Rattle.shared_best.specs.declared.view.View.{View}
use Rattle.shared_best.specs.Seats.{Words, Seated}
use Rattle.shared_best.specs.Words.{joined, share}
use Rattle.box_workers.specs.declared.hand.Hand.{Hand}
use Rattle.box_workers.specs.declared.member.Member.{Member}
use Rattle.box_workers.specs.declared.working.Rest.{Rest}
use Rattle.box_workers.specs.Histories.{left_boxes}
use Rattle.box_workers.specs.Works.{Worked, Works, RestsFor, left_open}
use Rattle.box_workers.specs.inner.Members.{IsNew, HasDone, EachDone, arms_of, share_of}
use Rattle.box_workers.specs.inner.Teamwork.{IsTeamwork, Joins, Collects}
use Rattle.box_workers.proofs.Lists.{sum_reverse}
use Rattle.box_workers.proofs.Progress.{all_sum}
use Rattle.box_workers.proofs.Teamwork.{teamwork_none, teamwork_more, teamwork_both}

-- what the arms of workers put or took
arms_push : (f : ArmState → ℕ) (ms : List Member) (m : Member) → sum_by f (arms_of (ms ++ m ∷ [])) ≡ sum_by f (arms_of ms) + f m.arm
arms_push f ms m = ap (sum_by f) (map-append (λ (z : Member). z.arm) ms (m ∷ [])) ∙ sum_by_push f (arms_of ms) m.arm

-- a worker keeps its share of the tickets
pub kept_share : (b : Problem) (w : Words) (s t : Seated) (k l : Hand) (es : List Event) (spent : List ℕ) → Worked b w s t k l es spent → share t.view ≡ share s.view
kept_share b w s t k l es spent r =
    let a = r.allowance in let e = ap (λ (xs : List ℕ). length xs) r.tickets in let c = length-append s.view.tickets (tickets_of es ++ spent) in let d = length-append (tickets_of es) spent in
    let m = length-map es (λ (g : Event). g.ticket) in omega arith

-- why it rests
rest_facts : (budget : ℕ) (spent : List ℕ) (left : List PlainBox) (misses : ℕ) (rest : Rest) → RestsFor budget spent left misses rest → All (λ t. budget ≤ t) spent × (spent ≡ [] → left ≡ [])
rest_facts budget spent left misses Rest.Idle r = (All-same (λ t. budget ≤ t) spent [] r.0 (All-nil (λ t. budget ≤ t)), λ _. r.1)
rest_facts budget spent left misses Rest.Spent r =
    (All-same (λ t. budget ≤ t) spent (r.0 ∷ []) r.2 (All-cons (λ t. budget ≤ t) r.0 [] r.4 (All-nil (λ t. budget ≤ t))), λ none. absurd (let e = ap (λ (l : List ℕ). length l) (sym r.2 ∙ none) in omega arith))

open_boxes : (b : Problem) (xs : List PlainBox) → left_boxes (left_open b xs) ≡ xs
open_boxes b [] = refl
open_boxes b (x ∷ xs) = ap (λ (l : List PlainBox). x ∷ l) (open_boxes b xs)

-- all that one worker did, from its beginning on
pub record Finishes (b : Problem) (w : Words) (starts : ℕ) (m n : Member) : Type 0 where
  pub events : List Event
  pub spent : List ℕ
  pub teamwork : IsTeamwork b w n.seat.view n.hand events spent
  pub puts : (weight : PlainBox → ℕ) → put weight n.arm ≡ put weight m.arm + sum_by (λ (e : Event). sum_by weight (made_by starts e)) events
  pub takes : (weight : PlainBox → ℕ) → taken weight n.arm ≡ taken weight m.arm + sum_by weight (all_boxes events (left_boxes n.hand.left.items))
  pub share_is : share n.seat.view ≡ share m.seat.view

finishes : (b : Problem) (w : Words) (starts : ℕ) (m n : Member) (rest : Rest) → IsNew b m → Works b w starts m.seat n.seat m.hand n.hand m.arm n.arm rest → Finishes b w starts m n
finishes b w starts m n rest new r =
    let f = rest_facts w.budget r.spent r.left n.arm.misses rest r.rests in
    let left : left_boxes n.hand.left.items ≡ r.left = ap left_boxes (r.left_is ∙ ap (λ (ls : List Left). ls ++ left_open b r.left) new.left) ∙ open_boxes b r.left in record {
      events = r.events;
      spent = r.spent;
      teamwork = teamwork_more b w m.seat n.seat m.hand n.hand [] r.events [] r.spent r.left (teamwork_none b w m.seat.view m.hand new.seat new.hand new.left) r.worked r.left_is f.0 f.1;
      puts = r.traffic.puts;
      takes = λ weight. (r.traffic.takes weight ∙ ap (λ (xs : List PlainBox). taken weight m.arm + sum_by weight (all_boxes r.events xs)) (sym left));
      share_is = kept_share b w m.seat n.seat m.hand n.hand r.events r.spent r.worked;
    }

-- the last workers of a row, and the rows before them
last_done : (b : Problem) (w : Words) (starts : ℕ) (olds ms : List Member) (n : Member) → EachDone b w starts olds (ms ++ n ∷ []) → (os : List Member) × (o : Member) × (olds ≡ os ++ o ∷ []) × EachDone b w starts os ms × HasDone b w starts o n
last_done b w starts [] [] n e = absurd e
last_done b w starts [] (m ∷ ms) n e = absurd e
last_done b w starts (o ∷ []) [] n e = ([], o, refl, tt, e.0)
last_done b w starts (o ∷ p ∷ os) [] n e = absurd e.1
last_done b w starts (o ∷ os) (m ∷ ms) n e = let r = last_done b w starts os ms n e.1 in (o ∷ r.0, r.1, ap (λ (l : List Member). o ∷ l) r.2, (e.0, r.3), r.4)

none_done : (b : Problem) (w : Words) (starts : ℕ) (olds : List Member) → EachDone b w starts olds [] → olds ≡ []
none_done b w starts [] e = refl
none_done b w starts (o ∷ os) e = absurd e

-- all but the rest of the workers are put together
pub record Partly (b : Problem) (w : Words) (starts : ℕ) (olds news rest : List Member) (first s : Seated) (k : Hand) : Type 0 where
  pub before : List Member
  pub done : EachDone b w starts before rest
  pub new : All (IsNew b) before
  pub events : List Event
  pub spent : List ℕ
  pub teamwork : IsTeamwork b w s.view k events spent
  pub puts : (weight : PlainBox → ℕ) → sum_by (put weight) (arms_of news) + sum_by (put weight) (arms_of before)
      ≡ sum_by (put weight) (arms_of olds) + sum_by (put weight) (arms_of rest) + sum_by (λ (e : Event). sum_by weight (made_by starts e)) events
  pub takes : (weight : PlainBox → ℕ) → sum_by (taken weight) (arms_of news) + sum_by (taken weight) (arms_of before)
      ≡ sum_by (taken weight) (arms_of olds) + sum_by (taken weight) (arms_of rest) + sum_by weight (all_boxes events (left_boxes k.left.items))
  pub share_is : share s.view + share_of before ≡ share first.view + share_of olds

pub partly_none : (b : Problem) (w : Words) (starts : ℕ) (olds news rest : List Member) (s : Seated) (k : Hand) → rest ≡ news → EachDone b w starts olds news → All (IsNew b) olds → IsTeamwork b w s.view k [] [] → Partly b w starts olds news rest s s k
partly_none b w starts olds news rest s k same done new none = record {
  before = olds;
  done = subst (EachDone b w starts olds) (sym same) done;
  new = new;
  events = [];
  spent = [];
  teamwork = none;
  puts = λ weight. (let e = ap (λ (l : List Member). sum_by (put weight) (arms_of l)) same in omega arith);
  takes = λ weight. (
      let e = ap (λ (l : List Member). sum_by (taken weight) (arms_of l)) same in let d = ap (λ (l : List Left). sum_by weight (left_boxes l)) (none.emptied refl) in
      let a = all_sum weight [] (left_boxes k.left.items) in omega arith);
  share_is = refl;
}

module _ (b : Problem) (w : Words) (starts : ℕ) (olds news all ms : List Member) (n : Member) (first s t : Seated) (k l : Hand) (rest : Rest) (last : all ≡ ms ++ n ∷ []) (rests : n.rest ≡ Some rest)
    (view : t.view ≡ joined s.view n.seat.view) (joins : Joins n.hand k l) (p : Partly b w starts olds news all first s k) where
  pub partly_more : Partly b w starts olds news ms first t l
  partly_more =
      let d = last_done b w starts p.before ms n (subst (EachDone b w starts p.before) last p.done) in let os = d.0 in let o = d.1 in
      let a = All-pop (IsNew b) p.before os (Some o) d.2 p.new in
      let f = finishes b w starts o n rest a.1 (d.4.works rest rests) in
      let es = p.events in let left = ap left_boxes joins.left ∙ map-append (λ (z : Left). z.bx) k.left.items (reverse n.hand.left.items) in record {
        before = os;
        done = d.3;
        new = a.0;
        events = es ++ f.events;
        spent = p.spent ++ f.spent;
        teamwork = teamwork_both b w s.view n.seat.view t.view k n.hand l es f.events p.spent f.spent p.teamwork f.teamwork view joins;
        puts = λ weight. (
            let x = p.puts weight in let y = f.puts weight in
            let z = ap (λ (q : List Member). sum_by (put weight) (arms_of q)) d.2 in let c = arms_push (put weight) os o in
            let u = ap (λ (q : List Member). sum_by (put weight) (arms_of q)) last in let v = arms_push (put weight) ms n in
            let m = sum_by-append (λ (e : Event). sum_by weight (made_by starts e)) es f.events in omega arith);
        takes = λ weight. (
            let x = p.takes weight in let y = f.takes weight in
            let z = ap (λ (q : List Member). sum_by (taken weight) (arms_of q)) d.2 in let c = arms_push (taken weight) os o in
            let u = ap (λ (q : List Member). sum_by (taken weight) (arms_of q)) last in let v = arms_push (taken weight) ms n in
            let g = all_sum weight es (left_boxes k.left.items) in let h = all_sum weight f.events (left_boxes n.hand.left.items) in let i = all_sum weight (es ++ f.events) (left_boxes l.left.items) in
            let m = sum_by-append (λ (e : Event). weight e.box) es f.events in let j = ap (sum_by weight) left in let j2 = sum_by-append weight (left_boxes k.left.items) (left_boxes (reverse n.hand.left.items)) in
            let r = sum_map (λ (z : Left). z.bx) weight (reverse n.hand.left.items) in let r2 = sum_reverse (λ (z : Left). weight z.bx) n.hand.left.items in let r3 = sum_map (λ (z : Left). z.bx) weight n.hand.left.items in omega arith);
        share_is = (
            let x = p.share_is in let y = f.share_is in let z = ap share_of d.2 in let c = sum_by_push (λ (m : Member). share m.seat.view) os o in
            let u = ap (λ (v : View). v.allowance) view in let u2 = ap (λ (v : View). length v.tickets) view in let u3 = length-append s.view.tickets n.seat.view.tickets in omega arith);
      }

pub partly_done : (b : Problem) (w : Words) (starts : ℕ) (olds news rest : List Member) (first s : Seated) (k : Hand) → rest ≡ [] → Partly b w starts olds news rest first s k → Collects b w starts olds news first s k
partly_done b w starts olds news rest first s k none p =
    let e = none_done b w starts p.before (subst (EachDone b w starts p.before) none p.done) in record {
      events = p.events;
      spent = p.spent;
      teamwork = p.teamwork;
      puts = λ weight. (let x = p.puts weight in let y = ap (λ (q : List Member). sum_by (put weight) (arms_of q)) e in let z = ap (λ (q : List Member). sum_by (put weight) (arms_of q)) none in omega arith);
      takes = λ weight. (let x = p.takes weight in let y = ap (λ (q : List Member). sum_by (taken weight) (arms_of q)) e in let z = ap (λ (q : List Member). sum_by (taken weight) (arms_of q)) none in omega arith);
      share_is = (let x = p.share_is in let y = ap share_of e in omega arith);
    }

-- the arms come back in the other order
pub arms_more : (arms more all : List ArmState) (members ms : List Member) (n : Member) → members ≡ ms ++ n ∷ [] → more ≡ arms ++ n.arm ∷ [] → arms ++ reverse (arms_of members) ≡ all → more ++ reverse (arms_of ms) ≡ all
arms_more arms more all members ms n e d is =
    let r : reverse (arms_of members) ≡ n.arm ∷ reverse (arms_of ms) =
    ap (λ (l : List Member). reverse (arms_of l)) e ∙ ap (λ (l : List ArmState). reverse l) (map-append (λ (m : Member). m.arm) ms (n ∷ [])) ∙ reverse-append (arms_of ms) (n.arm ∷ []) in
    ap (λ (l : List ArmState). l ++ reverse (arms_of ms)) d ∙ append_assoc arms (n.arm ∷ []) (reverse (arms_of ms)) ∙ ap (λ (l : List ArmState). arms ++ l) (sym r) ∙ is

pub arms_done : (arms all : List ArmState) (ms : List Member) → ms ≡ [] → arms ++ reverse (arms_of ms) ≡ all → arms ≡ all
arms_done arms all ms none is = sym (append-nil arms) ∙ ap (λ (l : List Member). arms ++ reverse (arms_of l)) (sym none) ∙ is

pub none_of_length : {X : Type 0} (xs : List X) → length xs ≡ 0 → xs ≡ []
none_of_length [] e = refl
none_of_length (x ∷ xs) e = absurd (omega arith)
