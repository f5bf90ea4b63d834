-- From what is decided of a box to what its handling does.
use Rattle.std.proofs.Common.{◌≡◌, ℕ, ◌<◌, ◌≤◌, List, [], ◌∷◌, ◌++◌, length-append, min, refl, sym, ap, ◌∙◌, subst, arith}
use Rattle.std.specs.Prelude.{Option}
use Rattle.glass_base.specs.Problem.{Problem}
use Rattle.glass_base.specs.Run.{Listed}
use Rattle.cut_model.specs.declared.steps.Trace.{Trace}
use Rattle.plan_box.specs.declared.var.Var.{Var}
use Rattle.plan_box.specs.Halves.{lower_half, upper_half, child_of}
use Rattle.plan_box.specs.Ranges.{Ranges, PlainBox}
use Rattle.plan_box.specs.declared.reason.Reason.{Reason}
use Rattle.plan_box.specs.Reasons.{IsFirstReason}
use Rattle.cert_log.specs.declared.history.Act.{Act}
use Rattle.cert_log.specs.declared.history.Note.{Note}
use Rattle.cert_log.specs.Levels.{lower_id, upper_id, made_of}
use Rattle.cert_log.specs.Events.{Event, note_of}
use Rattle.shared_best.specs.declared.view.View.{View}
use Rattle.shared_best.specs.Seats.{Words, Seated}
use Rattle.shared_best.specs.Words.{looked, drawn, times, share}
use Rattle.box_workers.specs.declared.hand.Hand.{Hand}
use Rattle.box_workers.specs.declared.handling.Done.{Done}
use Rattle.box_workers.specs.Handling.{IsIdle, Probes, IsPlanAfter, IsAct, Handles, Gives, Answers}
use Rattle.box_workers.specs.inner.Deciding.{Improves, Decides}
use Rattle.box_workers.specs.inner.Hands.{IsNoted}
use Rattle.box_workers.proofs.Probing.{improves_from}

-- a refuted box has no probe
pub refuted_fails : (b : Problem) (rs : List Ranges) (r : Reason) → IsFirstReason b rs r → ¬ Probes b rs
refuted_fails b rs r first p = p.not_refuted (r, first.applies)

-- what is made of a box that is split are its halves
pub makes_halves : (starts ticket : ℕ) (act : Act) (step : ℕ) (v : Var) (x lower upper : PlainBox) → act ≡ Act.Split step v → lower ≡ child_of lower_half x step v (lower_id starts ticket) → upper ≡ child_of upper_half x step v (upper_id starts ticket)
    → made_of starts ticket act x ≡ lower ∷ upper ∷ []
makes_halves starts ticket act step v x lower upper is low high =
    ap (λ (a : Act). made_of starts ticket a x) is ∙ sym (ap (λ (y : PlainBox). y ∷ upper ∷ []) low ∙ ap (λ (y : PlainBox). child_of lower_half x step v (lower_id starts ticket) ∷ y ∷ []) high)

-- a draw leaves a whole seat whole
draw_share : (v : View) (t : ℕ) → 1 ≤ v.allowance → share (drawn v t) ≡ share v
draw_share v t some = let l = length-append v.tickets (t ∷ []) in omega arith

module _ (b : Problem) (w : Words) (x : PlainBox) (s mid t : Seated) (old between decided new : Hand) (ticket seen probed : ℕ) (act : Act) (drew : mid.view ≡ drawn s.view ticket) (fresh : (y : ℕ) → 0 < times y s.view.tickets → y < ticket)
    (under : ticket < w.budget) (some : 1 ≤ s.view.allowance) (idle : IsIdle old between) (d : Decides b w x mid t between decided seen probed act) (noted : IsNoted (record { id = x.id; ticket = ticket; act = act }) decided new) where
  abbrev event : Event
  event = record { box = x; ticket = ticket; seen = seen; probed = probed; act = act }

  i : Improves b x.ranges probed (looked (drawn s.view ticket) seen) t.view old decided
  i = improves_from b x.ranges probed (looked (drawn s.view ticket) seen) (looked mid.view seen) t.view old between decided (ap (λ (v : View). looked v seen) drew) idle.loss idle.plan d.improves

  handles : Handles b w x s t old new event
  handles = record {
    box = refl;
    valid = d.valid;
    look = record {
      fresh = fresh;
      in_budget = under;
      seen = subst (λ (v : View). seen ≤ v.seen) drew d.before;
      announced = subst (λ (v : View). seen ≤ v.announced) drew d.announced;
      first = d.first;
      whole = λ all. subst (λ (v : View). seen ≡ min w.first v.announced) drew (d.whole (ap share drew ∙ draw_share s.view ticket some ∙ all));
    };
    probed = i.is_probed;
    seat = i.seat;
    act = subst (λ (n : ℕ). IsAct b w.floor x.ranges seen n act) (sym noted.loss) d.is_act;
    log = noted.log ∙ ap (λ (l : Listed Note). l.items ++ note_of event ∷ []) d.log ∙ ap (λ (l : List Note). l ++ note_of event ∷ []) idle.log;
    loss = noted.loss ∙ i.loss;
    plan = subst (λ (p : Option Trace). IsPlanAfter b x.ranges old.loss probed old.plan p) (sym noted.plan) i.plan;
    worker = noted.worker ∙ d.worker ∙ idle.worker;
    left = noted.left ∙ d.left ∙ idle.left;
  }

  -- the answer of the handling
  pub answers : (starts : ℕ) (done : Done) → Gives starts event done → Answers b w starts x s t old new done
  answers starts Done.Closed gives = (event, handles, gives)
  answers starts (Done.Split lower upper) gives = (event, handles, gives)
  answers starts (Done.Spent y) gives = absurd gives
