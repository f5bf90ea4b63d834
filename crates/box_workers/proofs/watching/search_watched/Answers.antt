use Rattle.std.proofs.Common.{List, Option, ◌<◌, ℕ, IfSome, subst, sym, arith}
use Rattle.cut_model.specs.declared.steps.Step.{Step}
use Rattle.cert_log.specs.Lawful.{no_loss}
use Rattle.std.proofs.lemmas.Result.{IfOk-weaker}
use Rattle.plan_trace.specs.Claims.{IsComplete}
use Rattle.cert_log.specs.Lawful.{IsLawful}
use Rattle.best_board.specs.Improvements.{found_in}
use Rattle.best_board.specs.Settles.{IsNoWorse}
use Rattle.box_workers.specs.Runs.{Shows, course_of}
use Rattle.box_workers.specs.Watched.{AreOfSearch, steps_of}
use Rattle.box_workers.proofs.Improved.{first_complete, no_worse}
use Rattle.box_workers.proofs.watching.search_watched.Goals as goal

pub tell-requires-clause-no_worse : goal.tell-requires-clause-no_worse
tell-requires-clause-no_worse g c =
    let b = c.args.instance.now in let h = c.in_ok-history.history in
    let least = c.in_ok-history.ensures.lawful.best_first in let loss = c.requires.loss in
    subst (λ (first : Option (List Step)). IsNoWorse b first (steps_of h.plan)) (sym c.in_ok-begun.ensures)
    (no_worse b c.args.first h.best h.plan c.in_ok-history.ensures.lawful.best_is (omega (arith, least, loss))
    (subst (λ (n : ℕ). IfSome c.args.first (λ _. n < no_loss)) c.first_loss-loss.ensures.loss c.first_loss-loss.ensures.some))

pub tell-requires-clause-first : goal.tell-requires-clause-first
tell-requires-clause-first g c =
    subst (λ (first : Option (List Step)). IfSome first (IsComplete c.args.instance.now)) (sym c.in_ok-begun.ensures) (first_complete c.args.instance.now c.args.first c.requires.first)

pub returns-clause-lawful : goal.returns-clause-lawful
returns-clause-lawful g c =
    IfOk-weaker c.tell.result _ _ (λ r e. subst (IsLawful c.args.instance.now (course_of c.args.start.items c.args.shared.now)) (sym e) c.in_ok-history.ensures.lawful) c.tell.ensures.history

pub returns-clause-seat : goal.returns-clause-seat
returns-clause-seat g c = IfOk-weaker c.tell.result _ _ (λ r e. c.in_ok-history.ensures.seat) c.tell.ensures.history

pub returns-clause-shows : goal.returns-clause-shows
returns-clause-shows g c =
    IfOk-weaker c.tell.result _ _ (λ r e. subst (Shows c.args.instance.now c.args.shared.now c.args.start.items c.args.workers c.search_posting.new.seat.view) (sym e) c.in_ok-history.ensures.shows) c.tell.ensures.history

pub returns-clause-improvements : goal.returns-clause-improvements
returns-clause-improvements g c =
    IfOk-weaker c.tell.result _ _ (λ r a. subst (λ (first : Option (List Step)). AreOfSearch c.args.instance.now first r.0 (found_in r.1.items)) c.in_ok-begun.ensures a) c.tell.ensures.improvements
