use Rattle.std.proofs.Common.{rules, ◌≡◌, Bool, Some, arith, subst, sym}
use Rattle.box_workers.specs.Runs.{first_loss}
use Rattle.run_search.specs.inner.Searches.{AreWatched}
use Rattle.run_search.proofs.Told.{watched}
use Rattle.run_search.proofs.searching.search_boxes.Goals as goal

pub returns-then-watch-clause-watched : goal.returns-then-watch-clause-watched
returns-then-watch-clause-watched g c =
    let b = c.args.ground.instance.now in
    let history = c.in_ok-history.history in
    let to_beat : c.in_ok-shared.shared.first ≡ first_loss b c.args.start.first = search rules in
    let least = c.in_ok-history.ensures.lawful.best_first in
    subst (λ (watch : Bool). AreWatched b (first_loss b c.args.start.first) history.best watch (Some c.in_ok-history.list)) (sym c.if-watch.true)
    (watched b c.args.start.first history c.in_ok-history.list c.in_ok-history.ensures.improvements (omega (arith, to_beat, least)))
