use Rattle.std.proofs.Common.{◌≡◌, ◌+◌, true, [], length}
use Rattle.crossbeam_deque.specs.Handles.{worker_view, worker_deque, stealer_deque, view}
use Rattle.box_ring.specs.Tallies.{tally}
use Rattle.box_ring.specs.Arms.{Links, first_or, AllOfFrame, AllFresh}
use Rattle.box_ring.proofs.rings.ring.Given as goal

abbrev pub invariant-loop : goal.invariant-loop
invariant-loop l = record {
  links : Links l.arms.items (worker_deque l.own);
  own_is : worker_view l.own ≡ tally 1 true l.frame [] [];
  first_is : view l.first.pass ≡ tally 1 true l.frame [] [];
  start : first_or l.arms.items (worker_deque l.own) ≡ stealer_deque l.first.thief;
  count : length l.arms.items + 1 ≡ l.counter;
  frames : AllOfFrame l.frame l.arms.items;
  fresh : AllFresh l.arms.items;
}
