use Rattle.std.proofs.Common.{◌≡◌, ◌≤◌, ◌++◌, [], take, drop}
use Rattle.plan_trace.specs.inner.Laid.{draws_of, laid_list, no_laid}
use Rattle.plan_trace.proofs.planning.lay_all.Given as goal

abbrev pub invariant-loop-i : goal.invariant-loop-i
invariant-loop-i l =
    (l.laid.items ++ laid_list l.instance (draws_of (take l.i l.steps)) l.last (drop l.i l.steps) ≡ l.initial.laid.items ++ laid_list l.instance [] no_laid l.steps) × (l.last.plates ≤ l.i)
