use Rattle.std.proofs.Common.{ℕ, ◌<◌, ◌≤◌, get_or}
use Rattle.front_bound.specs.declared.places.Corner.{Corner}
use Rattle.front_bound.specs.inner.Clear.{Covered, IsFree}
use Rattle.front_bound.proofs.places.look_at_all.Given as goal

abbrev pub invariant-loop-place : goal.invariant-loop-place
invariant-loop-place l =
    (k : ℕ) (d : Corner) → k < l.place-index → (left low : ℕ) → (get_or l.old k d).x ≤ left → (get_or l.old k d).y ≤ low → IsFree l.holes l.piece left low → Covered l.places.items left low
