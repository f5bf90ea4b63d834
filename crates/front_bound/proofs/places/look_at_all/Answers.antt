use Rattle.std.proofs.Common.{ℕ, ◌≤◌, arith}
use Rattle.front_bound.specs.declared.places.Corner.{Corner}
use Rattle.front_bound.specs.inner.Clear.{Covered, IsFree}
use Rattle.front_table.proofs.Each.{up_to}
use Rattle.front_bound.proofs.PlacedRows.{covered_each}
use Rattle.front_bound.proofs.places.look_at_all.Goals as goal

pub loop-place-preserved : goal.loop-place-preserved
loop-place-preserved c =
    up_to (λ (p : Corner). (left low : ℕ) → p.x ≤ left → p.y ≤ low → IsFree c.args.holes.now c.args.piece.now left low → Covered c.look.new.places.items left low) c.args.old.now c.loop-place.place-index _ c.loop-place-test.true
    (λ k d lt left low x y free. c.in_ok-look.ensures.kept left low (c.loop-place.invariant k d lt left low x y free)) c.in_ok-look.ensures.new

pub returns : goal.returns
returns c = λ left low covered free.
    covered_each c.args.old.now (λ left low. IsFree c.args.holes.now c.args.piece.now left low → Covered c.loop-place.places.items left low)
    (λ k d lt left low x y free. c.loop-place.invariant k d (omega (arith, lt, c.loop-place-test.false)) left low x y free) left low covered free
