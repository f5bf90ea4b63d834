use Rattle.std.proofs.Common.{inl, inr}
use Rattle.front_bound.proofs.PlacedRows.{behind_or_above}
use Rattle.front_bound.proofs.places.look.Goals as goal

pub returns-clause-new : goal.returns-clause-new
returns-clause-new c = λ left low x y free.
    elim (behind_or_above c.args.holes.now c.args.piece.now c.args.place.now c.in-Some.hole left low c.in-Some.ensures.0 c.in-Some.ensures.1 x y free) [
      | inl behind ↦ c.in_ok-push-3.ensures.kept left low (c.in_ok-push-2.ensures.new left low behind y)
      | inr above ↦ c.in_ok-push-3.ensures.new left low x above
    ]
