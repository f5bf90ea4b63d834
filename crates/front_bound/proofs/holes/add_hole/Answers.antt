use Rattle.std.proofs.Common.{rules, inl, inr, Contains, subst}
use Rattle.front_bound.proofs.PlacedRuns.{contains_pushed}
use Rattle.front_bound.proofs.holes.add_hole.Goals as goal

pub returns : goal.returns
returns c = λ d has.
    elim (contains_pushed c.args.holes.now.items c.args.defect.now d (subst (λ l. Contains l d) c.in_ok-push.ensures.items has)) [
      | inl old ↦ inl old
      | inr new ↦ inr (new, search rules)
    ]
