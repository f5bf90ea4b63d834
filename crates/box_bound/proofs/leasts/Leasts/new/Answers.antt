use Rattle.std.proofs.Common.{arith, refl}
use Rattle.box_bound.proofs.leasts.Leasts.new.Goals as goal

pub returns-clause-of_instance : goal.returns-clause-of_instance
returns-clause-of_instance c = record {
  total = c.area.ensures;
  places = c.in_ok-steps.ensures;
  kept = record { values = refl };
  settled = refl;
  few = omega arith;
  defects = c.in_ok-map.ensures;
  seen = λ i lt. absurd (omega (arith, lt));
}
