use Rattle.std.proofs.Common.{◌≡◌, length, map, take}
use Rattle.plan_box.specs.Leasts.{least_step}
use Rattle.cert_check.specs.inner.Knowns.{known_in}
use Rattle.cert_check.proofs.refuting.write.Given as goal

abbrev pub invariant-loop-i : goal.invariant-loop-i
invariant-loop-i l = record {
  many : length l.numbers.items ≡ length l.initial.numbers.items;
  written : take l.i l.numbers.items ≡ map (λ k. least_step (known_in k)) (take l.i l.steps);
}
