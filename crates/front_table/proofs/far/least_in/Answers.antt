use Rattle.std.proofs.Common.{◌≡◌, ℕ, ◌+◌, ◌≤◌, get_or, refl, subst, arith}
use Rattle.front_table.specs.declared.labels.FrontLabel.{FrontLabel}
use Rattle.front_table.specs.Sets.{Fits, Has}
use Rattle.front_table.proofs.Each.{up_to}
use Rattle.front_table.proofs.HeldLists.{held_each}
use Rattle.front_table.proofs.far.least_in.Goals as goal

pub loop-label-preserved : goal.loop-label-preserved
loop-label-preserved c = record {
  found = omega (arith, c.least_by-least.ensures.found, c.loop-label.invariant.found);
  labels = up_to (λ (l : FrontLabel). (w : ℕ) → Fits l c.args.height w → c.least_by-least.result ≤ w + c.args.to_go) c.args.labels.now c.loop-label.label-index _ c.loop-label-test.true
      (λ k d lt w fits. omega (arith, c.least_by-least.ensures.found, c.loop-label.invariant.labels k d lt w fits)) c.least_by-least.ensures.label;
}

pub returns-clause-labels : goal.returns-clause-labels
returns-clause-labels c = λ w held.
    held_each c.args.labels.now (λ x y. x ≡ c.args.height → c.loop-label.least ≤ y + c.args.to_go)
    (λ k d lt x y fits same. c.loop-label.invariant.labels k d (omega (arith, lt, c.loop-label-test.false)) y (subst (Has (get_or c.args.labels.now k d).along) same fits.0, fits.1)) c.args.height w held refl
