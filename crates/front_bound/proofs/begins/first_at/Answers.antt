use Rattle.std.proofs.Common.{◌≡◌, ℕ, ◌≤◌, get_or, refl, subst, arith}
use Rattle.front_table.specs.declared.labels.FrontLabel.{FrontLabel}
use Rattle.front_table.specs.Sets.{Has, Fits}
use Rattle.front_table.proofs.Each.{up_to}
use Rattle.front_table.proofs.HeldLists.{held_each}
use Rattle.front_bound.proofs.begins.first_at.Goals as goal

pub loop-begin-preserved : goal.loop-begin-preserved
loop-begin-preserved c =
    up_to (λ (l : FrontLabel). (from : ℕ) → Fits l from c.args.plate → c.first_by-least.result ≤ from) c.args.begins.now c.loop-begin.begin-index _ c.loop-begin-test.true
    (λ k d lt from fits. omega (arith, c.first_by-least.ensures.least, c.loop-begin.invariant k d lt from fits)) c.first_by-least.ensures.begin

pub returns : goal.returns
returns c = λ from held.
    held_each c.args.begins.now (λ x y. y ≡ c.args.plate → c.loop-begin.least ≤ x)
    (λ k d lt x y fits same. c.loop-begin.invariant k d (omega (arith, lt, c.loop-begin-test.false)) x (fits.0, subst (Has (get_or c.args.begins.now k d).across) same fits.1)) from c.args.plate held refl
