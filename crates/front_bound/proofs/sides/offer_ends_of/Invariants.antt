use Rattle.std.proofs.Common.{ℕ, ◌+◌, ◌<◌, get_or}
use Rattle.front_table.specs.declared.labels.FrontLabel.{FrontLabel}
use Rattle.front_table.specs.Pools.{Spreads}
use Rattle.front_table.specs.Sets.{Has, Fits}
use Rattle.front_bound.specs.Sides.{EndsHeld}
use Rattle.front_bound.proofs.sides.offer_ends_of.Given as goal

abbrev pub invariant-loop-begin : goal.invariant-loop-begin
invariant-loop-begin l = record {
  spreads : Spreads (l.ending.row + 1) l.fn.sides l.sides;
  held : (k : ℕ) (d : FrontLabel) → k < l.begin-index → (from width : ℕ) → Fits (get_or l.begins k d) from l.ending.plate → Has l.strip.across width → EndsHeld l.ending.instance.now l.ending.far l.ending.most l.sides l.ending.row l.ending.plate from width;
}
