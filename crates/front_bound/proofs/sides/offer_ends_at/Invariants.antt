use Rattle.std.proofs.Common.{ℕ, ◌+◌, ◌<◌, get_or}
use Rattle.front_table.specs.declared.labels.FrontLabel.{FrontLabel}
use Rattle.front_table.specs.Pools.{Spreads}
use Rattle.front_table.specs.Sets.{Fits, Held}
use Rattle.front_bound.specs.Sides.{EndsHeld}
use Rattle.front_bound.proofs.sides.offer_ends_at.Given as goal

abbrev pub invariant-loop-strip : goal.invariant-loop-strip
invariant-loop-strip l = record {
  spreads : Spreads (l.ending.row + 1) l.fn.sides l.sides;
  held : (k : ℕ) (d : FrontLabel) → k < l.strip-index → (from width : ℕ) → Held l.begins from l.ending.plate → Fits (get_or l.strips k d) l.height width → EndsHeld l.ending.instance.now l.ending.far l.ending.most l.sides l.ending.row l.ending.plate from width;
}
