use Rattle.std.proofs.Common.{ℕ, ◌+◌, ◌<◌, [], ◌∷◌, get_or}
use Rattle.front_table.specs.declared.labels.FrontLabel.{FrontLabel}
use Rattle.front_bound.specs.inner.Clear.{EndsPlaced}
use Rattle.front_table.specs.Pools.{Spreads}
use Rattle.front_bound.proofs.placed_sides.offer_all_placed.Given as goal

abbrev pub invariant-loop-strip : goal.invariant-loop-strip
invariant-loop-strip l = record {
  spreads : Spreads (l.ending.row + 1) l.fn.sides l.sides;
  held : (k : ℕ) (d : FrontLabel) → k < l.strip-index → EndsPlaced l.ending.instance.now l.holes l.ending.far l.ending.most l.sides l.ending.row l.ending.plate l.begin (get_or l.strips k d ∷ []);
}
