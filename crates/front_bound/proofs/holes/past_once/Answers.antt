use Rattle.std.proofs.lemmas.List.Elements.{Contains-get_or}
use Rattle.front_bound.specs.inner.Clear.{LineClear}
use Rattle.front_bound.proofs.holes.past_once.Goals as goal

pub loop-hole-preserved : goal.loop-hole-preserved
unfolding LineClear
loop-hole-preserved c = record {
  within = c.past_one-least.ensures.within;
  least = λ right from within line.
      c.past_one-least.ensures.least right (c.loop-hole.invariant.least right from within line) within
      (λ inside low top. line inside _ (Contains-get_or c.args.holes.now c.loop-hole.hole-index _ c.loop-hole-test.true) low top);
}
