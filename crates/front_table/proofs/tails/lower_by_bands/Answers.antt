use Rattle.std.proofs.Common.{get_or, subst, arith}
use Rattle.front_table.specs.Tails.{AreBehindBand}
use Rattle.front_table.proofs.Each.{up_to, contained_each}
use Rattle.front_table.proofs.StackTails.{band_lower, behind_bands}
use Rattle.front_table.proofs.WidthLists.{before_wide}
use Rattle.front_table.proofs.tails.lower_by_bands.Goals as goal

pub returns-then-wide_at-top : goal.returns-then-wide_at-top
returns-then-wide_at-top c =
    behind_bands c.loop-at.tails c.args.levels.now c.args.class c.args.top c.args.unit c.args.bands.now
    (before_wide c.args.bands.now c.loop-at.at c.args.top (AreBehindBand c.loop-at.tails c.args.levels.now c.args.class c.args.unit) c.requires.rises c.loop-at-test.true (omega (arith, c.if-wide_at-top.true, c.wide_at.ensures)) c.loop-at.invariant)

pub loop-at-preserved : goal.loop-at-preserved
loop-at-preserved c =
    up_to (AreBehindBand c.lower_by_band.new.tails c.args.levels.now c.args.class c.args.unit) c.args.bands.now c.loop-at.at c.band_at-band.result c.loop-at-test.true
    (λ k d lt. band_lower c.loop-at.tails c.lower_by_band.new.tails c.args.levels.now c.args.class c.args.unit (get_or c.args.bands.now k d) c.lower_by_band.ensures.lower (c.loop-at.invariant k d lt))
    (subst (AreBehindBand c.lower_by_band.new.tails c.args.levels.now c.args.class c.args.unit) c.band_at-band.ensures c.lower_by_band.ensures.behind)

pub returns : goal.returns
returns c =
    behind_bands c.loop-at.tails c.args.levels.now c.args.class c.args.top c.args.unit c.args.bands.now
    (λ m has narrow. contained_each (AreBehindBand c.loop-at.tails c.args.levels.now c.args.class c.args.unit) c.args.bands.now (λ k d lt. c.loop-at.invariant k d (omega (arith, lt, c.loop-at-test.false))) m has)
