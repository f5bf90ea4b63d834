use Rattle.std.proofs.Common.{arith}
use Rattle.front_table.proofs.Known.{fronts_built}
use Rattle.front_bound.proofs.SideLemmas.{built_searchable}
use Rattle.front_plan.proofs.ends_at.strips_between.Goals as goal

pub strips_from-requires-clause-searchable : goal.strips_from-requires-clause-searchable
strips_from-requires-clause-searchable c =
    let b = c.args.search.now.fronts.instance.now in
    let fronts = c.args.search.now.fronts in
    built_searchable b fronts.rows.now fronts.tops.now fronts.cover fronts.levels.now (fronts_built fronts c.args.search.now.built) c.args.between.now.from (omega (arith, c.requires.from, c.args.search.now.even)) _ (omega (arith, c.min.ensures, c.min-2.ensures))
