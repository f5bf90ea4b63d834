use Rattle.std.proofs.Common.{[], ◌∷◌, sym, ap, subst, arith}
use Rattle.std.proofs.Math.Logic.{∥∥₁_map}
use Rattle.glass_base.specs.declared.params.Params.{Params}
use Rattle.plan_trace.specs.TraceRules.{Gap}
use Rattle.front_bound.specs.inner.Clear.{AreHoles}
use Rattle.front_table.specs.Levels.{to_go_at}
use Rattle.front_bound.proofs.PlacedRuns.{placed_goes_on}
use Rattle.front_bound.proofs.SideLemmas.{built_ready, class_none, true_false}
use Rattle.front_table.proofs.FrontRows.{lead_down}
use Rattle.front_table.proofs.Known.{down_known, fronts_built}
use Rattle.front_bound.proofs.KnownSides.{class_known}
use Rattle.front_table.proofs.Leasts.{built_tails, fits}
use Rattle.front_bound.proofs.nearby.place_begin.Goals as goal

pub returns-then-not-has-clause-goes_on : goal.returns-then-not-has-clause-goes_on
returns-then-not-has-clause-goes_on c = λ _.
    class_none c.args.outset.now.fronts.instance.now c.args.outset.now.fronts.rows.now (to_go_at c.args.outset.now.fronts.levels.now) c.args.outset.now.most c.args.sides.now c.args.outset.now.row c.args.begin.now c.args.class.now.plate c.args.class.now.low c.args.class.now.limits.top c.args.class.now.room
    c.args.class.now.limits.most (λ has. true_false c.has.result (c.has.ensures.1 has) c.if-not-has.true)

pub placed_from-requires-clause-stretch : goal.placed_from-requires-clause-stretch
placed_from-requires-clause-stretch c =
    let b = c.args.outset.now.fronts.instance.now in
    let fronts = c.args.outset.now.fronts in
    let built = fronts_built fronts c.args.outset.now.built in
    record {
      len = c.args.outset.now.even;
      down = down_known fronts.rows.now (∥∥₁_map c.args.outset.now.built (λ are. lead_down b fronts.rows.now are.lattice));
      bound = omega (arith, c.min-bound.ensures, c.requires.class.bound);
      falls = λ n lt. (built.each n lt).falls;
      rises = λ n lt. (built.each n lt).rises;
    }

pub returns-clause-goes_on : goal.returns-clause-goes_on
returns-clause-goes_on c = λ _.
    let b = c.args.outset.now.fronts.instance.now in
    let fronts = c.args.outset.now.fronts in
    let row = c.args.outset.now.row in
    let most = c.args.outset.now.most in
    let class = c.args.class.now in
    let holes = c.in_ok-holes_of-2.ensures in
    class_known b fronts.rows.now (to_go_at fronts.levels.now) most c.offer_placed_ends.new.sides row (c.args.begin.now ∷ []) class.plate class.low class.limits.top class.room class.limits.most (∥∥₁_map c.args.outset.now.built (λ are.
    placed_goes_on b _ are.lattice fronts.cover (fits b _ fronts.cover c.requires.class.height (omega (arith, c.min-bound.ensures, c.requires.class.narrow)) are.enough) (to_go_at fronts.levels.now) row
    (built_ready b fronts.rows.now are.lattice fronts.tops.now fronts.cover fronts.levels.now are.built row (omega (arith, c.args.outset.now.inside, are.len)))
    (built_tails b fronts.rows.now fronts.tops.now fronts.cover fronts.levels.now are.built row (omega (arith, c.args.outset.now.inside, are.len)) class.limits.class _ c.requires.class.class (omega (arith, c.min-bound.ensures, c.requires.class.bound, c.requires.class.top))) class.plate c.placed_from.new.pool
    (record {
      are = subst (λ l. AreHoles b class.plate l) (sym c.as_slice.ensures.value) holes;
      height = ap (λ (p : Params). p.height) c.params-params.ensures.value;
      least = ap (λ (p : Params). p.min2) c.params-params.ensures.value;
      waste = ap (λ (p : Params). p.waste) c.params-params.ensures.value;
      widest = omega arith;
      bound = omega (arith, c.min-bound.ensures, c.requires.class.bound);
      placed = c.in_ok-placed_from.ensures.placed;
    })
    class.low c.in_ok-placed_from.ensures.begun c.as_slice.result.now (subst (λ l. AreHoles b class.plate l) (sym c.as_slice.ensures.value) holes) most c.offer_placed_ends.new.sides
    c.args.begin.now class.limits.top class.room class.limits.most (λ x y has gap. c.closed.ensures.gaps x y has (subst (λ (p : Params). Gap p.waste x y) (sym c.params-params.ensures.value) gap)) c.width-width.ensures.value (omega (arith, c.saturating_sub-reach.ensures, c.before-2.ensures.value)) (omega (arith, c.saturating_sub.ensures, c.from.ensures, c.closed.ensures.least))
    (λ w top most room inside. omega (arith, c.requires.class.fits w top most room, inside, c.closed.ensures.least, c.min-bound.ensures, c.saturating_sub-2.ensures, c.width-width.ensures.value))
    c.in_ok-offer_placed_ends.ensures.held))
