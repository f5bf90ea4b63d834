use Rattle.std.proofs.Common.{subst, arith}
use Rattle.std.proofs.Math.Logic.{∥∥₁_map}
use Rattle.front_table.specs.Levels.{to_go_at}
use Rattle.front_bound.specs.Sides.{ClassGoesOn}
use Rattle.front_table.proofs.Leasts.{built_tails, fits}
use Rattle.front_table.proofs.Known.{fronts_built}
use Rattle.front_bound.proofs.KnownSides.{class_known}
use Rattle.front_bound.proofs.SideLemmas.{built_searchable, built_ready, class_goes_on, class_whole, class_empty, class_narrow, none_left}
use Rattle.front_table.proofs.PoolRows.{spreads_same}
use Rattle.front_bound.proofs.classes.handle_class.Goals as goal

pub returns-then-bound-class-clause-goes_on : goal.returns-then-bound-class-clause-goes_on
returns-then-bound-class-clause-goes_on c =
    class_narrow c.args.outset.now.fronts.instance.now c.args.outset.now.fronts.rows.now (to_go_at c.args.outset.now.fronts.levels.now) c.args.outset.now.most c.args.sides.now c.args.outset.now.row c.args.begins.now c.args.class.now.plate c.args.class.now.low c.args.class.now.limits.top c.args.class.now.room
    c.args.class.now.limits.most c.args.class.now.limits.bound c.if-bound-class.true c.requires.class.fits

pub strips_from-requires-clause-searchable : goal.strips_from-requires-clause-searchable
strips_from-requires-clause-searchable c =
    let b = c.args.outset.now.fronts.instance.now in
    let fronts = c.args.outset.now.fronts in
    let limits = c.args.class.now.limits in
    built_searchable b fronts.rows.now fronts.tops.now fronts.cover fronts.levels.now (fronts_built fronts c.args.outset.now.built) c.args.outset.now.row (omega (arith, c.args.outset.now.inside, c.args.outset.now.even)) limits c.requires.class.bound

pub returns-then-is_empty-clause-goes_on : goal.returns-then-is_empty-clause-goes_on
returns-then-is_empty-clause-goes_on c =
    class_whole c.args.outset.now.fronts.instance.now c.args.outset.now.fronts.rows.now (to_go_at c.args.outset.now.fronts.levels.now) c.args.outset.now.most c.args.outset.now.row c.place_begins.new.sides c.place_begins.new.sides c.args.outset.now.row c.args.begins.now c.place_begins.new.space.clear.items c.args.class.now.plate
    c.args.class.now.low c.args.class.now.limits.top c.args.class.now.room c.args.class.now.limits.most (spreads_same c.args.outset.now.row c.place_begins.new.sides) c.in_ok-place_begins.ensures.goes_on
    (subst
    (λ l. ClassGoesOn c.args.outset.now.fronts.instance.now c.args.outset.now.fronts.rows.now (to_go_at c.args.outset.now.fronts.levels.now) c.args.outset.now.most c.place_begins.new.sides c.args.outset.now.row l c.args.class.now.plate c.args.class.now.low c.args.class.now.limits.top c.args.class.now.room
    c.args.class.now.limits.most) c.as_slice-clear.ensures.value
    (class_empty c.args.outset.now.fronts.instance.now c.args.outset.now.fronts.rows.now (to_go_at c.args.outset.now.fronts.levels.now) c.args.outset.now.most c.place_begins.new.sides c.args.outset.now.row c.as_slice-clear.result.now c.args.class.now.plate c.args.class.now.low c.args.class.now.limits.top
    c.args.class.now.room c.args.class.now.limits.most (none_left _ c.if-is_empty.ensures)))

pub returns-clause-goes_on : goal.returns-clause-goes_on
returns-clause-goes_on c =
    let b = c.args.outset.now.fronts.instance.now in
    let fronts = c.args.outset.now.fronts in
    let rows = fronts.rows.now in
    let levels = fronts.levels.now in
    let most = c.args.outset.now.most in
    let row = c.args.outset.now.row in
    let class = c.args.class.now in
    class_whole b rows (to_go_at levels) most row c.place_begins.new.sides c.offer_ends.new.sides row c.args.begins.now c.place_begins.new.space.clear.items class.plate class.low class.limits.top class.room class.limits.most c.in_ok-offer_ends.ensures.spreads
    c.in_ok-place_begins.ensures.goes_on
    (subst (λ l. ClassGoesOn b rows (to_go_at levels) most c.offer_ends.new.sides row l class.plate class.low class.limits.top class.room class.limits.most) c.as_slice-clear.ensures.value
    (class_known b rows (to_go_at levels) most c.offer_ends.new.sides row c.as_slice-clear.result.now class.plate class.low class.limits.top class.room class.limits.most (∥∥₁_map c.args.outset.now.built (λ are.
    class_goes_on b rows are.lattice levels class.limits fronts.cover (fits b class.limits fronts.cover c.requires.class.height c.requires.class.narrow are.enough) row
    (built_ready b rows are.lattice fronts.tops.now fronts.cover levels are.built row (omega (arith, c.args.outset.now.inside, are.len)))
    (built_tails b rows fronts.tops.now fronts.cover levels are.built row (omega (arith, c.args.outset.now.inside, are.len)) class.limits.class class.limits.bound c.requires.class.class (omega (arith, c.requires.class.bound, c.requires.class.top))) c.strips_from.new.pool c.in_ok-strips_from.ensures.extended class.low
    c.in_ok-strips_from.ensures.begun most c.offer_ends.new.sides c.as_slice-clear.result.now class.plate class.limits.top class.room
    c.requires.class.fits c.in_ok-offer_ends.ensures.held))))
