use Rattle.std.proofs.Common.{arith}
use Rattle.front_table.specs.Packed.{unpacked_all}
use Rattle.front_table.specs.Tries.{Extended}
use Rattle.front_table.proofs.HeldLists.{least_first}
use Rattle.front_table.proofs.StripTries.{less_glass, all_tried}
use Rattle.front_table.proofs.strips.extend.Goals as goal

pub returns-then-from-limits-clause-extended : goal.returns-then-from-limits-clause-extended
unfolding Extended
returns-then-from-limits-clause-extended c = λ m has x d w own next may. absurd (omega (arith, least_first c.args.label.now.across w own.1, c.if-from-limits.true, c.from.ensures, may.near))

pub returns-in_default-clause-extended : goal.returns-in_default-clause-extended
unfolding Extended
returns-in_default-clause-extended c = λ m has x d w own next may.
    let far = c.in_default.ensures.none may.before may.to_go may.here in
    absurd (omega (arith, far, least_first c.args.label.now.across w own.1, c.from.ensures, c.from-2.ensures, may.near))

pub returns-then-whole-area-clause-extended : goal.returns-then-whole-area-clause-extended
unfolding Extended
returns-then-whole-area-clause-extended c = λ m has x d w own next may.
    let wide = least_first c.args.label.now.across w own.1 in
    let high = least_first c.args.label.now.along x own.0 in
    let near = c.in-Some.ensures.least may.before may.to_go may.here (omega (arith, wide, c.from.ensures, c.from-2.ensures, may.near)) in
    absurd (
    omega (
      arith,
      near,
      may.within,
      less_glass w c.args.search.now.limits.top c.args.search.now.limits.height x c.args.label.now.along.least (omega (arith, may.narrow, c.requires.bound)) high,
      c.glass_above-whole.ensures,
      c.if-whole-area.true,
    )
    )

pub returns-clause-extended : goal.returns-clause-extended
returns-clause-extended c =
    all_tried c.args.search.now.fronts.rows.now c.args.search.now.fronts.levels.now c.args.search.now.limits c.try_moves.new.pool c.args.view.now.row c.args.view.now.below (unpacked_all c.args.view.now.bands.now) c.args.view.now.ends.now c.args.label.now c.in-Some.area _ c.requires.bound (omega (arith, c.glass_above-whole.ensures, c.if-whole-area.false))
    (λ before to_go ended within. c.in-Some.ensures.least before to_go ended (omega (arith, within, c.from.ensures, c.from-2.ensures)))
    c.in_ok-try_moves.ensures.tried
