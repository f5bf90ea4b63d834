use Rattle.std.proofs.Common.{sym, subst, arith}
use Rattle.front_table.specs.Levels.{to_go_at}
use Rattle.front_table.specs.Sets.{Held}
use Rattle.front_bound.proofs.Reached.{none_shorter}
use Rattle.front_bound.proofs.runs.least_reached.Goals as goal

pub returns : goal.returns
returns g c =
    none_shorter c.args.fronts.now.instance.now c.args.fronts.now.rows.now c.requires.lattice (to_go_at c.args.fronts.now.levels.now) c.requires.zero (λ n lt. c.requires.built.to_go n (omega (arith, lt, c.requires.len))) c.args.most c.in_ok-sides.sides
    c.in_ok-sides.ensures.goes_on (omega (arith, c.if-fronts-le1.false)) c.in_ok-sides.ensures.start c.least_end.result
    (omega (arith, c.least_end.ensures.most, c.saturating_add.ensures)) (λ right plate held. c.least_end.ensures.ends right plate (subst (λ l. Held l right plate) (sym c.labels.ensures) held))
