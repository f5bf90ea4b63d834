use Rattle.std.proofs.Common.{◌∙◌, subst, arith}
use Rattle.std.proofs.Math.Logic.{∥∥₁_map}
use Rattle.front_table.specs.Ready.{IsKnown}
use Rattle.front_table.proofs.Known.{built_known}
use Rattle.front_table.proofs.LevelLists.{built_pushed}
use Rattle.front_table.proofs.table.push_level_of.Goals as goal

pub loop-at-preserved : goal.loop-at-preserved
loop-at-preserved c =
    let fronts = c.args.fronts.now in
    let b = fronts.instance.now in
    let rows = fronts.rows.now in
    let tops = fronts.tops.now in
    let old = c.args.levels.now.items in
    let levels = c.loop-at.levels.items in
    let other = c.push_made.new.levels.items in
    let made = c.in-Some.made in
    let i = c.loop-at.invariant in
    let pushed = c.in_ok-push_made.ensures in
    record {
      len = c.pop_made.ensures.len ∙ i.len;
      more = omega (arith, i.more, pushed.len);
      same = λ m lt. (pushed.same m (omega (arith, lt, i.more))).to_go ∙ i.same m lt;
      ready = λ many ready. c.pop_made.ensures.ready many (i.ready many ready);
      made = λ m has. i.made m (c.pop_made.ensures.others m has);
      built = built_known b rows tops fronts.cover other (∥∥₁_map fronts.lattice (λ lattice.
          built_pushed b rows tops fronts.cover lattice old levels other made.facts i.more i.built i.same
          (subst (λ n. IsKnown b rows tops fronts.cover old n made.facts) pushed.row (c.requires.made made (i.made made c.in-Some.ensures.made))) pushed.len pushed.same pushed.new));
    }
