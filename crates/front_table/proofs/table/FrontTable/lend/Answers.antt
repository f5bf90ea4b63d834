use Rattle.std.proofs.Common.{◌≡◌, length, sym, ap, subst, arith}
use Rattle.front_table.specs.Lattice.{IsLattice}
use Rattle.front_table.specs.Levels.{to_go_at}
use Rattle.front_table.specs.Ready.{Built}
use Rattle.front_table.proofs.table.FrontTable.lend.Goals as goal

pub returns-clause-fronts : goal.returns-clause-fronts
returns-clause-fronts c =
    let b = c.args.instance.now in
    let is = c.requires in
    let rows = c.as_slice.result.now in
    let tops = c.as_slice-2.result.now in
    let table = c.args.self.now in
    record {
      lattice = subst (IsLattice b) (sym c.as_slice.ensures.value) is.lattice;
      len = omega (arith, is.len, ap length c.as_slice.ensures.value, ap length c.as_slice-3.ensures.value);
      enough = is.enough;
      built = subst (λ l. Built b rows tops table.cover l) (sym c.as_slice-3.ensures.value)
          (subst (λ t. Built b rows t table.cover table.levels.items) (sym c.as_slice-2.ensures.value) (subst (λ r. Built b r table.tops.items table.cover table.levels.items) (sym c.as_slice.ensures.value) is.built));
      zero = subst (λ l. to_go_at l 0 ≡ 0) (sym c.as_slice-3.ensures.value) is.zero;
    }
