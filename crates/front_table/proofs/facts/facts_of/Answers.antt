use Rattle.std.proofs.Math.Logic.{∥∥₁_map}
use Rattle.front_table.proofs.Known.{row_known}
use Rattle.front_table.proofs.LevelLists.{is_opened, is_known}
use Rattle.front_table.proofs.facts.facts_of.Goals as goal

pub invariant_of-behind : goal.invariant_of-behind
invariant_of-behind c =
    let fronts = c.args.fronts.now in
    record {
      opened = ∥∥₁_map fronts.lattice (λ lattice.
          is_opened fronts.instance.now fronts.rows.now fronts.tops.now fronts.cover lattice fronts.levels.now c.args.row c.in_ok-opened.opened c.requires.low c.requires.built (c.links_lead_below.ensures c.if-not-links_lead_below.false) c.in_ok-opened.ensures.open);
    }

pub returns-clause-known : goal.returns-clause-known
returns-clause-known c =
    let fronts = c.args.fronts.now in
    let opened = c.in_ok-opened.opened in
    row_known fronts.instance.now fronts.rows.now fronts.tops.now fronts.cover fronts.levels.now c.args.row c.in_ok-facts.facts (∥∥₁_map fronts.lattice (λ lattice.
    is_known fronts.instance.now fronts.rows.now fronts.tops.now fronts.cover lattice fronts.levels.now c.args.row opened c.in_ok-facts.facts c.in_ok-far.far
    (is_opened fronts.instance.now fronts.rows.now fronts.tops.now fronts.cover lattice fronts.levels.now c.args.row opened c.requires.low c.requires.built (c.links_lead_below.ensures c.if-not-links_lead_below.false) c.in_ok-opened.ensures.open)
    c.in_ok-far.ensures.least c.in_ok-facts.ensures))
