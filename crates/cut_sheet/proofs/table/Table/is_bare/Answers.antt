use Rattle.std.proofs.Common.{sym, ap, ◌∙◌}
use Rattle.std.specs.Prelude.{reverse}
use Rattle.cut_sheet.specs.Table.{Table}
use Rattle.cut_sheet.proofs.Lying.{none_reversed}
use Rattle.cut_sheet.proofs.table.Table.is_bare.Goals as goal

pub returns : goal.returns
returns c =
    let pile = ap (λ (t : Table). t.pile) c.self.view_is in
    (λ is. sym pile ∙ ap reverse (c.is_empty.ensures.0 is), λ is. c.is_empty.ensures.1 (none_reversed c.self.inside.pile.items (pile ∙ is)))
