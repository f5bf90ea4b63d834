use Rattle.std.proofs.Common.{arith, sym, ap, subst, ◌∙◌, All}
use Rattle.std.proofs.lemmas.List.Elements.{All-push}
use Rattle.glass_base.proofs.PlateLemmas.{width_within}
use Rattle.cut_sheet.specs.Pieces.{IsOnPlate}
use Rattle.cut_sheet.specs.Table.{Table}
use Rattle.cut_sheet.proofs.Lying.{load_stuck, no_true, none_reversed}
use Rattle.cut_sheet.proofs.table.Table.load.Goals as goal

pub returns-then-not-is_empty : goal.returns-then-not-is_empty
returns-then-not-is_empty c =
    let pile = ap (λ (t : Table). t.pile) c.self.view_is in
    load_stuck c.args.instance.now c.args.plate c.args.self.now c.args.self.now.pile
    (λ none. no_true c.is_empty.result (c.is_empty.ensures.1 (none_reversed c.self.inside.pile.items (pile ∙ none))) c.if-not-is_empty.true)

pub invariant_of-self-2 : goal.invariant_of-self-2
invariant_of-self-2 c =
    let b = c.args.instance.now in
    subst (All IsOnPlate) (sym c.in_ok-append.ensures.ok)
    (All-push IsOnPlate c.self.inside.pile.items _ c.self.invariant
    (record {
      right = omega (arith, c.width.ensures.value, (width_within b c.args.plate c.width.ensures.rules).1);
      top = omega (arith, c.params-2.result.now.accepted.height_limit);
      level = omega arith;
    }))
