use Rattle.std.proofs.Common.{sym, inl, inr, ◌∙◌, subst}
use Rattle.std.proofs.lemmas.List.{get_or_default}
use Rattle.front_table.specs.declared.labels.FrontLabel.{FrontLabel}
use Rattle.front_table.specs.Sets.{HeldTo, Stands}
use Rattle.front_table.proofs.HeldLists.{held_without}
use Rattle.front_table.proofs.labels.drop_covered.Goals as goal

pub returns-then-covers-clause-held : goal.returns-then-covers-clause-held
returns-then-covers-clause-held c = λ x y right up held.
    elim (held_without c.args.labels.now.items c.args.at c.swap_remove.result c.requires c.swap_remove.ensures.value x y right up held) [
      | inl there ↦ inl (subst (λ labels. HeldTo labels x y right up) (sym c.swap_remove.ensures.items) there)
      | inr fits ↦
          inr
          (
          c.covers.ensures
          c.if-covers.true
          x
          y
          right
          up
          (
          subst
          (λ (l : FrontLabel). Stands l x y right up)
          (c.swap_remove.ensures.value ∙ get_or_default c.args.labels.now.items c.args.at c.swap_remove.result c.index.result.now c.requires ∙ sym c.index.ensures)
          fits
          )
          )
    ]
