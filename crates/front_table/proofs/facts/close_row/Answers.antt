use Rattle.std.proofs.Common.{◌∙◌, length, refl, sym, subst}
use Rattle.std.proofs.lemmas.List.{with_items_is}
use Rattle.front_table.specs.Ends.{Ended}
use Rattle.front_table.specs.Tails.{AllLower}
use Rattle.front_table.proofs.StackTails.{each_lower, lower_length}
use Rattle.front_table.proofs.LevelLists.{is_closed}
use Rattle.front_table.proofs.facts.close_row.Goals as goal

pub returns : goal.returns
returns c =
    let old = c.args.opened.tails in
    let new = c.lower_all.new.all in
    let low = subst (λ l. AllLower new l c.args.far (length l)) c.as_mut_slice.ensures.value c.lower_all.ensures in
    let same = with_items_is old new (lower_length new old.items c.args.far _ low ∙ sym old.ok.0) in
    let each = each_lower _ _ c.args.far _ (subst (λ l. AllLower l old.items c.args.far (length old.items)) (sym same) low) in
    is_closed c.args.opened _ c.args.far refl refl c.in_ok-ends.ensures.falls c.in_ok-ends.ensures.own (λ area far ended. c.in_ok-ends.ensures.ends area far (subst (λ l. Ended l area far) (sym c.as_slice.ensures.value) ended)) (λ k. (each k).0) (λ k. (each k).1)
