use Rattle.std.proofs.Common.{ℕ, ◌==◌, ◌<◌, List, length, get_or, ap, arith}
use Rattle.std.proofs.lemmas.List.{get_or_default}
use Rattle.std.proofs.lemmas.Bool.Decides.{nat_tests}
use Rattle.glass_base.specs.Items.{DifferentIds}
use Rattle.glass_base.specs.declared.item.Item.{Item}
use Rattle.glass_base.proofs.FirstPairs.{Tells, first_pair, no_pair_yet}
use Rattle.glass_base.proofs.instance.find_double_id.Goals as goal

tells : (items : List Item) (j : ℕ) (d e : Item) → j < length items → Tells DifferentIds (get_or items j d) (λ item. item.id == (get_or items j e).id)
tells items j d e lt =
    let same = ap (λ (item : Item). item.id) (get_or_default items j d e lt) in
    record { breaks = λ item eq. grind (arith, nat_tests); keeps = λ item eq. grind (arith, nat_tests) }

pub returns-in-Some : goal.returns-in-Some
returns-in-Some c =
    first_pair DifferentIds c.args.items.now c.in-Some.earlier c.loop-later.later _ (λ d. tells _ _ d _ c.loop-later-test.true) c.loop-later-test.true c.loop-later.invariant c.in-Some.ensures

pub loop-later-preserved : goal.loop-later-preserved
loop-later-preserved c =
    no_pair_yet DifferentIds c.args.items.now c.loop-later.later _ (λ d. tells _ _ d _ c.loop-later-test.true) c.loop-later-test.true c.loop-later.invariant c.in_default.ensures
