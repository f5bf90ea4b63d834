use Rattle.std.proofs.Common.{ℕ, ◌==◌, ◌&&◌, ◌<◌, List, length, get_or, ap, arith}
use Rattle.std.proofs.lemmas.List.{get_or_default}
use Rattle.std.proofs.lemmas.Bool.Decides.{nat_tests}
use Rattle.glass_base.specs.Items.{DifferentPlaces}
use Rattle.glass_base.specs.declared.item.Item.{Item}
use Rattle.glass_base.proofs.FirstPairs.{Tells, first_pair, no_pair_yet}
use Rattle.glass_base.proofs.instance.find_double_sequence.Goals as goal

tells : (items : List Item) (j : ℕ) (d e : Item) → j < length items → Tells DifferentPlaces (get_or items j d) (λ item. (item.stack == (get_or items j e).stack) && (item.sequence == (get_or items j e).sequence))
tells items j d e lt =
    let stacks = ap (λ (item : Item). item.stack) (get_or_default items j d e lt) in
    let sequences = ap (λ (item : Item). item.sequence) (get_or_default items j d e lt) in
    record { breaks = λ item eq. grind (arith, nat_tests); keeps = λ item eq. grind (arith, nat_tests) }

pub returns-in-Some : goal.returns-in-Some
returns-in-Some c =
    first_pair DifferentPlaces c.args.items.now c.in-Some.earlier c.loop-later.later _ (λ d. tells _ _ d _ c.loop-later-test.true) c.loop-later-test.true c.loop-later.invariant c.in-Some.ensures

pub loop-later-preserved : goal.loop-later-preserved
loop-later-preserved c =
    no_pair_yet DifferentPlaces c.args.items.now c.loop-later.later _ (λ d. tells _ _ d _ c.loop-later-test.true) c.loop-later-test.true c.loop-later.invariant c.in_default.ensures
