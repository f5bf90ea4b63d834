use Rattle.std.proofs.Common.{◌≡◌, ◌≤◌, [], Bool, List, length, map, take, ap, sym, ◌∙◌, subst, arith, refl, ◌==◌, All}
use Rattle.std.proofs.lemmas.List.{length-take-le, take_all}
use Rattle.glass_base.specs.declared.item.Item.{Item}
use Rattle.plan_box.specs.declared.packed.Packed.{Packed}
use Rattle.plan_box.specs.Packed.{unpacked}
use Rattle.plan_box.specs.Leasts.{no_known}
use Rattle.box_bound.specs.declared.kept.Kept.{Kept}
use Rattle.box_bound.specs.Kept.{late, late_fixed}
use Rattle.plan_box.specs.Follows.{follow}
use Rattle.box_bound.specs.Leastings.{Leastings}
use Rattle.box_bound.specs.inner.Drawn.{HaveLevels}
use Rattle.box_bound.specs.Seen.{AreSeen}
use Rattle.plan_box.specs.Within.{AreWithin}
use Rattle.box_bound.proofs.Filled.{filled, filled_within}
use Rattle.box_bound.proofs.Seeing.{have_levels, seen_taken}
use Rattle.box_bound.proofs.Sharing.{seen_kept}
use Rattle.box_bound.proofs.leasts.Leasts.fill.Goals as goal
use Rattle.glass_base.specs.declared.limits.TheConstants.{MOST_LENGTH}

pub look-requires-clause-within : goal.look-requires-clause-within
look-requires-clause-within c =
    let had = c.decided_ranges-ranges.ensures in
    subst (λ (xs : List Kept). All (λ (k : Kept). AreWithin MOST_LENGTH (late k)) (take (length c.decided_ranges-ranges.result.now) xs)) (sym c.as_slice.ensures)
    (filled_within c.args.instance.now c.decided_ranges-ranges.result.now c.refill-start.new.steps.items c.items-items.ensures.rules had.within had.few c.refill-start.ensures.followed c.refill-start.ensures.late)

pub look-requires-clause-levels : goal.look-requires-clause-levels
look-requires-clause-levels c =
    let ranges = c.decided_ranges-ranges.result.now in
    let n = length ranges in
    let taken : take n ranges ≡ ranges = take_all n ranges (omega arith) in
    subst (λ (xs : List Kept). HaveLevels (take n xs) ranges) (sym c.as_slice.ensures)
    (have_levels c.args.instance.now (take n c.refill-start.new.steps.items) ranges (c.refill-start.ensures.followed.values ∙ ap (λ (ps : List Packed). follow c.args.instance.now [] no_known (map unpacked ps)) taken))

pub look-requires-clause-before : goal.look-requires-clause-before
look-requires-clause-before c =
    let b = c.args.instance.now in
    let ranges = c.decided_ranges-ranges.result.now in
    let old = c.self.inside.steps.items in
    let new = c.refill-start.new.steps.items in
    let many = c.self.inside.count in
    let seen = c.self.inside.seen.items in
    let whole : Bool = length ranges == length c.items.result.now in
    let was : Bool = length (take many old) == length b.items in
    let given = subst (λ (v : Leastings). AreSeen b (length v.steps == length b.items) (map late_fixed v.steps) v.seen (length v.steps)) (sym c.self.view_is) c.requires.of_instance.seen in
    let before = seen_taken b was was (map late_fixed (take many old)) seen many (length (take many old)) refl (length-take-le many old c.self.invariant.0) given in
    let room : length ranges ≤ length new = omega (arith, c.decided_ranges-ranges.ensures.few, c.refill-start.ensures.many, ap (λ (v : Leastings). v.places) c.self.view_is, c.requires.of_instance.places) in
    subst (λ (xs : List Kept). AreSeen b whole (map late_fixed (take (length ranges) xs)) seen c.refill-start.result) (sym c.as_slice.ensures)
    (seen_kept b was whole old new c.refill-start.result many (length ranges) seen c.refill-start.ensures.shared c.self.invariant.0 room before)

pub returns : goal.returns
returns c =
    let had = c.decided_ranges-ranges.ensures in
    let of_instance = c.requires.of_instance in
    let ranges = c.decided_ranges-ranges.result.now in
    filled c.args.instance.now c.args.bx.now c.decided_ranges-ranges.result.now c.refill-start.new.steps.items c.self.inside.total c.look.new.seen.items c.self.inside.map c.items-items.ensures.rules
    had.ranges had.within had.few
    (ap (λ (v : Leastings). v.total) c.self.view_is ∙ of_instance.total)
    (c.refill-start.ensures.many ∙ ap (λ (v : Leastings). v.places) c.self.view_is ∙ of_instance.places)
    c.refill-start.ensures.followed c.refill-start.ensures.late
    (ap (λ (v : Leastings). v.defects) c.self.view_is ∙ of_instance.defects)
    (subst (λ (xs : List Kept). AreSeen c.args.instance.now (length ranges == length c.args.instance.now.items) (map late_fixed (take (length ranges) xs)) c.look.new.seen.items (length (take (length ranges) xs))) c.as_slice.ensures
    (subst (λ (items : List Item). AreSeen c.args.instance.now (length ranges == length items) (map late_fixed (take (length ranges) c.as_slice.result.now)) c.look.new.seen.items (length (take (length ranges) c.as_slice.result.now))) c.items.ensures.value c.look.ensures.seen))
