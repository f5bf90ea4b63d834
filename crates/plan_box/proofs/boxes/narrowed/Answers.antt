use Rattle.std.proofs.Common.{◌≡◌, get_or, Some, slice_get}
use Rattle.std.proofs.lemmas.Option.{slice_get-get_or}
use Rattle.plan_box.specs.declared.packed.Packed.{Packed}
use Rattle.plan_box.proofs.Children.{set_ranges, set_are_stored, within_limit, no_ranges}
use Rattle.plan_box.proofs.Stored.{stored_here}
use Rattle.plan_box.proofs.boxes.narrowed.Goals as goal

pub with-requires-clause-limit : goal.with-requires-clause-limit
with-requires-clause-limit c =
    let xs = c.args.stored.items in
    let old : Packed = get_or xs c.args.step no_ranges in
    let is : slice_get xs c.args.step ≡ Some old = slice_get-get_or xs c.args.step no_ranges c.requires.inside in
    within_limit c.args.frame xs c.args.step c.args.var c.args.range.1 old c.requires.stored.frame c.requires.stored.in_frame is
    (rw (stored_here c.args.frame xs c.args.step old is) at c.requires.within)

pub returns-clause-stored : goal.returns-clause-stored
returns-clause-stored c =
    let xs = c.args.stored.items in
    let old : Packed = get_or xs c.args.step no_ranges in
    let is : slice_get xs c.args.step ≡ Some old = slice_get-get_or xs c.args.step no_ranges c.requires.inside in
    let from = rw (stored_here c.args.frame xs c.args.step old is) at c.requires.from in
    let within = rw (stored_here c.args.frame xs c.args.step old is) at c.requires.within in
    rw c.set.ensures.new
    (set_are_stored c.args.frame xs c.args.step c.args.var (record { low = c.args.range.0; high = c.args.range.1 }) old c.with.result is
    (rw c.as_slice.ensures at c.with.ensures) from (c.requires.order, within) c.requires.stored)

pub returns-clause-ranges : goal.returns-clause-ranges
returns-clause-ranges c =
    let xs = c.args.stored.items in
    let old : Packed = get_or xs c.args.step no_ranges in
    let is : slice_get xs c.args.step ≡ Some old = slice_get-get_or xs c.args.step no_ranges c.requires.inside in
    rw c.set.ensures.new
    (set_ranges c.args.frame xs c.args.step c.args.var (record { low = c.args.range.0; high = c.args.range.1 }) old c.with.result c.requires.inside is
    (rw c.as_slice.ensures at c.with.ensures))
