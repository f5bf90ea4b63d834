use Rattle.std.proofs.Common.{arith}
use Rattle.plan_draft.proofs.Bottoms.{band_bottom, bands_past, no_band, skip_stronger, up_to_next, up_to_skip}
use Rattle.plan_draft.proofs.bands.band_from.Goals as goal

pub loop-c-preserved-in-Some : goal.loop-c-preserved-in-Some
loop-c-preserved-in-Some c =
    let s = c.args.site in
    let i = c.args.item in
    (up_to_skip c.loop-c.invariant.0 (skip_stronger (band_bottom s.ground.instance.now s.plate c.args.left c.args.right i.w i.h) c.in-Some.ensures), c.in-Some.ensures.near)

pub loop-c-preserved : goal.loop-c-preserved
loop-c-preserved c =
    let s = c.args.site in
    let i = c.args.item in (
      up_to_next c.loop-c.invariant.0 (no_band s.ground.instance.now s.plate c.args.left c.args.right i.w i.h c.loop-c.c c.in-None-top_of.ensures),
      omega (arith, rw c.params.ensures.value at c.loop-c-test.true, s.ground.instance.now.params.accepted.height_limit),
    )

pub returns : goal.returns
returns c =
    let s = c.args.site in
    let i = c.args.item in
    bands_past s.ground.instance.now s.plate c.args.left c.args.right i.w i.h c.loop-c.c c.loop-c.invariant.0 (rw c.params.ensures.value at c.loop-c-test.false)
