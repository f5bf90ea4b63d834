use Rattle.std.proofs.Common.{◌≡◌, length, take, ap, ◌∙◌, arith}
use Rattle.std.proofs.Math.Seq.{take-length}
use Rattle.front_table.specs.Packed.{unpacked_all}
use Rattle.front_table.proofs.PackedBands.{packed_next}
use Rattle.front_table.proofs.packed.pack_all.Goals as goal

pub loop-at-init : goal.loop-at-init
loop-at-init c = ap unpacked_all c.in_ok-packed.ensures.items

pub loop-at-preserved : goal.loop-at-preserved
loop-at-preserved c = packed_next c.args.bands.now c.loop-at.packed.items _ c.in-Some.band _ c.loop-at.at c.loop-at-test.true c.in-Some.ensures c.in_ok-push.ensures.items c.loop-at.invariant

pub returns : goal.returns
returns c =
    let all : c.loop-at.at ≡ length c.args.bands.now = omega (arith, c.loop-at-test.false, c.loop-at.auto.at-end) in
    c.loop-at.invariant ∙ ap (λ n. take n c.args.bands.now) all ∙ take-length c.args.bands.now
