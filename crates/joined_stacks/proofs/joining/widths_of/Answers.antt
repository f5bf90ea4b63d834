use Rattle.std.proofs.Common.{arith, ap}
use Rattle.glass_base.specs.declared.params.Params.{Params}
use Rattle.joined_stacks.proofs.Plates.{widths_more}
use Rattle.joined_stacks.proofs.joining.widths_of.Goals as goal

pub loop-plate-preserved : goal.loop-plate-preserved
loop-plate-preserved c =
    widths_more c.args.instance.now c.loop-plate.plate c.width.result c.loop-plate.widths.items c.append.new.run.items c.params.ensures.rules
    (omega (arith, c.loop-plate-test.true, ap (λ (p : Params). p.plates) c.params.ensures.value)) c.width.ensures.value c.loop-plate.invariant c.in_ok-append.ensures.ok
