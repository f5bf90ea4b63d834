use Rattle.std.proofs.Common.{take, get_or, None, sym, rules}
use Rattle.std.proofs.lemmas.List.{take_all}
use Rattle.std.proofs.lemmas.List.Elements.{All-more, All-same}
use Rattle.cut_model.specs.declared.family.Row.{Row}
use Rattle.stack_order.specs.Breaches.{HasItem}
use Rattle.stack_order.proofs.breaches.first_empty_plate.Goals as goal
use Rattle.std.specs.Prelude.{pos}

pub loop-plate-preserved : goal.loop-plate-preserved
loop-plate-preserved c =
    let plate : Row = get_or c.args.plates.now c.loop-plate.plate-index record { plate = 0; node = 0; x = 0; y = 0; width = 0; height = 0; kind = pos 0; cut = 0; parent = None } in
    let here : HasItem c.args.cuts.now plate = search rules in
    All-more (HasItem c.args.cuts.now) c.args.plates.now c.loop-plate.plate-index _ c.loop-plate-test.true c.loop-plate.invariant here

pub returns : goal.returns
returns c = All-same (HasItem c.args.cuts.now) c.args.plates.now (take c.loop-plate.plate-index c.args.plates.now) (sym (take_all c.loop-plate.plate-index c.args.plates.now c.loop-plate-test.false)) c.loop-plate.invariant
