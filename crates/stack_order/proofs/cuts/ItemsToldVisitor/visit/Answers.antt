use Rattle.stack_order.proofs.Gathers.{HasNoted, noted_cut, noted_none, gathered_more, plate_pushed, no_plate}
use Rattle.stack_order.proofs.cuts.ItemsToldVisitor.visit.Goals as goal
use Rattle.stack_order.proofs.cuts.ItemsToldVisitor.visit.Goals.{in-Item+in_ok-append, in_default}

pub returns-in_ok-append-2 : goal.returns-in_ok-append-2
returns-in_ok-append-2 c =
    let noted : HasNoted c.args.self.now c.match-family.self c.args.family.now =
    elim c.match-family.branch [
      | in-Item+in_ok-append w ↦
          noted_cut c.args.self.now c.match-family.self w.append.new.run c.args.family.now w.in-Item.number w.item_numbered.result c.requires.named w.in-Item.is w.item_numbered.ensures w.in_ok-append.ensures.ok w.self-is
      | in_default w ↦ noted_none c.args.self.now c.match-family.self c.args.family.now c.requires.named w.in_default.not-Item w.self-is
    ] in
    let plates = plate_pushed c.args.family.now.row c.match-family.self.plates.items c.append-then-row-eq0.new.run.items c.if-row-eq0.true c.in_ok-append-2.ensures.ok in
    record { after = λ start seen before. gathered_more start c.args.self.now c.match-family.self c.append-then-row-eq0.new.run.items seen c.args.family.now noted plates before }

pub returns-else-row-eq0 : goal.returns-else-row-eq0
returns-else-row-eq0 c =
    let noted : HasNoted c.args.self.now c.match-family.self c.args.family.now =
    elim c.match-family.branch [
      | in-Item+in_ok-append w ↦
          noted_cut c.args.self.now c.match-family.self w.append.new.run c.args.family.now w.in-Item.number w.item_numbered.result c.requires.named w.in-Item.is w.item_numbered.ensures w.in_ok-append.ensures.ok w.self-is
      | in_default w ↦ noted_none c.args.self.now c.match-family.self c.args.family.now c.requires.named w.in_default.not-Item w.self-is
    ] in
    let plates = no_plate c.args.family.now.row c.match-family.self.plates.items c.if-row-eq0.false in
    record { after = λ start seen before. gathered_more start c.args.self.now c.match-family.self c.match-family.self.plates.items seen c.args.family.now noted plates before }
