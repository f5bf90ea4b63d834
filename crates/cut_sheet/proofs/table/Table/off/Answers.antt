use Rattle.std.proofs.Common.{◌≤◌, ◌<◌, arith, sym, subst, ◌∙◌, All, Some}
use Rattle.std.proofs.lemmas.List.Elements.{All-pop, All-push}
use Rattle.cut_sheet.specs.Pieces.{IsOnPlate, side_cut}
use Rattle.cut_sheet.proofs.Lying.{cut_off_lies, without_lies}
use Rattle.cut_sheet.proofs.table.Table.off.Goals as goal

pub invariant_of-self-in_err-append-2 : goal.invariant_of-self-in_err-append-2
invariant_of-self-in_err-append-2 c =
    let popped = All-pop IsOnPlate c.self.inside.pile.items c.pop.new.self.items (Some c.in-Some.top) c.in-Some.ensures.last c.self.invariant in
    let few : c.args.size ≤ side_cut c.in-Some.top = omega (arith, c.side_cut.ensures) in
    let left = subst IsOnPlate (sym c.without.ensures) (without_lies c.args.size c.in-Some.top popped.1 few) in
    subst (All IsOnPlate) (sym (c.in_err-append-2.ensures.err ∙ c.in_ok-append.ensures.ok)) (All-push IsOnPlate c.pop.new.self.items c.without.result popped.0 left)

pub invariant_of-self-2 : goal.invariant_of-self-2
invariant_of-self-2 c =
    let popped = All-pop IsOnPlate c.self.inside.pile.items c.pop.new.self.items (Some c.in-Some.top) c.in-Some.ensures.last c.self.invariant in
    let few : c.args.size ≤ side_cut c.in-Some.top = omega (arith, c.side_cut.ensures) in
    let shallow : c.in-Some.top.level < 4 = omega (arith, popped.1.level) in
    let left = subst IsOnPlate (sym c.without.ensures) (without_lies c.args.size c.in-Some.top popped.1 few) in
    let part = subst IsOnPlate (sym c.cut_off.ensures) (cut_off_lies c.args.size c.in-Some.top popped.1 shallow few) in
    let one = subst (All IsOnPlate) (sym c.in_ok-append.ensures.ok) (All-push IsOnPlate c.pop.new.self.items c.without.result popped.0 left) in
    subst (All IsOnPlate) (sym c.in_ok-append-2.ensures.ok) (All-push IsOnPlate c.append.new.run.items c.cut_off.result one part)
