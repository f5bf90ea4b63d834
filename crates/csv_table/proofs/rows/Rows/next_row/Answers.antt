use Rattle.std.proofs.Common.{refl, rules}
use Rattle.csv_table.proofs.RowFacts.{open-next, open-none}
use Rattle.csv_table.proofs.rows.Rows.next_row.Goals as goal

pub returns-in-None-clause-ok : goal.returns-in-None-clause-ok
returns-in-None-clause-ok c =
    let ready_now = c.self.invariant c.if-self.false in
    let s = rw c.in-None.is at ((c.next.ensures.steps ready_now.turns ready_now.plain).0 ready_now.ready) in
    rw (← c.self.view_is, c.if-self.false) (open-none c.self.inside.records c.next.new.self c.next.new.self.left ready_now s, refl)

pub invariant_of-self-in-Some-Ok : goal.invariant_of-self-in-Some-Ok
invariant_of-self-in-Some-Ok c e =
    let ready_now = c.self.invariant c.if-self.false in
    let steps = c.next.ensures.steps ready_now.turns ready_now.plain in
    let s = rw (c.in-Some-Ok.is, c.in-Some-Ok.field-0-is) at (steps.0 ready_now.ready) in
    let f = rw (c.in-Some-Ok.is, c.in-Some-Ok.field-0-is) at steps.3 in
    (open-next c.self.inside.records c.next.new.self c.in-Some-Ok.row ready_now s f).0

pub returns-in-Some-Ok-clause-ok : goal.returns-in-Some-Ok-clause-ok
returns-in-Some-Ok-clause-ok c =
    let ready_now = c.self.invariant c.if-self.false in
    let steps = c.next.ensures.steps ready_now.turns ready_now.plain in
    let s = rw (c.in-Some-Ok.is, c.in-Some-Ok.field-0-is) at (steps.0 ready_now.ready) in
    let f = rw (c.in-Some-Ok.is, c.in-Some-Ok.field-0-is) at steps.3 in
    rw (← c.self.view_is, c.if-self.false) (open-next c.self.inside.records c.next.new.self c.in-Some-Ok.row ready_now s f).1

pub invariant_of-self-in-Some-Err : goal.invariant_of-self-in-Some-Err
invariant_of-self-in-Some-Err c = search rules
