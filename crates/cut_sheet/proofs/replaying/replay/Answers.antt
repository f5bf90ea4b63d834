use Rattle.std.proofs.Common.{◌≡◌, ap, sym, subst, ◌∙◌, drop_of_length-le, Err}
use Rattle.cut_sheet.specs.declared.instr.Instr.{Instr}
use Rattle.cut_sheet.specs.Replays.{made_items, replayed, replayed_from}
use Rattle.cut_sheet.specs.inner.Steps.{Leads}
use Rattle.cut_sheet.proofs.Balances.{small_of, whole_of}
use Rattle.cut_sheet.proofs.Ending.{replay_stuck}
use Rattle.cut_sheet.proofs.replaying.replay.Goals as goal

pub returns-in-Err-clause-made : goal.returns-in-Err-clause-made
returns-in-Err-clause-made c =
    let b = c.args.instance.now in
    let stuck = subst (Leads _ c.follow.new.self) c.in-Err.is c.in_ok-why.ensures in
    ap Err c.stuck.ensures
    ∙ replay_stuck b c.loop-instr.lines c.loop-instr.table c.args.sheet.now c.loop-instr.instr-index (Instr.Load 0) c.in-Err.why (replayed b c.args.sheet.now) c.loop-instr-test.true stuck c.loop-instr.invariant.goes

-- behind the last instruction
answered : (c : goal.After-ended) → made_items c.ended.result ≡ replayed c.args.instance.now c.args.sheet.now
answered c =
    let none = drop_of_length-le c.args.sheet.now c.loop-instr-test.false in
    c.ended.ensures ∙ sym (ap (replayed_from c.args.instance.now c.loop-instr.lines c.loop-instr.table) none) ∙ c.loop-instr.invariant.goes

pub returns-clause-whole : goal.returns-clause-whole
returns-clause-whole c = whole_of c.args.instance.now c.args.sheet.now c.ended.result (answered c)

pub returns-clause-small : goal.returns-clause-small
returns-clause-small c = small_of c.args.instance.now c.args.sheet.now c.ended.result c.params-params.ensures.rules (answered c)
