use Rattle.cut_sheet.proofs.Lying.{some_text}
use Rattle.cut_sheet.proofs.SoFar.{so_far_more}
use Rattle.cut_sheet.proofs.reading.read_sheet.Goals as goal

pub returns-in_default-next_instr : goal.returns-in_default-next_instr
returns-in_default-next_instr c =
    let so = c.loop-rest.invariant in
    record {
      sheet = c.loop-rest.sheet.items;
      rest = c.loop-rest.rest.now;
      writable = so.writable;
      text_is = so.text_is;
      some = some_text c.loop-rest.rest.now c.is_empty.result c.is_empty.ensures c.loop-rest-test.true;
      none = c.in_default-next_instr.ensures;
      line_is = so.line_is;
    }

pub loop-rest-preserved : goal.loop-rest-preserved
loop-rest-preserved c =
    so_far_more c.args.bytes.now c.loop-rest.sheet.items c.append.new.run.items c.loop-rest.rest.now c.in-Some-next_instr.behind.now c.loop-rest.line c.in-Some-next_instr.instr c.in-Some-next_instr.ensures.0
    c.in-Some-next_instr.ensures.1 c.in_ok-append.ensures.ok c.loop-rest.invariant
