use Rattle.std.proofs.Common.{arith}
use Rattle.std.proofs.lemmas.Map.Text.{text_keys}
use Rattle.glass_io.proofs.memory.put.Goals as goal

pub returns-clause-stored : goal.returns-clause-stored
returns-clause-stored c = record {
  stored = grind (arith, text_keys);
  others = λ other differs. grind (arith, text_keys);
}
