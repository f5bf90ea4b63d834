use Rattle.std.proofs.Common.{rules}
use Rattle.stock_csv.proofs.plates.set_width.Goals as goal

pub returns-then-plate-len : goal.returns-then-plate-len
returns-then-plate-len c = search rules
