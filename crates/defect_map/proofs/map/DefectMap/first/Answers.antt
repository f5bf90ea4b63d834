use Rattle.std.proofs.Common.{sym}
use Rattle.glass_base.specs.Defects.{hits}
use Rattle.defect_map.proofs.ColumnLemmas.{no_first}
use Rattle.defect_map.proofs.map.DefectMap.first.Goals as goal

pub returns-then-not-meets : goal.returns-then-not-meets
returns-then-not-meets c = let a = c.args in no_first (hits a.plate a.x.0 a.y.0 a.x.1 a.y.1) a.self.now (sym c.if-not-meets.ensures)
