use Rattle.std.proofs.Common.{◌≡◌, max, ◌-◌}
use Rattle.defect_map.specs.declared.frame.Region.{Region}
use Rattle.defect_map.specs.inner.Columns.{column_at}
use Rattle.defect_map.proofs.ColumnLemmas.{some_met, reached}
use Rattle.defect_map.proofs.map.DefectMap.meets.Goals as goal

pub returns : goal.returns
returns c =
    let i = c.self.inside in
    let f : Region = record { plate = c.args.plate; x = c.args.x; y = c.args.y } in
    let last : c.column_at-last.result ≡ column_at f.plate (max f.x.0 (f.x.1 - 1)) = rw (c.column_at-last.ensures, c.max.ensures, c.saturating_sub.ensures) in
    rw (← c.self.view_is, c.is_met_among.ensures, c.as_slice-2.ensures)
    (some_met f i.defects.items c.between-columns.result.now
    (reached f i.defects.items i.columns.items c.between-columns.result.now _ _ c.self.invariant.0 c.self.invariant.1 c.column_at-first.ensures last (rw c.as_slice.ensures at c.between-columns.ensures)))
