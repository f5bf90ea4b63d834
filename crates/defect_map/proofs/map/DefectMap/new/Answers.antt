use Rattle.std.proofs.Common.{◌≡◌, rules}
use Rattle.defect_map.proofs.map.DefectMap.new.Goals as goal

pub invariant_of-result : goal.invariant_of-result
invariant_of-result c =
    let same : c.extend_from_slice.new.self.items ≡ c.args.instance.now.defects = search rules in
    rw (same) (c.defects.ensures.rules.defects_in_range, rw c.defects-3.ensures.value at c.in_ok-columns.ensures)
