use Rattle.std.proofs.Common.{◌∙◌, slice_index_or}
use Rattle.plan_box.specs.Halves.{lower_half, upper_half}
use Rattle.plan_box.specs.Ranges.{Span, full_ranges, span_of}
use Rattle.plan_box.proofs.Freed.{child_is, lower_is, upper_is}
use Rattle.plan_box.proofs.boxes.PlanBox.split_over.Goals as goal

pub returns-clause-lower : goal.returns-clause-lower
returns-clause-lower c =
    let old : Span = span_of c.args.var (slice_index_or c.args.self.ranges c.args.step (full_ranges c.args.self.frame)) in
    c.into_child-lower.ensures
    ∙ child_is lower_half _ c.args.self c.args.step c.args.var c.args.ids.0 (full_ranges c.args.self.frame) c.requires.free
    (lower_is old c.open_range-low.result.0 c.open_range-low.result.1 c.open_range-low.ensures.low c.open_range-low.ensures.high)

pub returns-clause-upper : goal.returns-clause-upper
returns-clause-upper c =
    let old : Span = span_of c.args.var (slice_index_or c.args.self.ranges c.args.step (full_ranges c.args.self.frame)) in
    c.child-upper.ensures
    ∙ child_is upper_half _ c.args.self c.args.step c.args.var c.args.ids.1 (full_ranges c.args.self.frame) c.requires.free
    (upper_is old c.open_range-low.result.0 c.open_range-low.result.1 c.open_range-low.ensures.low c.open_range-low.ensures.high)
