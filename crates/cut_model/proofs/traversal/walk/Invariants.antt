use Rattle.std.proofs.Common.{◌≡◌, ◌+◌, drop, length}
use Rattle.cut_model.specs.Families.{families_of}
use Rattle.cut_model.specs.Sized.{on_plates, sized}
use Rattle.cut_model.specs.Tree.{count, plates_of, tree}
use Rattle.cut_model.proofs.Walks.{OnStock, Walking}
use Rattle.cut_model.proofs.traversal.walk.Given as goal

abbrev pub invariant-loop-place : goal.invariant-loop-place
invariant-loop-place g l =
    let left = sized l.instance l.place (plates_of (drop l.place l.plan.plates.items)) in
    record {
      walking : Walking g.V.Visitor.has_seen l.initial.visitor l.visitor (families_of l.instance (tree l.plan)) (0 + count (on_plates l.instance (tree l.plan))) l.at l.first l.node left;
      within : OnStock l.node l.at left;
      number : l.last ≡ length l.plan.plates.items;
    }
