-- The deques of a list, by what their owners know.
use Rattle.std.specs.Prelude.{List, map}
use Rattle.std.proofs.Common.{Global}
use Rattle.crossbeam_deque.specs.Handles as deques
use Rattle.crossbeam_deque.specs.declared.handles.Worker.{Worker}
use Rattle.plan_box.specs.Ranges.{PlainBox}
use Rattle.box_ring.specs.declared.tally.Tally.{Tally}
use Rattle.box_ring.specs.declared.deque.Counted.{Counted}

-- a deque of boxes under the rule
abbrev pub Boxes : Type 0
Boxes = Worker PlainBox Global Tally Counted

-- what its owner knows of it
abbrev pub view_of : Boxes → Tally
view_of w = deques.worker_view w

-- the same of each
abbrev pub views : List Boxes → List Tally
views ws = map (λ (w : Boxes). view_of w) ws
