use Rattle.box_ring.proofs.Keeps.{finds_number}
use Rattle.box_ring.proofs.deque.is_empty.Goals as goal

pub len_as-requires : goal.len_as-requires
len_as-requires c = finds_number _ _
