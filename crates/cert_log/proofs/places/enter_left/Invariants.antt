use Rattle.std.proofs.Common.{◌≡◌, ◌+◌, length}
use Rattle.cert_log.specs.Lawful.{ids_of}
use Rattle.cert_log.specs.inner.Places.{IsIndexed}
use Rattle.cert_log.proofs.places.enter_left.Given as goal

abbrev pub invariant-loop-place : goal.invariant-loop-place
invariant-loop-place l = record { len : length l.entries.items ≡ length l.fn.entries.items; index : IsIndexed (ids_of l.history) (length l.history.log.items + l.place) l.entries.items }
