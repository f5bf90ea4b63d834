use Rattle.std.proofs.Common.{◌≡◌, length}
use Rattle.cert_log.specs.Lawful.{ids_of}
use Rattle.cert_log.specs.inner.Places.{IsIndexed}
use Rattle.cert_log.proofs.places.enter_notes.Given as goal

abbrev pub invariant-loop-place : goal.invariant-loop-place
invariant-loop-place l = record { len : length l.entries.items ≡ length l.fn.entries.items; index : IsIndexed (ids_of l.history) l.place l.entries.items }
