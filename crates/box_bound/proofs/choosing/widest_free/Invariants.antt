use Rattle.std.specs.Prelude.{◌≡◌, IfSome, take}
use Rattle.box_bound.specs.Spans.{IsWidest, span_at}
use Rattle.box_bound.proofs.choosing.widest_free.Given as goal

-- what is found is the widest of the cuts so far, and its span is kept
abbrev pub invariant-loop-cut : goal.invariant-loop-cut
invariant-loop-cut l = IsWidest l.leasts l.bx.ranges (take l.cut-index l.cuts) l.found × IfSome l.found (λ p. l.widest ≡ span_at l.leasts p.0 p.1)
