-- Gaps that add up.
use Rattle.std.proofs.Common.{◌≡◌, ℕ, ◌+◌, ◌-◌, inl, inr, arith}
use Rattle.plan_trace.specs.TraceRules.{Gap}

-- a gap, and what lies behind it
pub gap_then : (waste from at more to : ℕ) → Gap waste from at → Gap waste (at + more) to → Gap waste (from + more) to
gap_then waste from at more to (inl e) (inl r) = inl (omega (arith, e, r))
gap_then waste from at more to (inl e) (inr r) = inr (omega (arith, e, r))
gap_then waste from at more to (inr e) (inl r) = inr (omega (arith, e, r))
gap_then waste from at more to (inr e) (inr r) = inr (omega (arith, e, r))

-- a gap, told from another place on
pub gap_from : (waste start size to : ℕ) → Gap waste (start + size) to → Gap waste size (to - start)
gap_from waste start size to (inl e) = inl (omega (arith, e))
gap_from waste start size to (inr e) = inr (omega (arith, e))

pub gap_same : (waste from at to : ℕ) → from ≡ at → Gap waste from to → Gap waste at to
gap_same waste from at to same (inl e) = inl (omega (arith, same, e))
gap_same waste from at to same (inr e) = inr (omega (arith, same, e))
