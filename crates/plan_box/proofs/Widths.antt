-- What the proofs on boxes need of the widths of plates.
use Rattle.std.proofs.Common.{◌≡◌, ℕ, zero, suc, ◌+◌, ◌<◌, ◌≤◌, inl, inr, arith, ap, ◌∙◌}
use Rattle.std.proofs.lemmas.Bool.{cases_lt}
use Rattle.glass_base.specs.Plates.{Before, Width}
use Rattle.glass_base.specs.Problem.{Problem}
use Rattle.glass_base.proofs.PlateLemmas.{before-next}

-- the plate after another begins where that one ends
pub before_after : (b : Problem) (plate next : ℕ) → next ≡ suc plate → Before b next ≡ Before b plate + Width b plate
before_after b plate next e = let more : next ≡ plate + 1 = omega (arith, e) in ap (Before b) more ∙ before-next b plate

-- a plate ends where each later one begins, or before
pub before_later : (b : Problem) (plate later : ℕ) → plate < later → Before b plate + Width b plate ≤ Before b later
before_later b plate zero lt = absurd (omega (arith, lt))
before_later b plate (suc later) lt =
    elim (cases_lt plate later) [
      | inl less ↦ omega (arith, before_later b plate later less, before_after b later (suc later) (omega arith))
      | inr more ↦ omega (arith, before_after b plate (suc later) (omega (arith, lt, more)))
    ]

-- a place on one plate
pub same_before : (b : Problem) (plate there : ℕ) → plate ≡ there → Before b plate ≡ Before b there
same_before b plate there e = ap (Before b) e
