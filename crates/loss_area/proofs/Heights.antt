-- How much glass a length can be.
use Rattle.std.proofs.Common.{ℕ, ◌*◌, ◌≤◌, arith}
use Rattle.std.proofs.Math.Nat.{mul-le-mul_right}
use Rattle.glass_base.specs.declared.params.Params.{Params}

-- a plate's height times a length that a bound may have is a number of 64 bits
pub height_times : (params : Params) (n : ℕ) → n ≤ 810000000000000 → params.height * n ≤ 16200000000000000000
height_times params n small = omega (arith, mul-le-mul_right n params.accepted.height_limit)
