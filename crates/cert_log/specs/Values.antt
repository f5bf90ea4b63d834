-- What a field of the first line may say.
use Rattle.std.specs.Prelude.{◌≡◌, ℕ, ◌^◌, ◌<◌, ◌≤◌, Option, IfSome}

-- a number of 64 bits
abbrev pub IsNumber : ℕ → Type 0
IsNumber n = n < 2 ^ 64

-- a loss or a bound
abbrev pub IsLoss : Option ℕ → Type 0
IsLoss loss = IfSome loss IsNumber

-- a version
abbrev pub IsVersionNumber : ℕ → Type 0
IsVersionNumber n = (1 ≤ n) × (n ≤ 3)

-- a floor, which is said from version 3 on
abbrev pub IsFloorOf : ℕ → ℕ → Type 0
IsFloorOf version floor = IsNumber floor × (version < 3 → floor ≡ 0)
