-- How many tickets a seat must be free to draw, so that the seats that are split off it are free to draw enough.
use Rattle.std.specs.Prelude.{ℕ, zero, suc, ◌*◌}

-- a seat that is free to draw so many can be halved so often, and each half is free to draw more than 10,000,000
abbrev pub enough_for : ℕ → ℕ
enough_for zero = 10000001
enough_for (suc n) = 2 * enough_for n
