-- The numbers that a start gives. A state gives the next one, and each state gives one number.
use Rattle.std.specs.Prelude.{ℕ, zero, suc, ◌+◌, ◌*◌, ◌/◌, ◌%◌, ◌^◌}

-- the state behind this one
unfoldable pub next_state : ℕ → ℕ
next_state x = (1664525 * x + 1013904223) % 2 ^ 32

-- the state after so many draws
unfoldable pub state_after : ℕ → ℕ → ℕ
state_after start zero = start
state_after start (suc draws) = next_state (state_after start draws)

-- what a state gives below `n`
unfoldable pub number_of : ℕ → ℕ → ℕ
number_of x n = x / 65536 % n

-- what the draw gives that is the `k`th from this state on, counted from 1, below `n`
unfoldable pub drawn : ℕ → ℕ → ℕ → ℕ
drawn x k n = number_of (state_after x k) n
