-- What is told of values, one after another.
use Rattle.std.specs.Prelude.{◌≡◌, ℕ, List, Result, IfOk, String}
use Rattle.std.specs.String.{string_bytes}
use Rattle.std.specs.declared.alloc.Global.{Global}
use Rattle.glass_base.specs.declared.memory.Memory.{Memory}

-- a function tells this of each value, unless memory ran out
abbrev pub Tells : {T : Type 0} → (T → Result (String Global) Memory → Type 0) → (T → List ℕ) → Type 0
Tells {T} Returns say = (x : T) (r : Result (String Global) Memory) → Returns x r → IfOk r (λ piece. string_bytes piece ≡ say x)
