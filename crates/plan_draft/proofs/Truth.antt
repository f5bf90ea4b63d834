-- What a test that is false says.
use Rattle.std.proofs.Common.{◌≡◌, Bool, false, IsTrue}

pub not_true : {b : Bool} → b ≡ false → IsTrue b → ⊥
not_true e h = cc
