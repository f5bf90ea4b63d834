-- The last step keeps its own values.
use Rattle.std.proofs.Common.{◌≡◌, ℕ, List, [], ◌∷◌, max, refl, arith}
use Rattle.plan_box.specs.Leasts.{Fixed, fixed, Known, last_known, settle}

pub max_none : (n : ℕ) → max n 0 ≡ n
max_none n = omega arith

pub settled_last : (k : Known) (ks : List Fixed) → last_known k (settle ks) ≡ last_known k ks
settled_last k [] = refl
settled_last k (fixed l j ∷ []) = refl
settled_last k (fixed l j ∷ fixed m i ∷ ks) = settled_last j (fixed m i ∷ ks)
