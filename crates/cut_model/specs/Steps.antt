-- Lists of steps: the first rule of a trace, and its length.
use Rattle.std.specs.Prelude.{◌≡◌, ℕ, zero, suc, ◌+◌, ◌-◌, ◌≤◌, List, [], ◌∷◌, All, Option, Some, None, IfSome}
use Rattle.glass_base.specs.declared.params.Params.{Params}
use Rattle.glass_base.specs.Plates.{Before}
use Rattle.glass_base.specs.Problem.{Problem}
use Rattle.cut_model.specs.declared.steps.Step.{Step}

-- the number of plates after a step of this kind, where kind 0 begins a plate
abbrev pub plates_after : ℕ → ℕ → ℕ
plates_after zero before = before + 1
plates_after (suc _) before = before

-- the number of plates that the steps begin
abbrev pub plates_begun : List Step → ℕ
plates_begun [] = 0
plates_begun (s ∷ later) = plates_after s.kind (plates_begun later)

abbrev pub first_kind : List Step → Option ℕ
first_kind [] = None
first_kind (s ∷ later) = Some s.kind

-- the first rule of a trace
pub record KeepsKinds (params : Params) (steps : List Step) : Type 0 where
  pub first : IfSome (first_kind steps) (λ kind. kind ≡ 0)
  pub kinds : All (λ s. s.kind ≤ 4) steps
  pub plates : plates_begun steps ≤ params.plates

-- the right side of the last step's strip
abbrev pub last_right : List Step → ℕ
last_right [] = 0
last_right (s ∷ []) = s.b
last_right (s ∷ t ∷ later) = last_right (t ∷ later)

-- the length of a trace that has a step: the widths of the plates before its last one, and the right side of its last strip
abbrev pub length_of : Problem → List Step → ℕ
length_of b steps = Before b (plates_begun steps - 1) + last_right steps
