-- The improvements of a search, from its first plan to its last one.
use Rattle.std.specs.Prelude.{◌≡◌, ◌==◌, ℕ, ◌<◌, ◌≤◌, ◌⊎◌, List, [], ◌∷◌, ◌++◌, if◌then◌else◌, IfSome, Option, Some, None, option_map}
use Rattle.glass_base.specs.Problem.{Problem}
use Rattle.cut_model.specs.declared.steps.Step.{Step}
use Rattle.plan_trace.specs.Claims.{IsComplete}
use Rattle.cert_log.specs.Lawful.{trace_loss}
use Rattle.best_board.specs.Improvements.{Found, IsImprovement, with_loss}

-- these are the elements of a list of which this holds, in their order
abbrev pub AreThose : {A : Type 0} → (A → Type 0) → List A → List A → Type 0
AreThose P [] kept = kept ≡ []
AreThose {A} P (x ∷ xs) kept = (P x × ((rest : List A) × (kept ≡ x ∷ rest) × AreThose P xs rest)) ⊎ ((¬ P x) × AreThose P xs kept)

-- a plan of the instance that loses more than the last one, and less than the first, where there is a first
pub record IsBetween (b : Problem) (most : Option ℕ) (least : ℕ) (f : Found) : Type 0 where
  pub improvement : IsImprovement b f
  pub above : least < f.loss
  pub below : IfSome most (λ loss. f.loss < loss)

-- where there is a first plan there is a last one, which loses no more
abbrev pub IsNoWorse : Problem → Option (List Step) → Option (List Step) → Type 0
IsNoWorse b None last = Unit {0}
IsNoWorse b (Some first) None = ⊥
IsNoWorse b (Some first) (Some last) = trace_loss b last ≤ trace_loss b first

-- what the list begins with: the first plan, if there is one
abbrev pub begins : Problem → Option (List Step) → List Found
begins b None = []
begins b (Some first) = with_loss b first ∷ []

-- what it ends with: the last plan, unless it loses as much as the first
abbrev pub ends : Option ℕ → Found → List Found
ends None last = last ∷ []
ends (Some most) last = if last.loss == most then [] else last ∷ []

-- the first plan, those that were kept and lie between, and the last one; without a last plan nothing
abbrev pub Settles : Problem → Option (List Step) → Option (List Step) → List Found → List Found → Type 0
Settles b first None kept list = list ≡ []
Settles b first (Some last) kept list =
    let most = option_map (trace_loss b) first in
    (between : List Found) × AreThose (IsBetween b most (trace_loss b last)) kept between × (list ≡ begins b first ++ (between ++ ends most (with_loss b last)))
