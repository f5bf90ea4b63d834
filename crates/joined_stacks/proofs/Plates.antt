-- The widths of plates, one by one.
use Rattle.std.proofs.Common.{◌≡◌, ℕ, ◌+◌, ◌<◌, List, [], ◌∷◌, ◌++◌, take, sym, ◌∙◌, ap, arith}
use Rattle.std.proofs.lemmas.List.{take_more}
use Rattle.glass_base.specs.Plates.{Width}
use Rattle.glass_base.specs.Problem.{Problem, IsProblem}

-- one plate more
pub widths_more : (b : Problem) (plate width : ℕ) (before behind : List ℕ) → IsProblem b → plate < b.params.plates → width ≡ Width b plate → before ≡ take plate b.widths → behind ≡ before ++ width ∷ [] → behind ≡ take (plate + 1) b.widths
unfolding Width
widths_more b plate width before behind rules lt is old more =
    let next = take_more b.widths plate b.params.width (omega (arith, rules.widths.many)) in
    more ∙ ap (λ (xs : List ℕ). xs ++ width ∷ []) old ∙ ap (λ (w : ℕ). take plate b.widths ++ w ∷ []) is ∙ sym next
