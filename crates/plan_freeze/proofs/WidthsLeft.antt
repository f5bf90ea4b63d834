-- The widths of the plates that are left.
use Rattle.std.proofs.Common.{◌≡◌, ℕ, ◌+◌, ◌-◌, ◌<◌, ◌≤◌, ◌⊎◌, inl, inr, List, length, sym, subst, ◌∙◌, arith}
use Rattle.std.proofs.Math.ListN.{get_or-eq_default}
use Rattle.std.proofs.lemmas.List.{get_or_default}
use Rattle.glass_base.specs.Plates.{Width}
use Rattle.glass_base.specs.Problem.{Problem, IsProblem}
use Rattle.glass_base.specs.Widths.{AreWidths, IsWidth}
use Rattle.glass_base.specs.declared.params.Params.{Params}
use Rattle.glass_base.proofs.PlateLemmas.{width_within}
use Rattle.plan_freeze.specs.inner.Widths.{AreWidthsFrom}

below_or_not : (m n : ℕ) → (m < n) ⊎ (n ≤ m)
below_or_not m n = grind arith

-- they are widths of plates
pub widths_left : (b : Problem) (k : ℕ) (params : Params) (widths : List ℕ) → IsProblem b → AreWidthsFrom b k widths → params.plates ≡ b.params.plates - k → AreWidths params widths
widths_left b k params widths rules h many = record {
  many = h.many ∙ sym many;
  each = λ i d lt. subst IsWidth (sym (get_or_default widths i d 0 lt ∙ h.each i lt)) (width_within b (i + k) rules);
}

-- each plate that is left has its old width
pub width_left : (b rest : Problem) (k : ℕ) → IsProblem b → k ≤ b.params.plates → AreWidthsFrom b k rest.widths → rest.params.width ≡ b.params.width → (plate : ℕ) → Width rest plate ≡ Width b (plate + k)
unfolding Width
width_left b rest k rules le h wide plate =
    elim (below_or_not plate (length rest.widths)) [
      | inl lt ↦ get_or_default rest.widths plate rest.params.width 0 lt ∙ h.each plate lt
      | inr past ↦
          get_or-eq_default rest.widths rest.params.width {n = plate} past ∙ wide
          ∙ sym (get_or-eq_default b.widths b.params.width {n = plate + k} (omega (arith, past, h.many, rules.widths.many, le)))
    ]
