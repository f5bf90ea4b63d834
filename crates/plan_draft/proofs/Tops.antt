-- The upper sides of bands: the least one decides.
use Rattle.std.proofs.Common.{◌≡◌, ℕ, ◌+◌, ◌≤◌, ◌⊎◌, inl, inr, true, List, Option, Some, None, MatchOption, max, sym, subst, arith}
use Rattle.std.proofs.lemmas.Bool.{cases_lt}
use Rattle.std.proofs.lemmas.Bool.Decides.{nat_tests}
use Rattle.glass_base.specs.declared.item.Defect.{Defect}
use Rattle.glass_base.specs.Defects.{crosses_x, crosses_y}
use Rattle.glass_base.specs.Problem.{Problem}
use Rattle.defect_map.specs.Queries.{CrossesNoneX, CrossesNoneY}
use Rattle.plan_draft.specs.inner.Least.{HasNone, IsLeast}
use Rattle.plan_draft.specs.inner.Places.{IsBeside, IsOver, IsTop, IsTopOf}

-- a shorter line is crossed by no more defects
within_x : (plate x y0 top high : ℕ) (d : Defect) → crosses_x plate x y0 top d ≡ true → top ≤ high → crosses_x plate x y0 high d ≡ true
within_x plate x y0 top high d hit le = grind (arith, nat_tests)

pub shorter_x : (defects : List Defect) (plate x y0 top high : ℕ) → top ≤ high → CrossesNoneX defects plate x y0 high → CrossesNoneX defects plate x y0 top
shorter_x defects plate x y0 top high le none k d lt hit = none k d lt (within_x plate x y0 top high _ hit le)

within_y : (plate y x0 right far : ℕ) (d : Defect) → crosses_y plate y x0 right d ≡ true → right ≤ far → crosses_y plate y x0 far d ≡ true
within_y plate y x0 right far d hit le = grind (arith, nat_tests)

pub shorter_y : (defects : List Defect) (plate y x0 right far : ℕ) → right ≤ far → CrossesNoneY defects plate y x0 far → CrossesNoneY defects plate y x0 right
shorter_y defects plate y x0 right far le none k d lt hit = none k d lt (within_y plate y x0 right far _ hit le)

-- a higher band has a longer line beside its item
pub beside_lower : (b : Problem) (plate a right w c top high : ℕ) → top ≤ high → IsBeside b plate a right w c high → IsBeside b plate a right w c top
beside_lower b plate a right w c top high le (inl e) = inl e
beside_lower b plate a right w c top high le (inr none) = inr (shorter_x b.defects plate (a + w) c top high le none)

-- the least side of a band with a waste over the item
pub over_least : (b : Problem) (plate a right w h c least top : ℕ) → least ≡ c + max b.params.min2 (h + b.params.waste) → IsLeast (IsTop b plate a right) least top → b.params.waste ≤ w →
    CrossesNoneY b.defects plate (c + h) a (a + w) → IsBeside b plate a right w c top → IsLeast (IsOver b plate a right w h c) 0 top
over_least b plate a right w h c least top is h' wide line beside = record {
  behind = omega arith;
  holds = record { tall = omega (arith, is, h'.behind); top = h'.holds; rest = omega (arith, is, h'.behind); wide = wide; line = line; beside = beside };
  none_before = λ m le lt over. h'.none_before m (omega (arith, is, over.tall, over.rest)) lt over.top;
}

-- where the line beside the item is too long already at the least side, there is none
pub over_none : (b : Problem) (plate a right w h c least top : ℕ) → least ≡ c + max b.params.min2 (h + b.params.waste) → IsLeast (IsTop b plate a right) least top →
    ¬ IsBeside b plate a right w c top → HasNone (IsOver b plate a right w h c) 0
over_none b plate a right w h c least top is h' beside m le over =
    elim (cases_lt m top) [
      | inl lt ↦ h'.none_before m (omega (arith, is, over.tall, over.rest)) lt over.top
      | inr more ↦ beside (beside_lower b plate a right w c top m more over.beside)
    ]

-- a band that its item does not fill leaves a waste
over_of : (b : Problem) (plate a right w h c d : ℕ) → ¬ IsTopOf b plate a right w h c (c + h) → IsTopOf b plate a right w h c d → IsOver b plate a right w h c d
over_of b plate a right w h c d fills t = by t.under
  where
    by : (c + h ≡ d) ⊎ ((c + h + b.params.waste ≤ d) × (b.params.waste ≤ w) × CrossesNoneY b.defects plate (c + h) a (a + w)) → IsOver b plate a right w h c d
    by (inl e) = absurd (fills (subst (IsTopOf b plate a right w h c) (sym e) t))
    by (inr u) = record { tall = t.tall; top = t.top; rest = u.0; wide = u.1; line = u.2; beside = t.beside }

top_over_is : (b : Problem) (plate a right w h c d : ℕ) → IsOver b plate a right w h c d → IsTopOf b plate a right w h c d
top_over_is b plate a right w h c d o = record { tall = o.tall; top = o.top; under = inr (o.rest, o.wide, o.line); beside = o.beside }

pub tops_over : (b : Problem) (plate a right w h c : ℕ) (found : Option ℕ) → ¬ IsTopOf b plate a right w h c (c + h) →
    MatchOption found (HasNone (IsOver b plate a right w h c) 0) (IsLeast (IsOver b plate a right w h c) 0) →
    MatchOption found (HasNone (IsTopOf b plate a right w h c) 0) (IsLeast (IsTopOf b plate a right w h c) 0)
tops_over b plate a right w h c None fills none = λ m le t. none m le (over_of b plate a right w h c m fills t)
tops_over b plate a right w h c (Some d) fills least = record {
  behind = least.behind;
  holds = top_over_is b plate a right w h c d least.holds;
  none_before = λ m le lt t. least.none_before m le lt (over_of b plate a right w h c m fills t);
}
