-- What no element of a list passes.
use Rattle.std.proofs.Common.{◌≡◌, ◌↔◌, Bool, true, false, not, IsTrue, List, All, refl, ap, ◌∙◌}
use Rattle.std.specs.List.{list_any}
use Rattle.std.proofs.lemmas.List.Folds.{list_any_at, Any-from_list_any}

-- no element passes a test
pub none_passes : {A : Type 0} (p : A → Bool) (xs : List A) → IsTrue (not (list_any p xs)) ↔ All (λ x. ¬ IsTrue (p x)) xs
none_passes p xs = (to, from)
  where
    to : IsTrue (not (list_any p xs)) → All (λ x. ¬ IsTrue (p x)) xs
    to h k d lt hit = by (list_any p xs) (list_any_at p xs k d lt hit) h
      where
        by : (b : Bool) → b ≡ true → IsTrue (not b) → ⊥
        by true e h = cc
        by false e h = cc

    from : All (λ x. ¬ IsTrue (p x)) xs → IsTrue (not (list_any p xs))
    from none = by (list_any p xs) refl
      where
        by : (b : Bool) → list_any p xs ≡ b → IsTrue (not b)
        by false e = refl
        by true e = let found = Any-from_list_any p xs e in absurd (none found.0 found.1 found.2 (ap p found.3 ∙ found.4))
