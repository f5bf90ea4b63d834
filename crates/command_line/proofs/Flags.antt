-- Words that are options without a value.
use Rattle.std.proofs.Common.{◌≡◌, ◌||◌, Bool, List, [], ◌∷◌, map, refl, ap}
use Rattle.std.specs.List.{list_any}

pub list_any_map : {A B : Type 0} (test : B → Bool) (f : A → B) (xs : List A) → list_any test (map f xs) ≡ list_any (λ (x : A). test (f x)) xs
list_any_map test f [] = refl
list_any_map test f (x ∷ xs) = ap (λ (b : Bool). test (f x) || b) (list_any_map test f xs)
