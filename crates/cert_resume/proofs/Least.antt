-- The least of losses and bounds.
use Rattle.std.proofs.Common.{◌≡◌, ℕ, List, [], ◌∷◌, refl, ap, ◌∙◌, fold, map, max, Option, Some, None, option_map, arith}
use Rattle.cert_log.specs.Good.{Reaches, lesser}
use Rattle.cert_resume.specs.Joins.{IsAtMost, lesser_of}

pub at_most_itself : (m : Option ℕ) → IsAtMost m m
at_most_itself None = tt
at_most_itself (Some n) = omega arith

lesser_next : (x m : Option ℕ) (n : ℕ) → lesser_of x (lesser m n) ≡ lesser (lesser_of x m) n
lesser_next None None n = refl
lesser_next None (Some m) n = refl
lesser_next (Some k) None n = refl
lesser_next (Some k) (Some m) n = ap Some (omega arith)

least_of_both : (x m : Option ℕ) (bounds : List ℕ) → lesser_of x (fold lesser m bounds) ≡ fold lesser (lesser_of x m) bounds
least_of_both x m [] = refl
least_of_both x m (n ∷ bounds) = least_of_both x (lesser m n) bounds ∙ ap (λ (o : Option ℕ). fold lesser o bounds) (lesser_next x m n)

less_is_least : (x m : Option ℕ) → IsAtMost x m → lesser_of x m ≡ x
less_is_least x None at_most = refl
less_is_least None (Some n) at_most = absurd at_most
less_is_least (Some k) (Some n) at_most = ap Some (omega (arith, at_most))

-- the bounds of a part, where its loss is no less than what is the least so far
least_with : (x m : Option ℕ) (bounds : List ℕ) → IsAtMost x m → lesser_of x (fold lesser m bounds) ≡ fold lesser x bounds
least_with x m bounds at_most = least_of_both x m bounds ∙ ap (λ (o : Option ℕ). fold lesser o bounds) (less_is_least x m at_most)

-- raising to a floor
raised_next : (floor : ℕ) (m : Option ℕ) (n : ℕ) → option_map (max floor) (lesser m n) ≡ lesser (option_map (max floor) m) (max floor n)
raised_next floor None n = refl
raised_next floor (Some m) n = ap Some (omega arith)

raised_least : (floor : ℕ) (m : Option ℕ) (bounds : List ℕ) → option_map (max floor) (fold lesser m bounds) ≡ fold lesser (option_map (max floor) m) (map (max floor) bounds)
raised_least floor m [] = refl
raised_least floor m (n ∷ bounds) = raised_least floor (lesser m n) bounds ∙ ap (λ (o : Option ℕ). fold lesser o (map (max floor) bounds)) (raised_next floor m n)

at_most_raised : (floor : ℕ) (x m : Option ℕ) → IsAtMost x m → IsAtMost x (option_map (max floor) m)
at_most_raised floor x None at_most = at_most
at_most_raised floor None (Some n) at_most = absurd at_most
at_most_raised floor (Some k) (Some n) at_most = omega (arith, at_most)

-- the bounds of a part, each raised to a floor
pub least_raised : (floor : ℕ) (x m : Option ℕ) (bounds : List ℕ) → IsAtMost x m → lesser_of x (option_map (max floor) (fold lesser m bounds)) ≡ fold lesser x (map (max floor) bounds)
least_raised floor x m bounds at_most =
    ap (λ (o : Option ℕ). lesser_of x o) (raised_least floor m bounds) ∙ least_with x (option_map (max floor) m) (map (max floor) bounds) (at_most_raised floor x m at_most)

at_most_lesser : (x m : Option ℕ) (n : ℕ) → IsAtMost x m → IsAtMost (lesser x n) m
at_most_lesser x None n at_most = tt
at_most_lesser None (Some k) n at_most = absurd at_most
at_most_lesser (Some j) (Some k) n at_most = omega (arith, at_most)

pub at_most_least : (x m : Option ℕ) (bounds : List ℕ) → IsAtMost x m → IsAtMost (fold lesser x bounds) m
at_most_least x m [] at_most = at_most
at_most_least x m (n ∷ bounds) at_most = at_most_least (lesser x n) m bounds (at_most_lesser x m n at_most)

-- what reaches a loss reaches a lesser one
pub reaches_less : (m before : Option ℕ) (n : ℕ) → IsAtMost m before → Reaches before n → Reaches m n
reaches_less m None n at_most reaches = absurd reaches
reaches_less None (Some k) n at_most reaches = absurd at_most
reaches_less (Some j) (Some k) n at_most reaches = omega (arith, at_most, reaches)
