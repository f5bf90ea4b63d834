-- The files that a line reads, listed role by role.
use Rattle.std.proofs.Common.{◌≡◌, ℕ, ◌+◌, ◌<◌, List, [], ◌++◌, length, take, get_or, refl, ap, Option, Some, None, option_to_list}
use Rattle.std.specs.List.{cons_option, filter_map}
use Rattle.std.proofs.lemmas.List.{take_more}
use Rattle.std.proofs.lemmas.List.Elements.{filter_map-append}

cons_none : {X : Type 0} (found : Option X) → cons_option found [] ≡ option_to_list found
cons_none None = refl
cons_none (Some x) = refl

-- one more element of a list
pub filter_map_more : {X Y : Type 0} (h : X → Option Y) (xs : List X) (i : ℕ) (d : X) → i < length xs →
    filter_map h (take (i + 1) xs) ≡ filter_map h (take i xs) ++ option_to_list (h (get_or xs i d))
filter_map_more h xs i d within = rw (take_more xs i d within, filter_map-append) (ap (λ ys. filter_map h (take i xs) ++ ys) (cons_none (h (get_or xs i d))))
