-- What is told of each value of a list, up to one of them and with it.
use Rattle.std.proofs.Common.{◌≡◌, ◌++◌, ◌+◌, ◌<◌, ℕ, List, ◌∷◌, [], length, take, get_or, sym, ap, ◌∙◌}
use Rattle.std.specs.List.{flat_map}
use Rattle.std.proofs.lemmas.List.{take_more, flat_map_more}

pub told_next : {T : Type 0} (say : T → List ℕ) (before text piece : List ℕ) (xs : List T) (i : ℕ) (x : T) → i < length xs → x ≡ get_or xs i x → text ≡ before ++ flat_map say (take i xs) →
    piece ≡ say x → text ++ piece ≡ before ++ flat_map say (take (i + 1) xs)
told_next say before text piece xs i x lt is h p =
    ap (λ t. t ++ piece) h ∙ ap (λ p. (before ++ flat_map say (take i xs)) ++ p) p ∙ flat_map_more say before (take i xs) x
    ∙ ap (λ ys. before ++ flat_map say ys) (ap (λ y. take i xs ++ y ∷ []) is ∙ sym (take_more xs i x lt))
