-- Words that set a count.
use Rattle.std.proofs.Common.{◌≡◌, List, Bool, false, cond, refl, subst, ℕ, Option, None}
use Rattle.std.specs.Str.Pattern.{LacksTextAt}
use Rattle.command_line.specs.Words.{count_value, setting_of}
use Rattle.command_line.specs.declared.kinds.Count.{Count}
use Rattle.command_line.proofs.Prefixes.{front_differs}

no_value : {X : Type 0} (test : Bool) (found : Option X) → test ≡ false → None ≡ cond test found None
no_value test found e = rw e refl

-- a word that does not begin with the front of a count's option sets no such count
pub sets_none : (of : Count) (front word : List ℕ) → front ≡ (setting_of of).front → LacksTextAt front word 0 → None ≡ count_value of word
sets_none of front word e lacks =
    let P : List ℕ → Type 0 = λ f. LacksTextAt f word 0 in
    no_value _ _ (front_differs (setting_of of).front word (subst P e lacks))
