-- A word that does not begin with the front of an option of a role is no such option.
use Rattle.std.proofs.Common.{◌≡◌, ℕ, List, ◌++◌, Bool, false, ◌&&◌, cond, length, take, drop, refl, sym, subst, ap, ◌∙◌, inl, inr, Option, None}
use Rattle.std.specs.Str.{bytes_eq}
use Rattle.std.specs.Str.Pattern.{LacksTextAt}
use Rattle.std.proofs.lemmas.Bool.{cases_Bool}
use Rattle.std.proofs.lemmas.List.{take-append-drop}
use Rattle.std.proofs.lemmas.Slice.Eq.{bytes_eq-Decides}
use Rattle.glass_base.specs.declared.role.Role.{Role}
use Rattle.command_line.specs.Words.{option_front, option_name}

pub front_differs : (front word : List ℕ) → LacksTextAt front word 0 → bytes_eq (take (length front) word) front ≡ false
front_differs front word lacks = elim (cases_Bool (bytes_eq (take (length front) word) front)) [
  | inl is ↦
      let same : take (length front) word ≡ front = (bytes_eq-Decides (take (length front) word) front).0 is in
      absurd (lacks (drop (length front) word) (sym (take-append-drop (length front) word) ∙ ap (λ xs. xs ++ drop (length front) word) same))
  | inr isnt ↦ isnt
]

none_unless : {X : Type 0} (test more : Bool) (found : Option X) → test ≡ false → cond (test && more) found None ≡ None
none_unless test more found e = rw e refl

pub no_option : (of : Role) (front word : List ℕ) → front ≡ option_front of → LacksTextAt front word 0 → option_name of word ≡ None
no_option of front word e lacks =
    let P : List ℕ → Type 0 = λ f. LacksTextAt f word 0 in
    none_unless _ _ _ (front_differs (option_front of) word (subst P e lacks))
