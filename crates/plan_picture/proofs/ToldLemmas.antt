-- What elements tell behind others.
use Rattle.std.proofs.Common.{◌≡◌, List, [], ◌∷◌, ◌++◌, Result, Ok, Err, OnOk, refl, ◌∙◌, ap}
use Rattle.plan_picture.specs.declared.mark.Mark.{Mark}
use Rattle.plan_picture.specs.Told.{Told, tell, tell_all, told, untold}

tell_all-append : (t : Told) (xs ys : List Mark) → tell_all t (xs ++ ys) ≡ tell_all (tell_all t xs) ys
tell_all-append t [] ys = refl
tell_all-append t (m ∷ xs) ys = tell_all-append (tell t m) xs ys

-- an element was added, unless memory ran out
pub told_more : {E : Type 0} (xs ys : List Mark) (m : Mark) (r : Result Unit E) → OnOk r (ys ≡ xs ++ m ∷ []) → OnOk r (told ys ≡ tell (told xs) m)
told_more xs ys m (Ok _) ok = ap told ok ∙ tell_all-append untold xs (m ∷ [])
told_more xs ys m (Err _) ok = ok
