-- The pieces on the table lie on their plates.
use Rattle.std.proofs.Common.{◌≡◌, ◌≢◌, ℕ, ◌+◌, ◌<◌, ◌≤◌, ◌==◌, List, [], ◌∷◌, length, Bool, true, false, cond, refl, sym, ap, subst, ◌∙◌, arith, Err, IsTrue}
use Rattle.std.specs.Prelude.{◌-◌, reverse}
use Rattle.std.proofs.lemmas.List.{reverse-reverse}
use Rattle.glass_base.specs.Problem.{Problem}
use Rattle.cut_sheet.specs.declared.piece.Piece.{Piece}
use Rattle.cut_sheet.specs.declared.why.Why.{Why}
use Rattle.cut_sheet.specs.Pieces.{IsOnPlate, cut_off, is_upright, side_cut, without}
use Rattle.cut_sheet.specs.Table.{Table, load}

-- so does a part that is cut off
pub cut_off_lies : (size : ℕ) (p : Piece) → IsOnPlate p → p.level < 4 → size ≤ side_cut p → IsOnPlate (cut_off size p)
cut_off_lies size p lies shallow few = by (is_upright p.level) few
  where
    by : (upright : Bool) → size ≤ cond upright p.width p.height → IsOnPlate (cond upright (record p { width = size; level = p.level + 1; begun = false }) (record p { height = size; level = p.level + 1; begun = false }))
    by true few = record { right = omega (arith, lies.right); top = lies.top; level = omega arith }
    by false few = record { right = lies.right; top = omega (arith, lies.top); level = omega arith }

-- and what is left
pub without_lies : (size : ℕ) (p : Piece) → IsOnPlate p → size ≤ side_cut p → IsOnPlate (without size p)
without_lies size p lies few = by (is_upright p.level) few
  where
    by : (upright : Bool) → size ≤ cond upright p.width p.height →
        IsOnPlate (cond upright (record p { x = p.x + size; width = p.width - size; begun = true }) (record p { y = p.y + size; height = p.height - size; begun = true }))
    by true few = record { right = omega (arith, lies.right); top = lies.top; level = lies.level }
    by false few = record { right = lies.right; top = omega (arith, lies.top); level = lies.level }

-- a table is bare where its list of pieces is empty
pub none_reversed : {A : Type 0} (xs : List A) → reverse xs ≡ [] → xs ≡ []
none_reversed xs is = sym (reverse-reverse xs) ∙ ap reverse is

-- no plate is put on a piece
pub load_stuck : (b : Problem) (plate : ℕ) (t : Table) (pile : List Piece) → (pile ≡ [] → ⊥) → load b plate t pile ≡ Err Why.Loaded
load_stuck b plate t [] some = absurd (some refl)
load_stuck b plate t (p ∷ pile) some = refl

pub no_true : (b : Bool) → IsTrue b → b ≡ false → ⊥
no_true b is isnt = grind (arith, is, isnt)

-- a text that is not empty
pub some_text : (text : List ℕ) (test : Bool) → test ≡ (length text == 0) → test ≡ false → text ≡ [] → ⊥
some_text text test is isnt none =
    let h : test ≡ (0 == 0) = is ∙ ap (λ (t : List ℕ). length t == 0) none in
    let g : test ≡ true = h in
    cc
