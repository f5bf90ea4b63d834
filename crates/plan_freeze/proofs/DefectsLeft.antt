-- What defects forbid on the plates from one of them on.
use Rattle.std.proofs.Common.{◌≡◌, ℕ, ◌+◌, ◌-◌, ◌<◌, ◌≤◌, ◌==◌, ◌&&◌, inl, inr, List, [], ◌∷◌, Bool, true, false, nat_le, nat_lt, sym, ap, subst, ◌∙◌, arith, All, IsTrue}
use Rattle.std.proofs.lemmas.Bool.{cases_Bool, false≢true}
use Rattle.std.proofs.lemmas.Bool.Decides.{nat_tests}
use Rattle.std.proofs.lemmas.List.Elements.{All-cons, All-head, All-nil, All-tail}
use Rattle.glass_base.specs.Defects.{crosses_x, crosses_y, hits}
use Rattle.glass_base.specs.declared.item.Defect.{Defect}
use Rattle.cut_model.specs.declared.family.Along.{Along}
use Rattle.cut_model.specs.declared.family.Row.{Row}
use Rattle.cut_model.specs.Rules.{HasClearBorder, IsSound}
use Rattle.plan_freeze.specs.Rests.{defects_from}
use Rattle.plan_freeze.proofs.Shifted.{shifted_row}

-- a defect whose plate is counted from this one on
abbrev pub lowered : ℕ → Defect → Defect
lowered k d = record d { plate = d.plate - k }

-- none of these defects is in the way on a plate
abbrev None : (ℕ → Defect → Bool) → ℕ → List Defect → Type 0
None test plate defects = All (λ d. ¬ IsTrue (test plate d)) defects

-- a question on a plate is that on its old number
pub record AsksPlate (k : ℕ) (test : ℕ → Defect → Bool) : Type 0 where
  pub same : (plate : ℕ) (d : Defect) → k ≤ d.plate → test (plate + k) d ≡ test plate (lowered k d)
  pub other : (plate : ℕ) (d : Defect) → d.plate < k → test (plate + k) d ≡ false

not_below : (k : ℕ) (d : Defect) → nat_le k d.plate ≡ false → d.plate < k
not_below k d e = grind (arith, nat_tests)

from_there : (k : ℕ) (d : Defect) → nat_le k d.plate ≡ true → k ≤ d.plate
from_there k d e = grind (arith, nat_tests)

pub none_left : (k : ℕ) (test : ℕ → Defect → Bool) (plate : ℕ) (defects : List Defect) → AsksPlate k test → None test (plate + k) defects → None test plate (defects_from k defects)
none_left k test plate [] asks h = All-nil _
none_left k test plate (d ∷ defects) asks h =
    let rest = none_left k test plate defects asks (All-tail (λ (e : Defect). ¬ IsTrue (test (plate + k) e)) d defects h) in
    elim (cases_Bool (nat_le k d.plate)) [
      | inl is ↦
          let here : ¬ IsTrue (test (plate + k) d) = All-head (λ (e : Defect). ¬ IsTrue (test (plate + k) e)) d defects h in
          let moved : ¬ IsTrue (test plate (lowered k d)) = subst (λ (t : Bool). ¬ IsTrue t) (asks.same plate d (from_there k d is)) here in
          rw is (All-cons (λ (e : Defect). ¬ IsTrue (test plate e)) (lowered k d) (defects_from k defects) moved rest)
      | inr isnt ↦ rw isnt rest
    ]

pub none_whole : (k : ℕ) (test : ℕ → Defect → Bool) (plate : ℕ) (defects : List Defect) → AsksPlate k test → None test plate (defects_from k defects) → None test (plate + k) defects
none_whole k test plate [] asks h = All-nil _
none_whole k test plate (d ∷ defects) asks h =
    elim (cases_Bool (nat_le k d.plate)) [
      | inl is ↦
          let all : None test plate (lowered k d ∷ defects_from k defects) = rw is at h in
          let here : ¬ IsTrue (test plate (lowered k d)) = All-head (λ (e : Defect). ¬ IsTrue (test plate e)) (lowered k d) (defects_from k defects) all in
          let moved : ¬ IsTrue (test (plate + k) d) = subst (λ (t : Bool). ¬ IsTrue t) (sym (asks.same plate d (from_there k d is))) here in
          All-cons (λ (e : Defect). ¬ IsTrue (test (plate + k) e)) d defects moved
          (none_whole k test plate defects asks (All-tail (λ (e : Defect). ¬ IsTrue (test plate e)) (lowered k d) (defects_from k defects) all))
      | inr isnt ↦
          let others : None test plate (defects_from k defects) = rw isnt at h in
          let away : ¬ IsTrue (test (plate + k) d) = λ is. false≢true (sym (asks.other plate d (not_below k d isnt)) ∙ is) in
          All-cons (λ (e : Defect). ¬ IsTrue (test (plate + k) e)) d defects away (none_whole k test plate defects asks others)
    ]

same_plate : (k plate : ℕ) (d : Defect) → k ≤ d.plate → (d.plate == (plate + k)) ≡ (d.plate - k == plate)
same_plate k plate d le = grind (arith, nat_tests)

other_plate : (k plate : ℕ) (d : Defect) → d.plate < k → (d.plate == (plate + k)) ≡ false
other_plate k plate d lt = grind (arith, nat_tests)

hits_plate : (k x0 y0 x1 y1 : ℕ) → AsksPlate k (λ plate. hits plate x0 y0 x1 y1)
hits_plate k x0 y0 x1 y1 = record {
  same = λ plate d le. ap (λ (t : Bool). t && nat_lt d.x0 x1 && nat_lt x0 d.x1 && nat_lt d.y0 y1 && nat_lt y0 d.y1) (same_plate k plate d le);
  other = λ plate d lt. ap (λ (t : Bool). t && nat_lt d.x0 x1 && nat_lt x0 d.x1 && nat_lt d.y0 y1 && nat_lt y0 d.y1) (other_plate k plate d lt);
}

crosses_x_plate : (k x y0 y1 : ℕ) → AsksPlate k (λ plate. crosses_x plate x y0 y1)
crosses_x_plate k x y0 y1 = record {
  same = λ plate d le. ap (λ (t : Bool). t && nat_lt d.x0 x && nat_lt x d.x1 && nat_lt d.y0 y1 && nat_lt y0 d.y1) (same_plate k plate d le);
  other = λ plate d lt. ap (λ (t : Bool). t && nat_lt d.x0 x && nat_lt x d.x1 && nat_lt d.y0 y1 && nat_lt y0 d.y1) (other_plate k plate d lt);
}

crosses_y_plate : (k y x0 x1 : ℕ) → AsksPlate k (λ plate. crosses_y plate y x0 x1)
crosses_y_plate k y x0 x1 = record {
  same = λ plate d le. ap (λ (t : Bool). t && nat_lt d.y0 y && nat_lt y d.y1 && nat_lt d.x0 x1 && nat_lt x0 d.x1) (same_plate k plate d le);
  other = λ plate d lt. ap (λ (t : Bool). t && nat_lt d.y0 y && nat_lt y d.y1 && nat_lt d.x0 x1 && nat_lt x0 d.x1) (other_plate k plate d lt);
}

-- the inside of a row
pub sound_left : (k n : ℕ) (defects : List Defect) (r : Row) → IsSound defects (shifted_row k n r) → IsSound (defects_from k defects) r
sound_left k n defects r h wide high = none_left k (λ plate. hits plate r.x r.y (r.x + r.width) (r.y + r.height)) r.plate defects (hits_plate k r.x r.y (r.x + r.width) (r.y + r.height)) (h wide high)

pub sound_whole : (k n : ℕ) (defects : List Defect) (r : Row) → IsSound (defects_from k defects) r → IsSound defects (shifted_row k n r)
sound_whole k n defects r h wide high = none_whole k (λ plate. hits plate r.x r.y (r.x + r.width) (r.y + r.height)) r.plate defects (hits_plate k r.x r.y (r.x + r.width) (r.y + r.height)) (h wide high)

-- the border before a row
pub border_left : (k n : ℕ) (defects : List Defect) (along : Along) (r : Row) → HasClearBorder defects along (shifted_row k n r) → HasClearBorder (defects_from k defects) along r
border_left k n defects Along.Plates r h = tt
border_left k n defects Along.X r h = λ high. none_left k (λ plate. crosses_x plate r.x r.y (r.y + r.height)) r.plate defects (crosses_x_plate k r.x r.y (r.y + r.height)) (h high)
border_left k n defects Along.Y r h = λ wide. none_left k (λ plate. crosses_y plate r.y r.x (r.x + r.width)) r.plate defects (crosses_y_plate k r.y r.x (r.x + r.width)) (h wide)

pub border_whole : (k n : ℕ) (defects : List Defect) (along : Along) (r : Row) → HasClearBorder (defects_from k defects) along r → HasClearBorder defects along (shifted_row k n r)
border_whole k n defects Along.Plates r h = tt
border_whole k n defects Along.X r h = λ high. none_whole k (λ plate. crosses_x plate r.x r.y (r.y + r.height)) r.plate defects (crosses_x_plate k r.x r.y (r.y + r.height)) (h high)
border_whole k n defects Along.Y r h = λ wide. none_whole k (λ plate. crosses_y plate r.y r.x (r.x + r.width)) r.plate defects (crosses_y_plate k r.y r.x (r.x + r.width)) (h wide)
