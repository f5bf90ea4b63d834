-- Boxes are taken until none is left.
use Rattle.std.proofs.Common.{◌≡◌, ℕ, ◌-◌, ◌<◌, List, [], ◌∷◌, ◌++◌, ap, sym, subst, arith, All, append-nil}
use Rattle.std.proofs.lemmas.List.Elements.{All-push}
use Rattle.std.proofs.lemmas.List.Sums.{sum_by-cons, sum_by-append, sum_by_push}
use Rattle.std.specs.Prelude.{sum_by}
use Rattle.plan_box.specs.declared.frame.Frame.{Frame}
use Rattle.plan_box.specs.Ranges.{PlainBox}
use Rattle.box_ring.specs.declared.tally.Tally.{Tally}
use Rattle.box_ring.specs.Gathers.{all_put, all_taken, IsLeft, AllFramed, Drains}

-- how many boxes are left
abbrev pub remaining : List Tally → ℕ
remaining ts = all_put (λ (_ : PlainBox). 1) ts - all_taken (λ (_ : PlainBox). 1) ts

pub fewer : (old new : List Tally) (x : PlainBox) → Drains x old new → remaining new < remaining old
fewer old new x d =
    let s = d.some in let a = s.1 (λ (_ : PlainBox). 1) in let c = d.left s.0 s.1 (λ (_ : PlainBox). 1) in let e = sum_by-cons (λ (_ : PlainBox). 1) x s.0 in omega arith

-- these were taken: what is left now was left at first beside them
abbrev pub AreDrained : List Tally → List Tally → List PlainBox → Type 0
AreDrained first now xs = (ys : List PlainBox) → IsLeft now ys → IsLeft first (xs ++ ys)

pub drained_more : (first old new : List Tally) (xs zs : List PlainBox) (x : PlainBox) → zs ≡ xs ++ x ∷ [] → Drains x old new → AreDrained first old xs → AreDrained first new zs
drained_more first old new xs zs x e d r ys left h =
    let a = r (x ∷ ys) (d.left ys left) h in let c = sum_by-append h xs (x ∷ ys) in let k = sum_by-cons h x ys in
    let m = ap (λ (l : List PlainBox). sum_by h (l ++ ys)) e in let n = sum_by-append h (xs ++ x ∷ []) ys in let o = sum_by_push h xs x in omega arith

pub drained_all : (first now : List Tally) (xs : List PlainBox) → IsLeft now [] → AreDrained first now xs → IsLeft first xs
drained_all first now xs none r = subst (IsLeft first) (append-nil xs) (r [] none)

pub frames_more : (f : Frame) (old new : List Tally) (xs zs : List PlainBox) (x : PlainBox) → zs ≡ xs ++ x ∷ [] → Drains x old new → All (λ (y : PlainBox). y.frame ≡ f) xs × AllFramed f old
    → All (λ (y : PlainBox). y.frame ≡ f) zs × AllFramed f new
frames_more f old new xs zs x e d r =
    let q = d.frame f r.1 in (subst (All (λ (y : PlainBox). y.frame ≡ f)) (sym e) (All-push (λ (y : PlainBox). y.frame ≡ f) xs x r.0 q.0), q.1)
