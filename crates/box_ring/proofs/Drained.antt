-- Lists of whole passes: what is left of their deques.
use Rattle.std.proofs.Common.{◌≡◌, ℕ, ◌+◌, List, [], ◌∷◌, ◌++◌, sym, refl, ap, ◌∙◌, subst, arith}
use Rattle.std.specs.Prelude.{sum_by}
use mathlib.Core.List.{map-append}
use Rattle.std.proofs.lemmas.List.Sums.{sum_by-append, sum_by-cons}
use Rattle.plan_box.specs.declared.frame.Frame.{Frame}
use Rattle.plan_box.specs.Ranges.{PlainBox}
use Rattle.box_ring.specs.declared.tally.Tally.{Tally}
use Rattle.box_ring.specs.Tallies.{IsWhole, HasRest, AllWhole, FoundFew}
use Rattle.box_ring.specs.Gathers.{IsLeft, IsFramed, AllFramed, Drains}
use Rattle.box_ring.specs.inner.Rule.{TakeThen}
use Rattle.box_ring.specs.inner.Deques.{Boxes, view_of, views}
use Rattle.shared_best.proofs.Views.{empty_of_length}

-- the tallies of deques, of which the last one stands by itself
pub views_snoc : (all ws : List Boxes) (w : Boxes) → all ≡ ws ++ w ∷ [] → views all ≡ views ws ++ view_of w ∷ []
views_snoc all ws w e = ap views e ∙ map-append (λ (k : Boxes). view_of k) ws (w ∷ [])

-- sums over tallies, of which the last one stands by itself
pub sum_snoc : (f : Tally → List PlainBox) (h : PlainBox → ℕ) (all ts : List Tally) (t : Tally) → all ≡ ts ++ t ∷ []
    → sum_by (λ (v : Tally). sum_by h (f v)) all ≡ sum_by (λ (v : Tally). sum_by h (f v)) ts + sum_by h (f t)
sum_snoc f h all ts t e =
    let g : Tally → ℕ = λ v. sum_by h (f v) in
    let a = ap (sum_by g) e in let b = sum_by-append g ts (t ∷ []) in let c = sum_by-cons g t [] in omega arith

pub whole_add : (all ts : List Tally) (t : Tally) → all ≡ ts ++ t ∷ [] → AllWhole ts → IsWhole t → HasRest t → AllWhole all
whole_add all ts t e a w r = subst AllWhole (sym e) (go ts a)
  where
    go : (us : List Tally) → AllWhole us → AllWhole (us ++ t ∷ [])
    go [] b = ((w, r), tt)
    go (u ∷ us) b = (b.0, go us b.1)

pub whole_off : (all ts : List Tally) (t : Tally) → all ≡ ts ++ t ∷ [] → AllWhole all → AllWhole ts × IsWhole t
whole_off all ts t e a = go ts (subst AllWhole e a)
  where
    go : (us : List Tally) → AllWhole (us ++ t ∷ []) → AllWhole us × IsWhole t
    go [] b = (tt, b.0.0)
    go (u ∷ us) b = let r = go us b.1 in ((b.0, r.0), r.1)

pub framed_add : (f : Frame) (all ts : List Tally) (t : Tally) → all ≡ ts ++ t ∷ [] → AllFramed f ts → IsFramed f t → AllFramed f all
framed_add f all ts t e a i = subst (AllFramed f) (sym e) (go ts a)
  where
    go : (us : List Tally) → AllFramed f us → AllFramed f (us ++ t ∷ [])
    go [] b = (i, tt)
    go (u ∷ us) b = (b.0, go us b.1)

pub framed_off : (f : Frame) (all ts : List Tally) (t : Tally) → all ≡ ts ++ t ∷ [] → AllFramed f all → AllFramed f ts × IsFramed f t
framed_off f all ts t e a = go ts (subst (AllFramed f) e a)
  where
    go : (us : List Tally) → AllFramed f (us ++ t ∷ []) → AllFramed f us × IsFramed f t
    go [] b = (tt, b.0)
    go (u ∷ us) b = let r = go us b.1 in ((b.0, r.0), r.1)

-- some boxes are left
pub some_left : (ts : List Tally) → AllWhole ts → (xs : List PlainBox) × IsLeft ts xs
some_left [] a = ([], λ h. refl)
some_left (t ∷ ts) a =
    let r = a.0.1 in let s = some_left ts a.1 in (
      r.0 ++ s.0,
      λ h. (let p = r.1 h in let q = s.1 h in let b = sum_by-append h r.0 s.0 in
          let c = sum_by-cons (λ (v : Tally). sum_by h v.put) t ts in let d = sum_by-cons (λ (v : Tally). sum_by h v.taken) t ts in omega arith),
    )

-- the last deque was empty: what is left of all is what is left of the others
pub left_off : (all ts : List Tally) (t : Tally) → all ≡ ts ++ t ∷ [] → FoundFew 0 t → IsWhole t → (xs : List PlainBox) → IsLeft ts xs → IsLeft all xs
left_off all ts t e found whole xs left h =
    let f = found.whole whole in let q = f.2 h in
    let z : sum_by h f.0 ≡ 0 = ap (sum_by h) (empty_of_length f.0 (omega arith)) in
    let l = left h in let a = sum_snoc (λ v. v.put) h all ts t e in let b = sum_snoc (λ v. v.taken) h all ts t e in omega arith

-- one box was taken from the last deque
left_one : (all now ts : List Tally) (t u : Tally) (x : PlainBox) → all ≡ ts ++ t ∷ [] → now ≡ ts ++ u ∷ [] → TakeThen t (x ∷ []) u → (xs : List PlainBox) → IsLeft now xs → IsLeft all (x ∷ xs)
left_one all now ts t u x e m took xs left h =
    let l = left h in
    let a = sum_snoc (λ v. v.put) h all ts t e in let b = sum_snoc (λ v. v.taken) h all ts t e in
    let c = sum_snoc (λ v. v.put) h now ts u m in let d = sum_snoc (λ v. v.taken) h now ts u m in
    let p : sum_by h u.put ≡ sum_by h t.put = ap (λ (v : Tally). sum_by h v.put) took.is in
    let q : sum_by h u.taken ≡ sum_by h (t.taken ++ x ∷ []) = ap (λ (v : Tally). sum_by h v.taken) took.is in
    let r = sum_by-append h t.taken (x ∷ []) in let j = sum_by-cons h x [] in let k = sum_by-cons h x xs in omega arith

pub whole_back : (now ts : List Tally) (t u : Tally) (x : PlainBox) → now ≡ ts ++ u ∷ [] → AllWhole ts → IsWhole t → TakeThen t (x ∷ []) u → AllWhole now
whole_back now ts t u x m a w took = whole_add now ts u m a (ap (λ (v : Tally). v.parts) took.is ∙ w) (took.rests w)

-- no deque is left
pub nothing_left : (ts : List Tally) → ts ≡ [] → IsLeft ts []
nothing_left ts e = subst (λ (l : List Tally). IsLeft l []) (sym e) (λ h. refl)

-- a box was taken from the last deque of `all`, where nothing was left of those behind it
pub drains : (start all now ts : List Tally) (t u : Tally) (x : PlainBox) → AllWhole all → all ≡ ts ++ t ∷ [] → now ≡ ts ++ u ∷ [] → TakeThen t (x ∷ []) u
    → ((xs : List PlainBox) → IsLeft all xs → IsLeft start xs) → ((f : Frame) → AllFramed f start → AllFramed f all) → Drains x start now
drains start all now ts t u x whole e m took back fs =
    let o = whole_off all ts t e whole in record {
      some = some_left now (whole_back now ts t u x m o.0 o.1 took);
      left = λ xs left. back (x ∷ xs) (left_one all now ts t u x e m took xs left);
      frame = λ f a. (let r = framed_off f all ts t e (fs f a) in let i = r.1 in (
        (took.framed i.framed).0 ∙ i.frame,
        framed_add f now ts u m r.0 record { framed = ap (λ (v : Tally). v.framed) took.is ∙ i.framed; frame = ap (λ (v : Tally). v.frame) took.is ∙ i.frame },
      ));
    }
