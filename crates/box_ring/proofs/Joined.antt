-- The arms of a ring are put together, from the last one on.
use Rattle.std.proofs.Common.{◌≡◌, ℕ, ◌+◌, true, List, [], ◌∷◌, ◌++◌, length, sym, refl, ap, ◌∙◌, subst, arith, length-append}
use Rattle.std.specs.Prelude.{sum_by, Option, Some, None}
use Rattle.std.proofs.lemmas.List.Sums.{sum_by-append, sum_by-cons}
use Rattle.plan_box.specs.declared.frame.Frame.{Frame}
use Rattle.plan_box.specs.Ranges.{PlainBox}
use Rattle.box_ring.specs.declared.tally.Tally.{Tally}
use Rattle.box_ring.specs.Tallies.{IsWhole, HasRest, AllWhole}
use Rattle.box_ring.specs.Arms.{Deque, ArmState, frame, first_or, Links, IsRing, AllOfFrame, deques_put, deques_taken}
use Rattle.box_ring.specs.Gathers.{all_put, all_taken, IsFramed, AllFramed, Gathers}
use Rattle.box_ring.specs.inner.Rule.{both_tallies}
use Rattle.box_ring.specs.inner.Rings.{Completes}
use Rattle.box_ring.proofs.Rows.{first_snoc, links_snoc}
use Rattle.box_ring.proofs.Drained.{sum_snoc, whole_add, framed_add, some_left}

-- this deque waits for the other part of its pass, which the last of the arms that are left has; `next` is the first deque, for which the last arm has brought a part
abbrev pub Waits : Option Deque → List ArmState → Deque → Tally → Type 0
Waits None rest d t = (rest ≡ []) × IsWhole t
Waits (Some e) rest d t = (e ≡ first_or rest d) × (t.parts ≡ 1) × Links rest d

-- what holds while arms are left: this deque waits, with its tally; the last arm brought a way to `next`, with its tally; these are the tallies of the deques that are whole
pub record Joins (all rest : List ArmState) (d : Deque) (t : Tally) (next : Option Deque) (o : Tally) (ts : List Tally) : Type 0 where
  pub waits : Waits next rest d t
  pub whole : AllWhole ts
  pub put_is : (h : PlainBox → ℕ) → sum_by (deques_put h) rest + sum_by h t.put + all_put h ts + sum_by h o.put ≡ sum_by (deques_put h) all
  pub taken_is : (h : PlainBox → ℕ) → sum_by (deques_taken h) rest + sum_by h t.taken + all_taken h ts + sum_by h o.taken ≡ sum_by (deques_taken h) all
  pub framed : (f : Frame) → AllOfFrame f all → AllFramed f ts × AllOfFrame f rest × IsFramed f t

not_empty : {A : Type 0} (xs : List A) (x : A) → xs ++ x ∷ [] ≡ [] → ⊥
not_empty xs x e = let n = ap (λ l. length l) e in let m = length-append xs (x ∷ []) in omega arith

-- the last arm of those that are left has the part of the pass for which the deque waits
pub completes_next : (next : Option Deque) (rest xs : List ArmState) (x : ArmState) (d : Deque) (t w : Tally) (o : Option Deque) → rest ≡ xs ++ x ∷ [] → o ≡ x.next → Waits next rest d t → Completes o d t
completes_next next rest xs x d t w o e s waits = subst (λ (q : Option Deque). Completes q d t) (sym s) (go next (subst (λ (l : List ArmState). Waits next l d t) e waits))
  where
    go : (n : Option Deque) → Waits n (xs ++ x ∷ []) d t → Completes x.next d t
    go None k = absurd (not_empty xs x k.0)
    go (Some c) k = subst (λ (q : Option Deque). Completes q d t) (sym (links_snoc xs x d k.2).0) (refl, k.1)

-- where none is left, it is the part that the last arm brought
pub completes_last : (next : Option Deque) (rest : List ArmState) (d : Deque) (t : Tally) → rest ≡ [] → Waits next rest d t → Completes next d t
completes_last None rest d t e waits = waits.1
completes_last (Some c) rest d t e waits = (waits.0 ∙ ap (λ (l : List ArmState). first_or l d) e, waits.1)

waits_first : (xs : List ArmState) (x : ArmState) → IsRing (xs ++ x ∷ []) → Waits x.next xs x.deque x.own
waits_first [] x r = subst (λ (o : Option Deque). Waits o [] x.deque x.own) (sym r.0) (refl, r.1)
waits_first (y ∷ ys) x r = let l = links_snoc (y ∷ ys) x y.deque (several ys r) in subst (λ (o : Option Deque). Waits o (y ∷ ys) x.deque x.own) (sym l.0) (refl, l.1, l.2)
  where
    several : (zs : List ArmState) → IsRing (y ∷ zs ++ x ∷ []) → Links (y ∷ zs ++ x ∷ []) y.deque
    several [] k = k
    several (z ∷ zs) k = k

waits_next : (next : Option Deque) (xs : List ArmState) (x : ArmState) (d : Deque) (t : Tally) → Waits next (xs ++ x ∷ []) d t → Waits next xs x.deque x.own
waits_next None xs x d t e = absurd (not_empty xs x e.0)
waits_next (Some c) xs x d t e = let r = links_snoc xs x d e.2 in (e.0 ∙ first_snoc xs x d, r.1, r.2)

frame_last : (f : Frame) (xs : List ArmState) (x : ArmState) → AllOfFrame f (xs ++ x ∷ []) → AllOfFrame f xs × (frame x ≡ f)
frame_last f [] x a = (tt, a.0)
frame_last f (y ∷ ys) x a = let r = frame_last f ys x a.1 in ((a.0, r.0), r.1)

-- sums over arms, of which the last one stands by itself
module _ (f : Tally → List PlainBox) (h : PlainBox → ℕ) where
  abbrev weight : ArmState → ℕ
  weight a = sum_by h (f a.own) + sum_by h (f a.other)

  abbrev done : List Tally → ℕ
  done ts = sum_by (λ (v : Tally). sum_by h (f v)) ts

  arms_snoc : (xs : List ArmState) (x : ArmState) → sum_by weight (xs ++ x ∷ []) ≡ sum_by weight xs + sum_by h (f x.own) + sum_by h (f x.other)
  arms_snoc xs x = let b = sum_by-append weight xs (x ∷ []) in let c = sum_by-cons weight x [] in omega arith

  next_sum : (xs : List ArmState) (x : ArmState) (t y o : Tally) (ts now : List Tally) (total : ℕ) → now ≡ ts ++ y ∷ [] → sum_by h (f y) ≡ sum_by h (f t) + sum_by h (f x.other)
      → sum_by weight (xs ++ x ∷ []) + sum_by h (f t) + done ts + sum_by h (f o) ≡ total → sum_by weight xs + sum_by h (f x.own) + done now + sum_by h (f o) ≡ total
  next_sum xs x t y o ts now total m joined before = let a = arms_snoc xs x in let b = sum_snoc f h now ts y m in omega arith

  last_sum : (rest : List ArmState) (t y o : Tally) (ts now : List Tally) (total : ℕ) → rest ≡ [] → now ≡ ts ++ y ∷ [] → sum_by h (f y) ≡ sum_by h (f t) + sum_by h (f o)
      → sum_by weight rest + sum_by h (f t) + done ts + sum_by h (f o) ≡ total → done now ≡ total
  last_sum rest t y o ts now total e m joined before = let a : sum_by weight rest ≡ 0 = ap (sum_by weight) e in let b = sum_snoc f h now ts y m in omega arith

put_sum : (h : PlainBox → ℕ) (t o y : Tally) → y ≡ both_tallies t o → sum_by h y.put ≡ sum_by h t.put + sum_by h o.put
put_sum h t o y e = ap (λ (v : Tally). sum_by h v.put) e ∙ sum_by-append h t.put o.put

taken_sum : (h : PlainBox → ℕ) (t o y : Tally) → y ≡ both_tallies t o → sum_by h y.taken ≡ sum_by h t.taken + sum_by h o.taken
taken_sum h t o y e = ap (λ (v : Tally). sum_by h v.taken) e ∙ sum_by-append h t.taken o.taken

both_framed : (f : Frame) (t o y : Tally) → y ≡ both_tallies t o → IsFramed f t → IsFramed f y
both_framed f t o y e i = record { framed = ap (λ (v : Tally). v.framed) e ∙ i.framed; frame = ap (λ (v : Tally). v.frame) e ∙ i.frame }

-- what is said of an arm's fields holds of values that are equal to them
at_arm : (P : Deque → Tally → Type 0) (x : ArmState) (d : Deque) (t : Tally) → d ≡ x.deque → t ≡ x.own → P x.deque x.own → P d t
at_arm P x d t a b p = subst (λ (c : Deque). P c t) (sym a) (subst (P x.deque) (sym b) p)

joins_first' : (xs : List ArmState) (x : ArmState) → x.own.framed ≡ true → IsRing (xs ++ x ∷ []) → Joins (xs ++ x ∷ []) xs x.deque x.own x.next x.other []
joins_first' xs x s r = record {
  waits = waits_first xs x r;
  whole = tt;
  put_is = λ h. (let a = arms_snoc (λ v. v.put) h xs x in omega arith);
  taken_is = λ h. (let a = arms_snoc (λ v. v.taken) h xs x in omega arith);
  framed = λ f a. (let l = frame_last f xs x a in (tt, l.0, record { framed = s; frame = l.1 }));
}

-- the last arm was taken apart
pub joins_first : (all xs : List ArmState) (x : ArmState) (d : Deque) (t : Tally) (next : Option Deque) (o : Tally) (ts : List Tally) → all ≡ xs ++ x ∷ [] → d ≡ x.deque → t ≡ x.own → next ≡ x.next → o ≡ x.other
    → t.framed ≡ true → ts ≡ [] → IsRing all → Joins all xs d t next o ts
joins_first all xs x d t next o ts e a b c g s z r =
    let j = joins_first' xs x (ap (λ (v : Tally). v.framed) (sym b) ∙ s) (subst IsRing e r) in
    let j1 : Joins all xs x.deque x.own x.next x.other [] = subst (λ (l : List ArmState). Joins l xs x.deque x.own x.next x.other []) (sym e) j in
    let j2 : Joins all xs d t x.next x.other [] = at_arm (λ u v. Joins all xs u v x.next x.other []) x d t a b j1 in
    let j3 : Joins all xs d t next x.other [] = subst (λ (q : Option Deque). Joins all xs d t q x.other []) (sym c) j2 in
    let j4 : Joins all xs d t next o [] = subst (λ (w : Tally). Joins all xs d t next w []) (sym g) j3 in
    subst (Joins all xs d t next o) (sym z) j4

joins_next' : (all xs : List ArmState) (x : ArmState) (d : Deque) (t y : Tally) (next : Option Deque) (o : Tally) (ts now : List Tally) → now ≡ ts ++ y ∷ [] → y ≡ both_tallies t x.other → IsWhole y → HasRest y
    → x.own.framed ≡ true → Joins all (xs ++ x ∷ []) d t next o ts → Joins all xs x.deque x.own next o now
joins_next' all xs x d t y next o ts now m both w r s j = record {
  waits = waits_next next xs x d t j.waits;
  whole = whole_add now ts y m j.whole w r;
  put_is = λ h. next_sum (λ v. v.put) h xs x t y o ts now _ m (put_sum h t x.other y both) (j.put_is h);
  taken_is = λ h. next_sum (λ v. v.taken) h xs x t y o ts now _ m (taken_sum h t x.other y both) (j.taken_is h);
  framed = λ f a. (let i = j.framed f a in let l = frame_last f xs x i.1 in
      (framed_add f now ts y m i.0 (both_framed f t x.other y both i.2), l.0, record { framed = s; frame = l.1 }));
}

-- the next arm was taken apart, and has completed the deque that waited
pub joins_next : (all rest xs : List ArmState) (x : ArmState) (d c : Deque) (t v y w : Tally) (next : Option Deque) (o : Tally) (ts now : List Tally) → rest ≡ xs ++ x ∷ [] → c ≡ x.deque → v ≡ x.own → w ≡ x.other → v.framed ≡ true
    → now ≡ ts ++ y ∷ [] → y ≡ both_tallies t w → IsWhole y → HasRest y → Joins all rest d t next o ts → Joins all xs c v next o now
joins_next all rest xs x d c t v y w next o ts now e a b g s m both whole r j =
    at_arm (λ u k. Joins all xs u k next o now) x c v a b (joins_next' all xs x d t y next o ts now m (both ∙ ap (both_tallies t) g) whole r (ap (λ (k : Tally). k.framed) (sym b) ∙ s)
    (subst (λ (l : List ArmState). Joins all l d t next o ts) e j))

pub whole_last : (all rest : List ArmState) (d : Deque) (t y : Tally) (next : Option Deque) (o : Tally) (ts now : List Tally) → now ≡ ts ++ y ∷ [] → IsWhole y → HasRest y → Joins all rest d t next o ts → AllWhole now
whole_last all rest d t y next o ts now m w r j = whole_add now ts y m j.whole w r

-- the boxes that were pushed and popped at once count on both sides
with_passed : (f : ArmState → ℕ) (h : PlainBox → ℕ) (xs : List ArmState) → sum_by (λ (a : ArmState). f a + sum_by h a.passed) xs ≡ sum_by f xs + sum_by (λ (a : ArmState). sum_by h a.passed) xs
with_passed f h [] = refl
with_passed f h (x ∷ xs) =
    let i = with_passed f h xs in let a = sum_by-cons (λ (a : ArmState). f a + sum_by h a.passed) x xs in let b = sum_by-cons f x xs in let c = sum_by-cons (λ (a : ArmState). sum_by h a.passed) x xs in omega arith

-- no arm is left, and the last deque is whole
pub gathers_last : (all rest : List ArmState) (d : Deque) (t y : Tally) (next : Option Deque) (o : Tally) (ts now : List Tally) → rest ≡ [] → now ≡ ts ++ y ∷ [] → y ≡ both_tallies t o → IsWhole y → HasRest y
    → Joins all rest d t next o ts → Gathers all now
gathers_last all rest d t y next o ts now e m both w r j = record {
  some = some_left now (whole_last all rest d t y next o ts now m w r j);
  weighs = λ xs left h. (let l = left h in
      let p = last_sum (λ v. v.put) h rest t y o ts now _ e m (put_sum h t o y both) (j.put_is h) in
      let q = last_sum (λ v. v.taken) h rest t y o ts now _ e m (taken_sum h t o y both) (j.taken_is h) in
      let c = with_passed (deques_put h) h all in let d = with_passed (deques_taken h) h all in omega arith);
  frame = λ f a. (let i = j.framed f a in framed_add f now ts y m i.0 (both_framed f t o y both i.2));
}
