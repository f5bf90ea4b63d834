-- Rows of arms: how a ring is made of them, and what it stays through.
use Rattle.std.proofs.Common.{◌≡◌, ◌<◌, ◌+◌, true, List, [], ◌∷◌, ◌++◌, length, sym, refl, ap, ◌∙◌, subst, arith, length-append}
use Rattle.std.specs.Prelude.{Option, Some}
use Rattle.plan_box.specs.declared.frame.Frame.{Frame}
use Rattle.box_ring.specs.declared.tally.Tally.{Tally}
use Rattle.box_ring.specs.Tallies.{tally}
use Rattle.box_ring.specs.Arms.{Deque, ArmState, frame, new_arm, Stays, EachStays, first_or, Links, IsRing, AllOfFrame, IsFresh, AllFresh}

-- a list with one element more is longer by one
pub longer : {A : Type 0} (all xs : List A) (x : A) → all ≡ xs ++ x ∷ [] → length all ≡ length xs + 1
longer all xs x e = let a = ap (λ l. length l) e in let b = length-append xs (x ∷ []) in omega arith

pub first_snoc : (xs : List ArmState) (x : ArmState) (end : Deque) → first_or (xs ++ x ∷ []) end ≡ first_or xs x.deque
first_snoc [] x end = refl
first_snoc (y ∷ ys) x end = refl

-- the last arm of a row, and the row before it
pub links_snoc : (xs : List ArmState) (x : ArmState) (end : Deque) → Links (xs ++ x ∷ []) end → (x.next ≡ Some end) × (x.own.parts ≡ 1) × Links xs x.deque
links_snoc [] x end l = (l.0, l.1, tt)
links_snoc (y ∷ ys) x end l =
    let r = links_snoc ys x end l.2 in
    (r.0, r.1, (subst (λ (d : Deque). y.next ≡ Some d) (first_snoc ys x end) l.0, l.1, r.2))

-- one arm more at the end of a row
links_add : (xs : List ArmState) (x : ArmState) (end now : Deque) → Links xs end → x.deque ≡ end → x.next ≡ Some now → x.own.parts ≡ 1 → Links (xs ++ x ∷ []) now
links_add [] x end now l e s p = (s, p, tt)
links_add (y ∷ ys) x end now l e s p =
    let f : first_or (ys ++ x ∷ []) now ≡ first_or ys end = first_snoc ys x now ∙ ap (first_or ys) e in
    (subst (λ (d : Deque). y.next ≡ Some d) (sym f) l.0, l.1, links_add ys x end now l.2 e s p)

-- an arm is added to the row, which had ended at its deque
pub row_links : (xs ys : List ArmState) (d now : Deque) (v w : Tally) (next : Option Deque) → ys ≡ xs ++ new_arm d v next w ∷ [] → next ≡ Some now → v.parts ≡ 1 → Links xs d → Links ys now
row_links xs ys d now v w next e s p l = subst (λ (r : List ArmState). Links r now) (sym e) (links_add xs (new_arm d v next w) d now l refl s p)

pub row_first : (xs ys : List ArmState) (d now start : Deque) (v w : Tally) (next : Option Deque) → ys ≡ xs ++ new_arm d v next w ∷ [] → first_or xs d ≡ start → first_or ys now ≡ start
row_first xs ys d now start v w next e s = subst (λ (r : List ArmState). first_or r now ≡ start) (sym e) (first_snoc xs (new_arm d v next w) now ∙ s)

-- a row that ends where it begins is a ring
ring_of : (xs : List ArmState) (x : ArmState) (end : Deque) → 0 < length xs → Links (xs ++ x ∷ []) end → first_or (xs ++ x ∷ []) end ≡ end → IsRing (xs ++ x ∷ [])
ring_of [] x end some_arm l e = absurd (omega arith)
ring_of (y ∷ []) x end some_arm l e = subst (Links (y ∷ x ∷ [])) (sym e) l
ring_of (y ∷ z ∷ zs) x end some_arm l e = subst (Links (y ∷ z ∷ (zs ++ x ∷ []))) (sym e) l

-- the last arm closes the ring
pub row_closed : (xs ys : List ArmState) (d start : Deque) (v w : Tally) (next : Option Deque) → ys ≡ xs ++ new_arm d v next w ∷ [] → next ≡ Some start → v.parts ≡ 1 → 0 < length xs
    → Links xs d → first_or xs d ≡ start → IsRing ys
row_closed xs ys d start v w next e s p some_arm l f =
    let x = new_arm d v next w in
    subst IsRing (sym e) (ring_of xs x start some_arm (links_add xs x d start l refl s p) (first_snoc xs x start ∙ f))

-- an arm of this frame is added, of which nothing was asked
pub row_frame : (f : Frame) (xs ys : List ArmState) (x : ArmState) → ys ≡ xs ++ x ∷ [] → AllOfFrame f xs → frame x ≡ f → AllOfFrame f ys
row_frame f xs ys x e a d = subst (AllOfFrame f) (sym e) (go xs a)
  where
    go : (zs : List ArmState) → AllOfFrame f zs → AllOfFrame f (zs ++ x ∷ [])
    go [] b = (d, tt)
    go (z ∷ zs) b = (b.0, go zs b.1)

pub row_fresh : (xs ys : List ArmState) (x : ArmState) → ys ≡ xs ++ x ∷ [] → AllFresh xs → IsFresh x → AllFresh ys
row_fresh xs ys x e a d = subst AllFresh (sym e) (go xs a)
  where
    go : (zs : List ArmState) → AllFresh zs → AllFresh (zs ++ x ∷ [])
    go [] b = (d, tt)
    go (z ∷ zs) b = (b.0, go zs b.1)

pub new_fresh : (d : Deque) (v w : Tally) (next : Option Deque) (f : Frame) → v ≡ tally 1 true f [] [] → w ≡ tally 1 true f [] [] → IsFresh (new_arm d v next w)
new_fresh d v w next f e g = record {
  own_put = ap (λ (k : Tally). k.put) e;
  own_taken = ap (λ (k : Tally). k.taken) e;
  other_put = ap (λ (k : Tally). k.put) g;
  other_taken = ap (λ (k : Tally). k.taken) g;
  misses = refl;
  missed = refl;
  passed = refl;
}

pub stays_none : (a : ArmState) → Stays a a
stays_none a = record { deque = refl; next = refl; parts = refl; frame = refl; other_put = refl }

pub stays_twice : (a b c : ArmState) → Stays a b → Stays b c → Stays a c
stays_twice a b c p q = record {
  deque = q.deque ∙ p.deque;
  next = q.next ∙ p.next;
  parts = q.parts ∙ p.parts;
  frame = q.frame ∙ p.frame;
  other_put = q.other_put ∙ p.other_put;
}

first_same : (xs ys : List ArmState) (end now : Deque) → EachStays xs ys → now ≡ end → first_or ys now ≡ first_or xs end
first_same [] [] end now s e = e
first_same [] (y ∷ ys) end now s e = absurd s
first_same (x ∷ xs) [] end now s e = absurd s
first_same (x ∷ xs) (y ∷ ys) end now s e = s.0.deque

links_same : (xs ys : List ArmState) (end now : Deque) → EachStays xs ys → now ≡ end → Links xs end → Links ys now
links_same [] [] end now s e l = tt
links_same [] (y ∷ ys) end now s e l = absurd s
links_same (x ∷ xs) [] end now s e l = absurd s
links_same (x ∷ xs) (y ∷ ys) end now s e l =
    (subst (λ (d : Deque). y.next ≡ Some d) (sym (first_same xs ys end now s.1 e)) (s.0.next ∙ l.0), s.0.parts ∙ l.1, links_same xs ys end now s.1 e l.2)

-- a ring stays a ring
pub ring_same : (xs ys : List ArmState) → EachStays xs ys → IsRing xs → IsRing ys
ring_same [] ys s r = absurd r
ring_same (x ∷ xs) [] s r = absurd s
ring_same (x ∷ []) (y ∷ []) s r = (s.0.next ∙ r.0, s.0.parts ∙ r.1)
ring_same (x ∷ []) (y ∷ z ∷ zs) s r = absurd s.1
ring_same (x ∷ w ∷ ws) (y ∷ []) s r = absurd s.1
ring_same (x ∷ w ∷ ws) (y ∷ z ∷ zs) s r = links_same (x ∷ w ∷ ws) (y ∷ z ∷ zs) x.deque y.deque s s.0.deque r
