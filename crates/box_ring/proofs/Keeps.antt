-- Each kind of step keeps the rule of a deque.
use Rattle.std.proofs.Common.{◌≡◌, ◌≢◌, ℕ, zero, suc, ◌+◌, ◌<◌, true, true≢false, List, [], ◌∷◌, ◌++◌, length, set, sym, refl, ap, ◌∙◌, subst, arith}
use Rattle.std.specs.Prelude.{sum_by}
use Rattle.std.proofs.lemmas.List.Sums.{sum_by-append, sum_by-cons}
use mathlib.Core.Option.{some, some-ne-none, some-injective}
use lib.ListN.{get_elem?}
use Rattle.crossbeam_deque.specs.Tasks.{Pushes, Takes, Pops, Finds, FindsFew, Forks, Merges, Learns}
use Rattle.plan_box.specs.Ranges.{PlainBox}
use Rattle.plan_box.specs.declared.frame.Frame.{Frame}
use Rattle.box_ring.specs.declared.tally.Tally.{Tally}
use Rattle.box_ring.specs.Tallies.{tally, no_frame, all_parts, no_tally, AreOfFrame, Fits, Balanced, IsWhole, Rests, putting, taking, FoundFew}
use Rattle.box_ring.specs.inner.Rule.{blank_tally, ready_tally, PutThen, TakeThen, SeedThen, UnseedThen, TotalFact, NumberFact, owner_tally, thief_tally, both_tallies}
use Rattle.shared_best.proofs.Views.{total_set, two_le, sum_alone, each_set, each_snoc, set_there, empty_of_length}

pub framed-append : (f : Frame) (xs ys : List PlainBox) → AreOfFrame f xs → AreOfFrame f ys → AreOfFrame f (xs ++ ys)
framed-append f [] ys a b = b
framed-append f (x ∷ xs) ys a b = (a.0, framed-append f xs ys a.1 b)

pub framed-left : (f : Frame) (xs ys : List PlainBox) → AreOfFrame f (xs ++ ys) → AreOfFrame f xs
framed-left f [] ys a = tt
framed-left f (x ∷ xs) ys a = (a.0, framed-left f xs ys a.1)

pub framed-right : (f : Frame) (xs ys : List PlainBox) → AreOfFrame f (xs ++ ys) → AreOfFrame f ys
framed-right f [] ys a = a
framed-right f (x ∷ xs) ys a = framed-right f xs ys a.1

-- what a step of one pass owes
pub record Owes (frame : Frame) (items items' : List PlainBox) (v w : Tally) : Type 0 where
  pub parts : w.parts ≡ v.parts
  pub weighs : (h : PlainBox → ℕ) → sum_by h items + sum_by h w.put + sum_by h v.taken ≡ sum_by h v.put + sum_by h w.taken + sum_by h items'
  pub framed : AreOfFrame frame items'
  pub fits : Fits frame w

pub turns : (items items' : List PlainBox) (views : List Tally) (port : ℕ) (v w : Tally) (b : Balanced items views) → get_elem? views port ≡ some v → Owes b.frame items items' v w → Balanced items' (set views port w)
turns items items' views port v w b at o = record {
  frame = b.frame;
  parts = (let e = total_set (λ (u : Tally). u.parts) views port v w at in let p = b.parts in let q = o.parts in omega arith);
  weighs = λ h. (let e = total_set (λ (u : Tally). sum_by h u.put) views port v w at in let d = total_set (λ (u : Tally). sum_by h u.taken) views port v w at in let p = b.weighs h in let q = o.weighs h in omega arith);
  framed = o.framed;
  each = each_set (Fits b.frame) views port w o.fits (λ j u n e. b.each j u e);
}

idle_beside : (items : List PlainBox) (views : List Tally) (port : ℕ) (v : Tally) → Balanced items views → get_elem? views port ≡ some v → IsWhole v
    → (j : ℕ) (u : Tally) → j ≢ port → get_elem? views j ≡ some u → u ≡ no_tally
idle_beside items views port v b at whole j u n e = let two = two_le (λ (x : Tally). x.parts) views port j v u n at e in let p = b.parts in (b.each j u e).idle (omega arith)

pub rests : (items : List PlainBox) (views : List Tally) (port : ℕ) (v : Tally) → Balanced items views → get_elem? views port ≡ some v → IsWhole v → Rests v items
rests items views port v b at whole h =
    let idle = idle_beside items views port v b at whole in
    let p = sum_alone (λ (u : Tally). sum_by h u.put) views port v at (λ j u n e. ap (λ (x : Tally). sum_by h x.put) (idle j u n e)) in
    let t = sum_alone (λ (u : Tally). sum_by h u.taken) views port v at (λ j u n e. ap (λ (x : Tally). sum_by h x.taken) (idle j u n e)) in
    let w = b.weighs h in omega arith

pub begins : Balanced [] (blank_tally ∷ [])
begins = record { frame = no_frame; parts = refl; weighs = λ h. refl; framed = tt; each = only }
  where
    only : (port : ℕ) (v : Tally) → get_elem? (blank_tally ∷ []) port ≡ some v → Fits no_frame v
    only zero v e = subst (Fits no_frame) (some-injective blank_tally v e) record { idle = λ none. absurd (omega arith); of_frame = λ no. absurd (true≢false (sym no)) }
    only (suc k) v e = absurd (some-ne-none v (sym e))

pub puts : (port : ℕ) (v : Tally) (x : PlainBox) → 0 < v.parts → v.framed ≡ true → x.frame ≡ v.frame → Pushes Balanced port v (x ∷ []) (PutThen v (x ∷ []))
puts port v x part set of_frame items views b at = let mine = b.each port v at in (
  putting v (x ∷ []),
  turns items (items ++ x ∷ []) views port v (putting v (x ∷ [])) b at record {
    parts = refl;
    weighs = λ h. (let p = sum_by-append h v.put (x ∷ []) in let q = sum_by-append h items (x ∷ []) in omega arith);
    framed = framed-append b.frame items (x ∷ []) b.framed (of_frame ∙ mine.of_frame set, tt);
    fits = record { idle = λ none. absurd (omega arith); of_frame = mine.of_frame };
  },
  refl,
)

-- tasks leave, at either end
leaves : (xs items all : List PlainBox) (views : List Tally) (port : ℕ) (v : Tally) → ((h : PlainBox → ℕ) → sum_by h all ≡ sum_by h xs + sum_by h items) → ((f : Frame) → AreOfFrame f all → AreOfFrame f xs × AreOfFrame f items)
    → 0 < v.parts → Balanced all views → get_elem? views port ≡ some v → (w : Tally) × Balanced items (set views port w) × TakeThen v xs w
leaves xs items all views port v weigh parted part b at =
    let mine = b.each port v at in let fs = parted b.frame b.framed in let w : Tally = taking v xs in
    let after : Balanced items (set views port w) = turns all items views port v w b at record {
      parts = refl;
      weighs = λ h. (let p = sum_by-append h v.taken xs in let q = weigh h in omega arith);
      framed = fs.1;
      fits = record { idle = λ none. absurd (omega arith); of_frame = mine.of_frame };
    } in (
      w,
      after,
      record {
        is = refl;
        framed = λ set. subst (λ (f : Frame). AreOfFrame f xs) (sym (mine.of_frame set)) fs.0;
        rests = λ whole. (items, rests items (set views port w) port w after (set_there views port v w at) whole);
      },
    )

pub pops : (port : ℕ) (v : Tally) → 0 < v.parts → Pops Balanced port v (TakeThen v)
pops port v part x items views b at = leaves (x ∷ []) items (items ++ x ∷ []) views port v (λ h. (let q = sum_by-append h items (x ∷ []) in omega arith))
    (λ f a. (framed-right f items (x ∷ []) a, framed-left f items (x ∷ []) a)) part b at

pub steals : (port : ℕ) (v : Tally) → 0 < v.parts → Takes Balanced port v 1 (TakeThen v)
steals port v part xs items views any few b at = leaves xs items (xs ++ items) views port v (λ h. sum_by-append h xs items)
    (λ f a. (framed-left f xs items a, framed-right f xs items a)) part b at

pub finds_few : (most port : ℕ) (v : Tally) → FindsFew Balanced most port v (FoundFew most v)
finds_few most port v items views few b at = record {
  held = record { items = items; tallies = views; holder = port; few = few; balanced = b; here = at };
  whole = λ whole. (items, few, rests items views port v b at whole);
}

pub finds_number : (port : ℕ) (v : Tally) → Learns Balanced port v (NumberFact v)
finds_number port v items views b at = (
  finds_few (length items) port v items views (omega arith) b at,
  record { items = items; tallies = views; holder = port; many = omega arith; balanced = b; here = at },
)

pub finds_none : (port : ℕ) (v : Tally) → Finds Balanced port v (FoundFew 0 v)
finds_none port v views b at = finds_few 0 port v [] views (omega arith) b at

-- with every part, nothing put and nothing taken, the deque is empty
none_left : (items : List PlainBox) → ((h : PlainBox → ℕ) → 0 ≡ 0 + sum_by h items) → items ≡ []
none_left [] w = refl
none_left (x ∷ xs) w = absurd (let e = w (λ _. 1) in let c = sum_by-cons (λ (b : PlainBox). 1) x xs in omega arith)

pub seeds : (port : ℕ) (v : Tally) (x : PlainBox) → v ≡ blank_tally → Pushes Balanced port v (x ∷ []) (SeedThen v (x ∷ []))
seeds port v x is items views b at =
    let whole : IsWhole v = ap (λ (u : Tally). u.parts) is in
    let r = rests items views port v b at whole in
    let empty : items ≡ [] = none_left items (λ h. sym (ap (λ (u : Tally). sum_by h u.put) is) ∙ r h ∙ ap (λ (u : Tally). sum_by h u.taken + sum_by h items) is) in
    let w : Tally = tally all_parts true x.frame (x ∷ []) [] in (
      w,
      record {
        frame = x.frame;
        parts = (let e = total_set (λ (u : Tally). u.parts) views port v w at in let p = b.parts in omega arith);
        weighs = λ h. (let e = total_set (λ (u : Tally). sum_by h u.put) views port v w at in let d = total_set (λ (u : Tally). sum_by h u.taken) views port v w at in let p = b.weighs h in
            let q : sum_by h v.put ≡ 0 = ap (λ (u : Tally). sum_by h u.put) is in let q' : sum_by h v.taken ≡ 0 = ap (λ (u : Tally). sum_by h u.taken) is in
            let s = sum_by-append h items (x ∷ []) in omega arith);
        framed = subst (λ (l : List PlainBox). AreOfFrame x.frame (l ++ x ∷ [])) (sym empty) (refl, tt);
        each = each_set (Fits x.frame) views port w record { idle = λ none. absurd (omega arith); of_frame = λ _. refl }
            (λ j u n e. subst (Fits x.frame) (sym (idle_beside items views port v b at whole j u n e)) record { idle = λ _. refl; of_frame = λ no. absurd (true≢false (sym no)) });
      },
      refl,
    )

-- the seed is taken again, and counts no more
pub unseeds : (port : ℕ) (v : Tally) (x : PlainBox) → v ≡ tally all_parts true x.frame (x ∷ []) [] → Pops Balanced port v (UnseedThen v)
unseeds port v x is y items views b at =
    let whole : IsWhole v = ap (λ (u : Tally). u.parts) is in
    let r = rests (items ++ y ∷ []) views port v b at whole in
    let one : (h : PlainBox → ℕ) → h x ≡ sum_by h items + h y = λ h. (let q : sum_by h v.put ≡ sum_by h (x ∷ []) = ap (λ (u : Tally). sum_by h u.put) is in let q2 = sum_by-cons h x [] in let q' : sum_by h v.taken ≡ 0 = ap (λ (u : Tally). sum_by h u.taken) is in
    let e = r h in let s = sum_by-append h items (y ∷ []) in omega arith) in
    let empty : items ≡ [] = none_left items (λ h. (let o = one (λ _. 1) in let n = none_counts h items (omega arith) in omega arith)) in
    let w : Tally = ready_tally v.frame in (
      w,
      record {
        frame = b.frame;
        parts = (let e = total_set (λ (u : Tally). u.parts) views port v w at in let p = b.parts in omega arith);
        weighs = λ h. (let e = total_set (λ (u : Tally). sum_by h u.put) views port v w at in let d = total_set (λ (u : Tally). sum_by h u.taken) views port v w at in let p = b.weighs h in
            let e' = r h in let s = sum_by-append h items (y ∷ []) in
            let z : sum_by h items ≡ 0 = ap (sum_by h) empty in omega arith);
        framed = framed-left b.frame items (y ∷ []) b.framed;
        each = each_set (Fits b.frame) views port w record { idle = λ none. absurd (omega arith); of_frame = λ _. (b.each port v at).of_frame (ap (λ (u : Tally). u.framed) is) }
            (λ j u n e. b.each j u e);
      },
      refl,
    )
  where
    none_counts : (h : PlainBox → ℕ) (l : List PlainBox) → sum_by (λ _. 1) l ≡ 0 → sum_by h l ≡ 0
    none_counts h [] e = refl
    none_counts h (z ∷ zs) e = absurd (let c = sum_by-cons (λ (b : PlainBox). 1) z zs in omega arith)

pub forks : (port : ℕ) (v : Tally) → IsWhole v → Forks Balanced port v (owner_tally v) (thief_tally v)
forks port v whole items views b at =
    let mine = b.each port v at in let vs = set views port (owner_tally v) in record {
      frame = b.frame;
      parts = (let e = total_set (λ (u : Tally). u.parts) views port v (owner_tally v) at in let n = sum_by-append (λ (u : Tally). u.parts) vs (thief_tally v ∷ []) in let p = b.parts in omega arith);
      weighs = λ h. (let e = total_set (λ (u : Tally). sum_by h u.put) views port v (owner_tally v) at in let d = total_set (λ (u : Tally). sum_by h u.taken) views port v (owner_tally v) at in
          let n = sum_by-append (λ (u : Tally). sum_by h u.put) vs (thief_tally v ∷ []) in let m = sum_by-append (λ (u : Tally). sum_by h u.taken) vs (thief_tally v ∷ []) in
          let p = b.weighs h in omega arith);
      framed = b.framed;
      each = each_snoc (Fits b.frame) vs (thief_tally v) record { idle = λ none. absurd (omega arith); of_frame = mine.of_frame }
          (each_set (Fits b.frame) views port (owner_tally v) record { idle = λ none. absurd (omega arith); of_frame = mine.of_frame } (λ j u n e. b.each j u e));
    }

pub merges : (port : ℕ) (v : Tally) (other : ℕ) (u : Tally) → 0 < v.parts → Merges Balanced port v other u (both_tallies v u) no_tally
merges port v other u part items views b at two at' =
    let mine = b.each port v at in let w : Tally = both_tallies v u in let vs = set views port w in record {
      frame = b.frame;
      parts = (let e = total_set (λ (x : Tally). x.parts) views port v w at in let d = total_set (λ (x : Tally). x.parts) vs other u no_tally at' in let p = b.parts in omega arith);
      weighs = λ h. (let e = total_set (λ (x : Tally). sum_by h x.put) views port v w at in let d = total_set (λ (x : Tally). sum_by h x.put) vs other u no_tally at' in
          let e' = total_set (λ (x : Tally). sum_by h x.taken) views port v w at in let d' = total_set (λ (x : Tally). sum_by h x.taken) vs other u no_tally at' in
          let n = sum_by-append h v.put u.put in let m = sum_by-append h v.taken u.taken in let p = b.weighs h in omega arith);
      framed = b.framed;
      each = each_set (Fits b.frame) vs other no_tally record { idle = λ _. refl; of_frame = λ no. absurd (true≢false (sym no)) }
          (λ j x n e. each_set (Fits b.frame) views port w record { idle = λ none. absurd (omega arith); of_frame = mine.of_frame } (λ i y m d. b.each i y d) j x e);
    }

pub seed_stays : (v : Tally) (x : PlainBox) → v ≡ tally all_parts true x.frame (x ∷ []) [] → FoundFew 0 v → ⊥
seed_stays v x is found =
    let whole : IsWhole v = ap (λ (u : Tally). u.parts) is in let f = found.whole whole in let e = f.2 (λ _. 1) in
    let q : sum_by (λ _. 1) v.put ≡ sum_by (λ _. 1) (x ∷ []) = ap (λ (u : Tally). sum_by (λ (_ : PlainBox). 1) u.put) is in
    let q' : sum_by (λ _. 1) v.taken ≡ 0 = ap (λ (u : Tally). sum_by (λ (_ : PlainBox). 1) u.taken) is in
    let z : sum_by (λ _. 1) f.0 ≡ 0 = ap (sum_by (λ (_ : PlainBox). 1)) (empty_of_length f.0 (omega arith)) in
    let c = sum_by-cons (λ (_ : PlainBox). 1) x [] in omega arith

-- the number of boxes at a moment shows a whole pass what rests
pub totals : (port : ℕ) (v : Tally) → Learns Balanced port v (TotalFact v)
totals port v items views b at whole = rests items views port v b at whole
