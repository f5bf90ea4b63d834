-- Boxes are dealt out to workers, one after the other.
use Rattle.std.proofs.Common.{◌≡◌, ◌==◌, ℕ, zero, suc, ◌+◌, ◌-◌, ◌%◌, ◌<◌, Bool, true, false, if◌then◌else◌, List, [], ◌∷◌, ◌++◌, length, slice_index_or, slice_set, refl, sym, ap, ◌∙◌, arith, All, add-zero}
use Rattle.std.specs.Prelude.{sum_by}
use Rattle.std.proofs.lemmas.Bool.{eq-eqb, eqb-true, eqb-false, ne_eqb}
use Rattle.std.proofs.lemmas.Grind.{get_or-set_at}
use Rattle.std.proofs.lemmas.List.{get_or-set_other, get_or_default}
use Rattle.std.proofs.lemmas.List.Elements.{All-cons, All-head, All-tail}
use Rattle.std.proofs.lemmas.List.Sums.{sum_by-cons, sum_by_push}
use Rattle.std.proofs.lemmas.Nat.{mod_below}
use Rattle.plan_box.specs.declared.frame.Frame.{Frame}
use Rattle.plan_box.specs.Ranges.{PlainBox}
use Rattle.box_ring.specs.Arms.{ArmState, frame, put, taken, after_push, Stays}
use Rattle.box_ring.proofs.Rows.{stays_none, stays_twice}
use Rattle.box_workers.specs.declared.member.Member.{Member}
use Rattle.box_workers.specs.inner.Dealing.{IsDealt, EachDealt, Gets, Deals, dealt_to}
use Rattle.box_workers.specs.inner.Members.{arms_of}

-- a worker that got nothing
dealt_none : (m : Member) → IsDealt m m
dealt_none m = record { seat = refl; hand = refl; stays = stays_none m.arm; misses = refl }

dealt_twice : (m n o : Member) → IsDealt m n → IsDealt n o → IsDealt m o
dealt_twice m n o p q = record { seat = q.seat ∙ p.seat; hand = q.hand ∙ p.hand; stays = stays_twice m.arm n.arm o.arm p.stays q.stays; misses = q.misses ∙ p.misses }

pub each_none : (ms : List Member) → EachDealt ms ms
each_none [] = tt
each_none (m ∷ ms) = (dealt_none m, each_none ms)

pub each_twice : (ms ns os : List Member) → EachDealt ms ns → EachDealt ns os → EachDealt ms os
each_twice [] [] [] p q = tt
each_twice [] [] (o ∷ os) p q = absurd q
each_twice [] (n ∷ ns) os p q = absurd p
each_twice (m ∷ ms) [] os p q = absurd p
each_twice (m ∷ ms) (n ∷ ns) [] p q = absurd q
each_twice (m ∷ ms) (n ∷ ns) (o ∷ os) p q = (dealt_twice m n o p.0 q.0, each_twice ms ns os p.1 q.1)

pub dealt_length : (ms ns : List Member) → EachDealt ms ns → length ns ≡ length ms
dealt_length [] [] p = refl
dealt_length [] (n ∷ ns) p = absurd p
dealt_length (m ∷ ms) [] p = absurd p
dealt_length (m ∷ ms) (n ∷ ns) p = let i = dealt_length ms ns p.1 in omega arith

-- the arms stay of this frame
pub dealt_frames : (f : Frame) (ms ns : List Member) → EachDealt ms ns → All (λ (m : Member). f ≡ frame m.arm) ms → All (λ (m : Member). f ≡ frame m.arm) ns
dealt_frames f [] [] p a = a
dealt_frames f [] (n ∷ ns) p a = absurd p
dealt_frames f (m ∷ ms) [] p a = absurd p
dealt_frames f (m ∷ ms) (n ∷ ns) p a =
    let P = λ (z : Member). f ≡ frame z.arm in All-cons P n ns (All-head P m ms a ∙ sym p.0.stays.frame) (dealt_frames f ms ns p.1 (All-tail P m ms a))

-- one worker got a box
each_at : (ms : List Member) (i : ℕ) (d n : Member) → i < length ms → IsDealt (slice_index_or ms i d) n → EachDealt ms (slice_set ms i n)
each_at [] i d n within is = absurd (omega arith)
each_at (m ∷ ms) zero d n within is = (is, each_none ms)
each_at (m ∷ ms) (suc i) d n within is = (dealt_none m, each_at ms i d n (omega arith) is)

sum_at : (f : ArmState → ℕ) (ms : List Member) (i : ℕ) (d n : Member) → i < length ms → sum_by f (arms_of (slice_set ms i n)) + f (slice_index_or ms i d).arm ≡ sum_by f (arms_of ms) + f n.arm
sum_at f [] i d n within = absurd (omega arith)
sum_at f (m ∷ ms) zero d n within = let a = sum_by-cons f n.arm (arms_of ms) in let c = sum_by-cons f m.arm (arms_of ms) in omega arith
sum_at f (m ∷ ms) (suc i) d n within =
    let r = sum_at f ms i d n (omega arith) in let a = sum_by-cons f m.arm (arms_of (slice_set ms i n)) in let c = sum_by-cons f m.arm (arms_of ms) in omega arith

-- the place where a box was put, and the others
own_at : (weight : PlainBox → ℕ) (x : PlainBox) (ms : List Member) (place : ℕ) (e n : Member) → place < length ms → put weight n.arm ≡ put weight (slice_index_or ms place e).arm + weight x
    → (i : ℕ) (d : Member) → i < length ms → put weight (slice_index_or (slice_set ms place n) i d).arm ≡ put weight (slice_index_or ms i d).arm + (if i == place then weight x else 0)
own_at weight x ms place e n within more i d inside = by_test (i == place) refl
  where
    by_test : (t : Bool) → (i == place) ≡ t → put weight (slice_index_or (slice_set ms place n) i d).arm ≡ put weight (slice_index_or ms i d).arm + (if t then weight x else 0)
    by_test true is =
        let same = eqb-true i place is in
        let new = ap (λ (m : Member). put weight m.arm) (get_or-set_at ms place i n d same within) in
        let old = ap (λ (m : Member). put weight m.arm) (ap (λ j. slice_index_or ms j d) same ∙ get_or_default ms place d e within) in
        new ∙ more ∙ ap (λ k. k + weight x) (sym old)
    by_test false is = ap (λ (m : Member). put weight m.arm) (get_or-set_other ms place i n d (eqb-false i place is)) ∙ sym (add-zero (put weight (slice_index_or ms i d).arm))

pub gets_one : (ms : List Member) (i : ℕ) (d n : Member) (x : PlainBox) → i < length ms → n.seat ≡ (slice_index_or ms i d).seat → n.hand ≡ (slice_index_or ms i d).hand
    → n.arm ≡ after_push (slice_index_or ms i d).arm x → Stays (slice_index_or ms i d).arm n.arm → Gets i x ms (slice_set ms i n)
gets_one ms i d n x within seat hand arm stays =
    let old = (slice_index_or ms i d).arm in
    let more : (weight : PlainBox → ℕ) → put weight n.arm ≡ put weight old + weight x = λ weight. (let a = ap (put weight) arm in let p = sum_by_push weight old.own.put x in omega arith) in record {
      each = each_at ms i d n within (record { seat = seat; hand = hand; stays = stays; misses = ap (λ (a : ArmState). a.misses) arm });
      puts = λ weight. (let s = sum_at (put weight) ms i d n within in let m = more weight in omega arith);
      takes = λ weight. (let s = sum_at (taken weight) ms i d n within in let a = ap (taken weight) arm in omega arith);
      own = λ weight. own_at weight x ms i d n within (more weight);
    }

-- what a box weighs that is one of the worker's, or is none of them
weighed_if : (weight : PlainBox → ℕ) (t : Bool) (x : PlainBox) (ys : List PlainBox) → sum_by weight ((if t then x ∷ [] else []) ++ ys) ≡ (if t then weight x else 0) + sum_by weight ys
weighed_if weight true x ys = sum_by-cons weight x ys
weighed_if weight false x ys = let e : 0 + sum_by weight ys ≡ sum_by weight ys = omega arith in sym e

-- the worker of a box behind others
dealt_last : (weight : PlainBox → ℕ) (workers worker from : ℕ) (xs : List PlainBox) (x : PlainBox)
    → sum_by weight (dealt_to workers worker from (xs ++ x ∷ [])) ≡ sum_by weight (dealt_to workers worker from xs) + (if (from + length xs) % workers == worker then weight x else 0)
dealt_last weight workers worker from [] x =
    let w = weighed_if weight (from % workers == worker) x [] in let e : (if from % workers == worker then weight x else 0) ≡ (if (from + 0) % workers == worker then weight x else 0) = ap (λ n. if n % workers == worker then weight x else 0) (sym (add-zero from)) in omega (arith, w, e)
dealt_last weight workers worker from (y ∷ ys) x =
    let w = weighed_if weight (from % workers == worker) y (dealt_to workers worker (suc from) (ys ++ x ∷ [])) in let v = weighed_if weight (from % workers == worker) y (dealt_to workers worker (suc from) ys) in
    let r = dealt_last weight workers worker (suc from) ys x in
    let e : (if (suc from + length ys) % workers == worker then weight x else 0) ≡ (if (from + suc (length ys)) % workers == worker then weight x else 0) = ap (λ n. if n % workers == worker then weight x else 0) (omega arith) in omega (arith, w, v, r, e)

-- the place of an arm, counted from the last one, is told by the number of the arm
same_test : (n i a : ℕ) → i < n → a < n → (i == n - 1 - a) ≡ (a == n - suc i)
same_test n i a inside within = by_test (a == n - suc i) refl
  where
    by_test : (t : Bool) → (a == n - suc i) ≡ t → (i == n - 1 - a) ≡ (a == n - suc i)
    by_test true is = let e = eqb-true a (n - suc i) is in eq-eqb i (n - 1 - a) (omega arith) ∙ sym is
    by_test false is = ne_eqb i (n - 1 - a) (λ e. eqb-false a (n - suc i) is (omega arith)) ∙ sym is

-- the boxes that were dealt so far, and those that wait for it
pub record AreDealt (all waiting : List PlainBox) (olds news : List Member) : Type 0 where
  pub each : EachDealt olds news
  pub puts : (weight : PlainBox → ℕ) → sum_by (put weight) (arms_of news) + sum_by weight waiting ≡ sum_by (put weight) (arms_of olds) + sum_by weight all
  pub takes : (weight : PlainBox → ℕ) → sum_by (taken weight) (arms_of news) ≡ sum_by (taken weight) (arms_of olds)
  pub own : (weight : PlainBox → ℕ) (i : ℕ) (d : Member) → i < length olds
      → put weight (slice_index_or news i d).arm + sum_by weight (dealt_to (length olds) (length olds - suc i) 0 waiting) ≡ put weight (slice_index_or olds i d).arm + sum_by weight (dealt_to (length olds) (length olds - suc i) 0 all)

pub dealt_none_yet : (all : List PlainBox) (ms : List Member) → AreDealt all all ms ms
dealt_none_yet all ms = record { each = each_none ms; puts = λ weight. refl; takes = λ weight. refl; own = λ weight i d inside. refl }

own_more : (all waiting rest : List PlainBox) (x : PlainBox) (olds ms news : List Member) (place : ℕ) → waiting ≡ rest ++ x ∷ [] → length ms ≡ length olds → 0 < length olds
    → place ≡ length olds - 1 - length rest % length olds → Gets place x ms news → AreDealt all waiting olds ms
    → (weight : PlainBox → ℕ) (i : ℕ) (d : Member) → i < length olds
    → put weight (slice_index_or news i d).arm + sum_by weight (dealt_to (length olds) (length olds - suc i) 0 rest) ≡ put weight (slice_index_or olds i d).arm + sum_by weight (dealt_to (length olds) (length olds - suc i) 0 all)
own_more all waiting rest x olds ms news place last long some is d r weight i m inside =
    let n = length olds in let k = n - suc i in
    let before = r.own weight i m inside in
    let got = d.own weight i m (omega arith) in
    let split = ap (λ (l : List PlainBox). sum_by weight (dealt_to n k 0 l)) last ∙ dealt_last weight n k 0 rest x in
    let counted : length rest ≡ 0 + length rest = omega arith in
    let same : (if i == place then weight x else 0) ≡ (if (0 + length rest) % n == k then weight x else 0) =
    ap (λ p. if i == p then weight x else 0) is ∙ ap (λ t. if t then weight x else 0) (same_test n i (length rest % n) inside (mod_below (length rest) n some)) ∙ ap (λ r. if r % n == k then weight x else 0) counted in omega (arith, before, got, split, same)

pub dealt_more : (all waiting rest : List PlainBox) (x : PlainBox) (olds ms news : List Member) (place : ℕ) → waiting ≡ rest ++ x ∷ [] → length ms ≡ length olds → 0 < length olds
    → place ≡ length olds - 1 - length rest % length olds → Gets place x ms news → AreDealt all waiting olds ms → AreDealt all rest olds news
dealt_more all waiting rest x olds ms news place last long some is d r = record {
  each = each_twice olds ms news r.each d.each;
  puts = λ weight. (let a = r.puts weight in let c = d.puts weight in let e = ap (sum_by weight) last in let p = sum_by_push weight rest x in omega arith);
  takes = λ weight. (d.takes weight ∙ r.takes weight);
  own = own_more all waiting rest x olds ms news place last long some is d r;
}

pub dealt_all : (all waiting : List PlainBox) (olds news : List Member) → waiting ≡ [] → AreDealt all waiting olds news → Deals all olds news
dealt_all all waiting olds news none r = record {
  each = r.each;
  puts = λ weight. (let a = r.puts weight in let e = ap (sum_by weight) none in omega arith);
  takes = r.takes;
  own = λ weight i d inside. (
      let a = r.own weight i d inside in let e = ap (λ (l : List PlainBox). sum_by weight (dealt_to (length olds) (length olds - suc i) 0 l)) none in omega arith);
}
