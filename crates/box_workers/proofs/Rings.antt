-- The arms of several workers, in the other order.
use Rattle.std.proofs.Common.{◌≡◌, ℕ, ◌+◌, List, [], ◌∷◌, ◌++◌, length, reverse, refl, sym, ap, ap₂, ◌∙◌, subst, arith, All}
use Rattle.std.specs.Prelude.{sum_by}
use Rattle.std.proofs.lemmas.List.{reverse-append, reverse-reverse}
use Rattle.std.proofs.lemmas.List.Elements.{All-nil, All-cons, All-head, All-tail}
use Rattle.std.proofs.lemmas.List.Sums.{sum_by-cons}
use Rattle.glass_base.specs.Problem.{Problem}
use Rattle.plan_box.specs.declared.frame.Frame.{Frame}
use Rattle.plan_box.specs.Frames.{frame_of}
use Rattle.plan_box.specs.Ranges.{PlainBox}
use Rattle.box_bound.specs.Leastings.{IsOf}
use Rattle.box_ring.specs.Arms.{ArmState, put, taken, AllFresh, AllOfFrame, Stays, EachStays, IsRing}
use Rattle.box_ring.proofs.Rows.{ring_same}
use Rattle.box_ring.specs.declared.tally.Tally.{Tally}
use Rattle.box_ring.specs.Gathers.{IsLeft, Gathers}
use Rattle.shared_best.specs.Seats.{Words, Seated, IsSeatOf}
use Rattle.shared_best.specs.Words.{share}
use Rattle.box_workers.specs.declared.hand.Hand.{Hand}
use Rattle.box_workers.specs.declared.member.Member.{Member}
use Rattle.box_workers.specs.inner.Dealing.{EachDealt, Deals, AreSetUp}
use Rattle.box_workers.specs.inner.Hands as hands
use Rattle.box_workers.specs.inner.Members.{IsUnused, IsNew, IsReady, EachDone, arms_of, numbers_of, share_of}
use Rattle.box_workers.proofs.Lists.{sum_reverse}

stays_push : (xs ys : List ArmState) (x y : ArmState) → EachStays xs ys → Stays x y → EachStays (xs ++ x ∷ []) (ys ++ y ∷ [])
stays_push [] [] x y s t = (t, tt)
stays_push [] (z ∷ ys) x y s t = absurd s
stays_push (z ∷ xs) [] x y s t = absurd s
stays_push (z ∷ xs) (u ∷ ys) x y s t = (s.0, stays_push xs ys x y s.1 t)

stays_reverse : (xs ys : List ArmState) → EachStays xs ys → EachStays (reverse xs) (reverse ys)
stays_reverse [] [] s = tt
stays_reverse [] (y ∷ ys) s = absurd s
stays_reverse (x ∷ xs) [] s = absurd s
stays_reverse (x ∷ xs) (y ∷ ys) s =
    subst (λ (l : List ArmState). EachStays l (reverse (y ∷ ys))) (sym (reverse-append (x ∷ []) xs))
    (subst (EachStays (reverse xs ++ x ∷ [])) (sym (reverse-append (y ∷ []) ys)) (stays_push (reverse xs) (reverse ys) x y (stays_reverse xs ys s.1) s.0))

frames_stay : (f : Frame) (xs ys : List ArmState) → EachStays xs ys → AllOfFrame f xs → AllOfFrame f ys
frames_stay f [] [] s a = tt
frames_stay f [] (y ∷ ys) s a = absurd s
frames_stay f (x ∷ xs) [] s a = absurd s
frames_stay f (x ∷ xs) (y ∷ ys) s a = (s.0.frame ∙ a.0, frames_stay f xs ys s.1 a.1)

-- arms of which nothing was asked have put and taken nothing
fresh_put : (weight : PlainBox → ℕ) (xs : List ArmState) → AllFresh xs → sum_by (put weight) xs ≡ 0
fresh_put weight [] a = refl
fresh_put weight (x ∷ xs) a =
    let i = fresh_put weight xs a.1 in let c = sum_by-cons (put weight) x xs in let p = ap (sum_by weight) a.0.own_put in let q = ap (sum_by weight) a.0.other_put in
    let r = ap (sum_by weight) a.0.passed in omega arith

fresh_taken : (weight : PlainBox → ℕ) (xs : List ArmState) → AllFresh xs → sum_by (taken weight) xs ≡ 0
fresh_taken weight [] a = refl
fresh_taken weight (x ∷ xs) a =
    let i = fresh_taken weight xs a.1 in let c = sum_by-cons (taken weight) x xs in let p = ap (sum_by weight) a.0.own_taken in let q = ap (sum_by weight) a.0.other_taken in
    let r = ap (sum_by weight) a.0.passed in omega arith

-- workers that got boxes
dealt_stays : (ms ns : List Member) → EachDealt ms ns → EachStays (arms_of ms) (arms_of ns)
dealt_stays [] [] d = tt
dealt_stays [] (n ∷ ns) d = absurd d
dealt_stays (m ∷ ms) [] d = absurd d
dealt_stays (m ∷ ms) (n ∷ ns) d = (d.0.stays, dealt_stays ms ns d.1)

pub dealt_share : (ms ns : List Member) → EachDealt ms ns → share_of ns ≡ share_of ms
dealt_share [] [] d = refl
dealt_share [] (n ∷ ns) d = absurd d
dealt_share (m ∷ ms) [] d = absurd d
dealt_share (m ∷ ms) (n ∷ ns) d =
    let i = dealt_share ms ns d.1 in let e = ap (λ (u : Seated). share u.view) d.0.seat in
    let a = sum_by-cons (λ (z : Member). share z.seat.view) m ms in let c = sum_by-cons (λ (z : Member). share z.seat.view) n ns in omega arith

pub dealt_numbers : (ms ns : List Member) → EachDealt ms ns → numbers_of ns ≡ numbers_of ms
dealt_numbers [] [] d = refl
dealt_numbers [] (n ∷ ns) d = absurd d
dealt_numbers (m ∷ ms) [] d = absurd d
dealt_numbers (m ∷ ms) (n ∷ ns) d = ap₂ (λ (k : Hand) (later : List ℕ). k.worker ∷ later) d.0.hand (dealt_numbers ms ns d.1)

dealt_new : (b : Problem) (ms ns : List Member) → EachDealt ms ns → All (IsNew b) ms → All (IsNew b) ns
dealt_new b [] [] d a = a
dealt_new b [] (n ∷ ns) d a = absurd d
dealt_new b (m ∷ ms) [] d a = absurd d
dealt_new b (m ∷ ms) (n ∷ ns) d a =
    let r = All-head (IsNew b) m ms a in
    All-cons (IsNew b) n ns
    record {
      seat = subst (λ (u : Seated). IsUnused u.view) (sym d.0.seat) r.seat;
      hand = subst (hands.IsFresh b) (sym d.0.hand) r.hand;
      left = ap (λ (k : Hand). k.left.items) d.0.hand ∙ r.left;
    } (dealt_new b ms ns d.1 (All-tail (IsNew b) m ms a))

dealt_ready : (b : Problem) (w : Words) (ms ns : List Member) → EachDealt ms ns → All (IsReady b w) ms → All (IsReady b w) ns
dealt_ready b w [] [] d a = a
dealt_ready b w [] (n ∷ ns) d a = absurd d
dealt_ready b w (m ∷ ms) [] d a = absurd d
dealt_ready b w (m ∷ ms) (n ∷ ns) d a =
    let r = All-head (IsReady b w) m ms a in let h = ap (λ (u : Seated). u.view.allowance) d.0.seat in
    All-cons (IsReady b w) n ns
    record {
      seat = subst (IsSeatOf w) (sym d.0.seat) r.seat;
      allowance = (let q = r.allowance in omega arith);
      ring = d.0.stays.frame ∙ r.ring;
      misses = d.0.misses ∙ r.misses;
      leasts = subst (λ (k : Hand). IsOf b k.leasts) (sym d.0.hand) r.leasts;
      scratch = ap (λ (k : Hand). length k.scratch.steps.items) d.0.hand ∙ r.scratch;
    } (dealt_ready b w ms ns d.1 (All-tail (IsReady b w) m ms a))

-- new workers, whose arms are a ring's, got the start boxes
pub set_up : (b : Problem) (w : Words) (boxes : List PlainBox) (arms : List ArmState) (ms ns : List Member) → IsRing arms → AllOfFrame (frame_of b) arms → AllFresh arms → arms_of ms ≡ reverse arms → All (IsNew b) ms → All (IsReady b w) ms → Deals boxes ms ns → AreSetUp b w boxes ns
set_up b w boxes arms ms ns ring frames fresh are new ready d =
    let back : reverse (arms_of ms) ≡ arms = ap (λ (l : List ArmState). reverse l) are ∙ reverse-reverse arms in
    let stays : EachStays arms (reverse (arms_of ns)) = subst (λ (l : List ArmState). EachStays l (reverse (arms_of ns))) back (stays_reverse (arms_of ms) (arms_of ns) (dealt_stays ms ns d.each)) in record {
      new = dealt_new b ms ns d.each new;
      ready = dealt_ready b w ms ns d.each ready;
      ring = ring_same arms (reverse (arms_of ns)) stays ring;
      frames = frames_stay (frame_of b) arms (reverse (arms_of ns)) stays frames;
      puts = λ weight. (let p = d.puts weight in let e = ap (sum_by (put weight)) are in let r = sum_reverse (put weight) arms in let f = fresh_put weight arms fresh in omega arith);
      takes = λ weight. (let p = d.takes weight in let e = ap (sum_by (taken weight)) are in let r = sum_reverse (taken weight) arms in let f = fresh_taken weight arms fresh in omega arith);
    }

-- workers that have worked
pub done_seats : (b : Problem) (w : Words) (starts : ℕ) (ms ns : List Member) → EachDone b w starts ms ns → All (λ (m : Member). IsSeatOf w m.seat) ns
done_seats b w starts [] [] d = All-nil (λ (m : Member). IsSeatOf w m.seat)
done_seats b w starts [] (n ∷ ns) d = absurd d
done_seats b w starts (m ∷ ms) [] d = absurd d
done_seats b w starts (m ∷ ms) (n ∷ ns) d = All-cons (λ (m : Member). IsSeatOf w m.seat) n ns d.0.seat (done_seats b w starts ms ns d.1)

done_stays : (b : Problem) (w : Words) (starts : ℕ) (ms ns : List Member) → EachDone b w starts ms ns → EachStays (arms_of ms) (arms_of ns)
done_stays b w starts [] [] d = tt
done_stays b w starts [] (n ∷ ns) d = absurd d
done_stays b w starts (m ∷ ms) [] d = absurd d
done_stays b w starts (m ∷ ms) (n ∷ ns) d = (d.0.stays, done_stays b w starts ms ns d.1)

pub done_ring : (b : Problem) (w : Words) (starts : ℕ) (ms ns : List Member) → EachDone b w starts ms ns → IsRing (reverse (arms_of ms)) → IsRing (reverse (arms_of ns))
done_ring b w starts ms ns d r = ring_same (reverse (arms_of ms)) (reverse (arms_of ns)) (stays_reverse (arms_of ms) (arms_of ns) (done_stays b w starts ms ns d)) r

pub done_frames : (b : Problem) (w : Words) (starts : ℕ) (f : Frame) (ms ns : List Member) → EachDone b w starts ms ns → AllOfFrame f (reverse (arms_of ms)) → AllOfFrame f (reverse (arms_of ns))
done_frames b w starts f ms ns d a = frames_stay f (reverse (arms_of ms)) (reverse (arms_of ns)) (stays_reverse (arms_of ms) (arms_of ns) (done_stays b w starts ms ns d)) a

-- what is left in the deques, by what the workers' arms put and took
pub left_weighs : (arms : List ArmState) (ms : List Member) (ts : List Tally) (xs : List PlainBox) → arms ≡ reverse (arms_of ms) → Gathers arms ts → IsLeft ts xs
    → (weight : PlainBox → ℕ) → sum_by (put weight) (arms_of ms) ≡ sum_by (taken weight) (arms_of ms) + sum_by weight xs
left_weighs arms ms ts xs are g left weight =
    let q = g.weighs xs left weight in let a = ap (sum_by (put weight)) are in let c = sum_reverse (put weight) (arms_of ms) in
    let d = ap (sum_by (taken weight)) are in let e = sum_reverse (taken weight) (arms_of ms) in omega arith
