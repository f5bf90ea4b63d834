-- One more worker has its arm, its seat and its hand.
use Rattle.std.proofs.Common.{◌≡◌, ℕ, zero, suc, ◌+◌, ◌*◌, ◌<◌, ◌≤◌, List, [], ◌∷◌, ◌++◌, length, length-append, reverse, sym, ap, ◌∙◌, subst, arith, All}
use Rattle.std.specs.List.{range_with_len}
use Rattle.std.proofs.lemmas.List.{map-append, append_assoc, reverse-append}
use Rattle.std.proofs.lemmas.List.Elements.{All-push}
use Rattle.std.proofs.lemmas.List.Sums.{sum_by_push}
use Rattle.glass_base.specs.Problem.{Problem}
use Rattle.plan_box.specs.declared.frame.Frame.{Frame}
use Rattle.plan_box.specs.Frames.{frame_of}
use Rattle.box_ring.specs.Arms.{ArmState, frame, IsFresh, AllOfFrame, AllFresh}
use Rattle.shared_best.specs.declared.view.View.{View}
use Rattle.shared_best.specs.Seats.{Words, Seated, IsSeatOf}
use Rattle.shared_best.specs.Words.{share, kept_half, new_half}
use Rattle.box_workers.specs.declared.member.Member.{Member}
use Rattle.box_workers.specs.inner.Enlisting.{enough_for}
use Rattle.box_workers.specs.inner.Hands as hands
use Rattle.box_workers.specs.inner.Members.{IsUnused, IsNew, IsReady, arms_of, numbers_of, share_of}
use Rattle.glass_base.specs.declared.limits.TheConstants.{MOST_BUDGET}

pub enough_least : (n : ℕ) → 10000001 ≤ enough_for n
enough_least zero = omega arith
enough_least (suc n) = let i = enough_least n in omega arith

-- one number more
numbers_more : (a n : ℕ) → range_with_len a (suc n) ≡ range_with_len a n ++ (a + n) ∷ []
numbers_more a zero = let same : a ≡ a + zero = omega arith in ap (λ (k : ℕ). k ∷ []) same
numbers_more a (suc n) =
    let next : (a + 1) + n ≡ a + suc n = omega arith in
    ap (λ (ks : List ℕ). a ∷ ks) (numbers_more (a + 1) n ∙ ap (λ (k : ℕ). range_with_len (a + 1) n ++ k ∷ []) next)

-- the last arm of a row, and the row before it
frames_parts : (f : Frame) (xs : List ArmState) (x : ArmState) → AllOfFrame f (xs ++ x ∷ []) → AllOfFrame f xs × (frame x ≡ f)
frames_parts f [] x a = (tt, a.0)
frames_parts f (y ∷ ys) x a = let r = frames_parts f ys x a.1 in ((a.0, r.0), r.1)

fresh_parts : (xs : List ArmState) (x : ArmState) → AllFresh (xs ++ x ∷ []) → AllFresh xs × IsFresh x
fresh_parts [] x a = (tt, a.0)
fresh_parts (y ∷ ys) x a = let r = fresh_parts ys x a.1 in ((a.0, r.0), r.1)

-- the workers so far, and the arms that wait for one
pub record Enlists (b : Problem) (w : Words) (all arms : List ArmState) (ms : List Member) (first s : Seated) : Type 0 where
  pub seat : IsSeatOf w s
  pub unused : IsUnused s.view
  pub enough : enough_for (length arms) ≤ s.view.allowance
  pub few : length arms ≤ 8
  pub share_is : share s.view + share_of ms ≡ share first.view
  pub arms_are : arms_of ms ++ reverse arms ≡ reverse all
  pub numbers_are : numbers_of ms ++ reverse (range_with_len 0 (length arms)) ≡ reverse (range_with_len 0 (length all))
  pub new : All (IsNew b) ms
  pub ready : All (IsReady b w) ms
  pub frames : AllOfFrame (frame_of b) arms
  pub fresh : AllFresh arms

-- one worker more
module _ (b : Problem) (w : Words) (all arms rest : List ArmState) (ms more : List Member) (m : Member) (first s t : Seated) (last : arms ≡ rest ++ m.arm ∷ []) (pushed : more ≡ ms ++ m ∷ []) (budget : w.budget ≤ MOST_BUDGET)
    (of_t : IsSeatOf w t) (of_m : IsSeatOf w m.seat) (kept : t.view ≡ kept_half s.view) (half : m.seat.view ≡ new_half s.view) (hand : hands.IsFresh b m.hand) (left : m.hand.left.items ≡ []) (number : m.hand.worker ≡ length rest) (r : Enlists b w all arms ms first s) where
  enough : 2 * enough_for (length rest) ≤ s.view.allowance
  enough =
      let p = ap (λ (l : List ArmState). length l) last in let q = length-append rest (m.arm ∷ []) in
      let long : length arms ≡ suc (length rest) = omega arith in let e = ap enough_for long in let h = r.enough in omega arith

  allowances : (enough_for (length rest) ≤ t.view.allowance) × (w.budget < m.seat.view.allowance)
  allowances =
      let h = enough in let l = enough_least (length rest) in
      let k = ap (λ (v : View). v.allowance) kept in let n = ap (λ (v : View). v.allowance) half in (omega arith, omega arith)

  numbers : numbers_of more ++ reverse (range_with_len 0 (length rest)) ≡ reverse (range_with_len 0 (length all))
  numbers =
      let before = reverse (range_with_len 0 (length rest)) in
      let long : length arms ≡ suc (length rest) = (let p = ap (λ (l : List ArmState). length l) last in let q = length-append rest (m.arm ∷ []) in omega arith) in
      let counted : reverse (range_with_len 0 (length arms)) ≡ (0 + length rest) ∷ before =
      ap (λ (n : ℕ). reverse (range_with_len 0 n)) long ∙ ap (λ (ks : List ℕ). reverse ks) (numbers_more 0 (length rest)) ∙ reverse-append (range_with_len 0 (length rest)) ((0 + length rest) ∷ []) in
      let own : m.hand.worker ≡ 0 + length rest = omega (arith, number) in
      ap (λ (ks : List ℕ). ks ++ before) (ap numbers_of pushed ∙ map-append (λ (z : Member). z.hand.worker) ms (m ∷ []))
      ∙ append_assoc (numbers_of ms) (m.hand.worker ∷ []) before
      ∙ ap (λ (k : ℕ). numbers_of ms ++ k ∷ before) own
      ∙ ap (λ (ks : List ℕ). numbers_of ms ++ ks) (sym counted)
      ∙ r.numbers_are

  pub enlists_more : Enlists b w all rest more first t
  enlists_more =
      let f = frames_parts (frame_of b) rest m.arm (subst (AllOfFrame (frame_of b)) last r.frames) in
      let g = fresh_parts rest m.arm (subst AllFresh last r.fresh) in let u = r.unused in
      let new : IsNew b m = record {
        seat = record { tickets = ap (λ (v : View). v.tickets) half; looks = ap (λ (v : View). v.looks) half; announced = ap (λ (v : View). v.announced) half };
        hand = hand;
        left = left;
      } in
      let ready : IsReady b w m = record { seat = of_m; allowance = allowances.1; ring = f.1; misses = g.1.misses; leasts = hand.leasts; scratch = hand.scratch } in record {
        seat = of_t;
        unused = record {
          tickets = ap (λ (v : View). v.tickets) kept ∙ u.tickets;
          looks = ap (λ (v : View). v.looks) kept ∙ u.looks;
          announced = ap (λ (v : View). v.announced) kept ∙ u.announced;
        };
        enough = allowances.0;
        few = (let p = ap (λ (l : List ArmState). length l) last in let q = length-append rest (m.arm ∷ []) in let n = r.few in omega arith);
        share_is = (
            let p = r.share_is in let q = ap share_of pushed in let c = sum_by_push (λ (z : Member). share z.seat.view) ms m in
            let k = ap (λ (v : View). v.allowance) kept in let n = ap (λ (v : View). v.allowance) half in
            let i = ap (λ (v : View). length v.tickets) kept in let j = ap (λ (v : View). length v.tickets) half in omega arith);
        arms_are = (
            let p : arms_of more ≡ arms_of ms ++ m.arm ∷ [] = ap arms_of pushed ∙ map-append (λ (z : Member). z.arm) ms (m ∷ []) in
            let q : reverse arms ≡ m.arm ∷ reverse rest = ap (λ (l : List ArmState). reverse l) last ∙ reverse-append rest (m.arm ∷ []) in
            ap (λ (l : List ArmState). l ++ reverse rest) p ∙ append_assoc (arms_of ms) (m.arm ∷ []) (reverse rest) ∙ ap (λ (l : List ArmState). arms_of ms ++ l) (sym q) ∙ r.arms_are);
        numbers_are = numbers;
        new = subst (All (IsNew b)) (sym pushed) (All-push (IsNew b) ms m r.new new);
        ready = subst (All (IsReady b w)) (sym pushed) (All-push (IsReady b w) ms m r.ready ready);
        frames = f.0;
        fresh = g.0;
      }
