-- One more box, one more ticket.
use Rattle.std.proofs.Common.{◌≡◌, ℕ, ◌+◌, ◌<◌, ◌≤◌, inl, inr, Bool, true, false, cond, nat_lt, List, [], ◌∷◌, ◌++◌, length, length-append, map, min, refl, sym, ap, ◌∙◌, arith, All}
use Rattle.std.specs.Prelude.{sum_by}
use Rattle.std.specs.List.{AllPairs, slice_index_or}
use Rattle.std.proofs.lemmas.List.Elements.{All-append, All-cons, All-nil, All-push, Contains-get_or}
use Rattle.std.proofs.lemmas.List.Quantifiers.{all_pairs_push}
use Rattle.std.proofs.lemmas.List.{map-append}
use Rattle.std.proofs.lemmas.List.Sums.{sum_by-append, sum_by-cons}
use Rattle.glass_base.specs.Problem.{Problem}
use Rattle.plan_box.specs.Ranges.{PlainBox}
use Rattle.plan_box.specs.Frames.{frame_of}
use Rattle.cert_log.specs.declared.history.Act.{Act}
use Rattle.cert_log.specs.Levels.{made_of}
use Rattle.cert_log.specs.Lawful.{times}
use Rattle.cert_log.proofs.Members.{times-append, times-cons, counted}
use Rattle.cert_log.specs.Events.{Event, made_by, all_boxes, tickets_of}
use Rattle.cert_log.proofs.Sames.{test_same}
use Rattle.cert_log.proofs.Counts.{sum_map}
use Rattle.shared_best.specs.declared.view.View.{View}
use Rattle.shared_best.specs.Seats.{Words, Seated}
use Rattle.shared_best.specs.Words.{lowered, last_or}
use Rattle.box_workers.specs.declared.hand.Hand.{Hand}
use Rattle.box_workers.specs.declared.handling.Done.{Done}
use Rattle.box_workers.specs.Handling.{Answers, told}
use Rattle.box_workers.specs.Runs.{least_loss}
use Rattle.box_workers.specs.inner.Rounds.{AreFew, Turns}

-- a choice between two views leaves what both have
pub told_keeps : {X : Type 0} (f : View → X) (loss probed : ℕ) (v : View) → f (lowered v probed) ≡ f v → f (told loss probed v) ≡ f v
told_keeps {X} f loss probed v same = by_test (nat_lt probed loss)
  where
    by_test : (t : Bool) → f (cond t (lowered v probed) v) ≡ f v
    by_test true = same
    by_test false = refl

pub last_push : (d t : ℕ) (xs : List ℕ) → last_or d (xs ++ t ∷ []) ≡ t
last_push d t [] = refl
last_push d t (x ∷ xs) = last_push x t xs

pub least_push : (loss : ℕ) (es : List Event) (e : Event) → least_loss loss (es ++ e ∷ []) ≡ min (least_loss loss es) e.probed
least_push loss [] e = refl
least_push loss (d ∷ es) e = least_push (min loss d.probed) es e

pub least_low : (loss : ℕ) (es : List Event) → least_loss loss es ≤ loss
least_low loss [] = omega arith
least_low loss (e ∷ es) = let i = least_low (min loss e.probed) es in omega arith

pub all_sum : (h : PlainBox → ℕ) (es : List Event) (ws : List PlainBox) → sum_by h (all_boxes es ws) ≡ sum_by (λ (e : Event). h e.box) es + sum_by h ws
all_sum h es ws = let a = sum_by-append h (map (λ (e : Event). e.box) es) ws in let m = sum_map (λ (e : Event). e.box) h es in omega arith

-- there are no more tickets than the last one tells
pub few_push : (budget : ℕ) (es : List Event) (e : Event) → AreFew budget es → ((x : ℕ) → 0 < times x (tickets_of es) → x < e.ticket) → e.ticket < budget → AreFew budget (es ++ e ∷ [])
few_push budget es e few above under = inr (e.ticket, stands, long few, under)
  where
    stands : 0 < times e.ticket (tickets_of (es ++ e ∷ []))
    stands =
        let m = ap (times e.ticket) (map-append (λ (d : Event). d.ticket) es (e ∷ [])) in let a = times-append e.ticket (tickets_of es) (e.ticket ∷ []) in
        let c = times-cons e.ticket e.ticket [] in let o = test_same e.ticket e.ticket refl in omega arith

    long : AreFew budget es → length (es ++ e ∷ []) ≤ e.ticket + 1
    long (inl none) = let a = length-append es (e ∷ []) in let z = ap (λ (l : List Event). length l) none in omega arith
    long (inr some) = let a = length-append es (e ∷ []) in let u = above some.0 some.1 in let l = some.2 in omega arith

-- the tickets rise
pub rising_push : (es : List Event) (e : Event) → AllPairs (λ (c : Event) (d : Event). c.ticket < d.ticket) es → ((x : ℕ) → 0 < times x (tickets_of es) → x < e.ticket) → AllPairs (λ (c : Event) (d : Event). c.ticket < d.ticket) (es ++ e ∷ [])
rising_push es e rise above =
    all_pairs_push (λ (c : Event) (d : Event). c.ticket < d.ticket) es e rise
    (λ k d within. above (slice_index_or es k d).ticket (let c = counted (λ (z : Event). z.ticket) es (slice_index_or es k d) (Contains-get_or es k d within) in omega arith))

-- the halves of a box have its frame
pub made_frames : (b : Problem) (starts ticket : ℕ) (a : Act) (x lower upper : PlainBox) → x.frame ≡ frame_of b → made_of starts ticket a x ≡ lower ∷ upper ∷ [] → (lower.frame ≡ frame_of b) × (upper.frame ≡ frame_of b)
made_frames b starts ticket (Act.Split step v) x lower upper of is =
    (sym (ap (λ (l : List PlainBox). (first_or x l).frame) is) ∙ of, sym (ap (λ (l : List PlainBox). (second_or x l).frame) is) ∙ of)
  where
    first_or : PlainBox → List PlainBox → PlainBox
    first_or d [] = d
    first_or d (y ∷ _) = y

    second_or : PlainBox → List PlainBox → PlainBox
    second_or d [] = d
    second_or d (y ∷ ys) = first_or d ys
made_frames b starts ticket (Act.Closed cause threshold) x lower upper of is = absurd (let e = ap (λ (l : List PlainBox). length l) is in omega arith)

-- so all boxes that wait have the frame, where the halves of a box wait
pub halves_wait : (b : Problem) (starts : ℕ) (e : Event) (x lower upper : PlainBox) (ws : List PlainBox) → All (λ (y : PlainBox). y.frame ≡ frame_of b) ws → e.box ≡ x → x.frame ≡ frame_of b → made_by starts e ≡ lower ∷ upper ∷ []
    → All (λ (y : PlainBox). y.frame ≡ frame_of b) (ws ++ upper ∷ lower ∷ [])
halves_wait b starts e x lower upper ws before same of is =
    let m = made_frames b starts e.ticket e.act e.box lower upper (ap (λ (y : PlainBox). y.frame) same ∙ of) is in let P = λ (y : PlainBox). y.frame ≡ frame_of b in
    All-append P ws (upper ∷ lower ∷ []) before (All-cons P upper (lower ∷ []) m.1 (All-cons P lower [] m.0 (All-nil P)))

-- or the box itself waits on
pub waits_on : (b : Problem) (x y : PlainBox) (ws : List PlainBox) → All (λ (z : PlainBox). z.frame ≡ frame_of b) ws → y ≡ x → x.frame ≡ frame_of b → All (λ (z : PlainBox). z.frame ≡ frame_of b) (ws ++ y ∷ [])
waits_on b x y ws before same of = All-push (λ (z : PlainBox). z.frame ≡ frame_of b) ws y before (ap (λ (z : PlainBox). z.frame) same ∙ of)

-- a box that was closed was handled, and has no halves
pub turns_closed : (b : Problem) (w : Words) (starts : ℕ) (x : PlainBox) (s t : Seated) (k l : Hand) (before after : List PlainBox) → after ≡ before → Answers b w starts x s t k l Done.Closed → Turns b w starts x s t k l before after
turns_closed b w starts x s t k l before after same d = record {
  event = d.0;
  handles = d.1;
  waits = λ h. (let m = ap (sum_by h) d.2 in let i = ap (sum_by h) same in omega arith);
}

-- the halves of a box that was split wait
pub turns_split : (b : Problem) (w : Words) (starts : ℕ) (x : PlainBox) (s t : Seated) (k l : Hand) (before between after : List PlainBox) (lower upper : PlainBox) → between ≡ before → after ≡ between ++ upper ∷ lower ∷ []
    → Answers b w starts x s t k l (Done.Split lower upper) → Turns b w starts x s t k l before after
turns_split b w starts x s t k l before between after lower upper same put d = record {
  event = d.0;
  handles = d.1;
  waits = λ h. (
      let m = ap (sum_by h) d.2 in let i = ap (sum_by h) same in let p = ap (sum_by h) put in let a = sum_by-append h between (upper ∷ lower ∷ []) in
      let u = sum_by-cons h upper (lower ∷ []) in let v = sum_by-cons h lower [] in let y = sum_by-cons h lower (upper ∷ []) in let z = sum_by-cons h upper [] in omega arith);
}
