-- Each kind of step keeps the rule.
use Rattle.std.proofs.Common.{◌≡◌, ◌≢◌, ℕ, ◌+◌, ◌/◌, ◌%◌, ◌^◌, ◌<◌, ◌≤◌, true, true≢false, List, [], ◌∷◌, length, set, min, sym, refl, ap, ◌∙◌, subst, ⊎_elim, arith, slice_index, length-append}
use mathlib.Core.Option.{none, some, some-injective}
use lib.ListN.{get_elem?}
use Rattle.atomic_table.proofs.Lists.{at_set, set_else}
use Rattle.atomic_table.specs.Table.{Me, step, Act, Allows, Splits, Joins, Valid, stepped, carried_after, Final, Seen}
use Rattle.atomic_table.specs.Table.Act.{keeps}
use Rattle.shared_best.specs.declared.view.View.{View}
use Rattle.shared_best.specs.Words.{none_known, all_draws, times, once_below, IsEachOnce, share, IsWhole, looked, lowered, drawn, kept_half, new_half, joined, Settles}
use Rattle.shared_best.specs.inner.Plays.{look_then, lower_then, draw_then, settle_then}
use Rattle.shared_best.specs.Rule.{Fits, Sound, all_words, Kept, spent_view}
use Rattle.shared_best.proofs.Counts.{times-append, once_more, below_once, sum_two}
use Rattle.std.proofs.lemmas.List.Sums.{sum_by-append}
use Rattle.shared_best.proofs.Views.{total_set, at_le, two_le, sum_alone, each_set, each_snoc, least_low, least_at, least_set, least_snoc, least_alone, set_there, empty_of_length}

-- what a step of one seat owes, to keep the rule
pub record Owes (first best next best' next' : ℕ) (v w : View) : Type 0 where
  pub best_is : best' ≡ min best w.announced
  pub announced : w.announced ≤ v.announced
  pub tickets : (x : ℕ) → times x w.tickets + once_below x next ≡ times x v.tickets + once_below x next'
  pub count : length w.tickets + next ≡ length v.tickets + next'
  pub share_is : share w ≡ share v
  pub fits : Fits first best' w

pub turns : (k best next best' next' : ℕ) (views : List View) (id : ℕ) (v w : View) → get_elem? views id ≡ some v → Sound k best next views → Owes k best next best' next' v w
    → Sound k best' next' (set views id w)
turns k best next best' next' views id v w at h o =
    let low : best ≤ v.announced = (let e = least_at k views id v at in let b = h.best_is in omega arith) in
    record {
      small = h.small;
      best_is = (let e = least_set k views id v w at in let l = least_at k (set views id w) id w (set_there views id v w at) in let b = h.best_is in let c = o.best_is in let d = o.announced in omega arith);
      tickets = λ x. (let e = total_set (λ (u : View). times x u.tickets) views id v w at in let t = h.tickets x in let c = o.tickets x in omega arith);
      count = (let e = total_set (λ (u : View). length u.tickets) views id v w at in let t = h.count in let c = o.count in omega arith);
      shares = (let e = total_set share views id v w at in let t = h.shares in let c = o.share_is in omega arith);
      each = each_set (Fits k best') views id w o.fits (λ j u n e.
          let f = h.each j u e in record { of_first = f.of_first; seen = (let s = f.seen in let b = o.best_is in omega arith); quiet = f.quiet });
    }

-- a step on the best loss, and one on the next ticket
on_best : (k slots id : ℕ) (v : View) (held : List (ℕ × ℕ)) (f : ℕ → ℕ) (then : ℕ → Me ℕ View → Type 0)
    → ((best next : ℕ) (views : List View) → Sound k best next views → get_elem? views id ≡ some v → (w : View) × Sound k (f best) next (set views id w) × then best (w, held))
    → Allows (Kept k) slots id (v, held) 16 f then
on_best k slots id v held f then go s h homes at fits =
    let P : List ℕ → Type 0 = λ ws. (w : View) × (a : Act ℕ) × Valid s.homes held a
    × Kept k (stepped (record { words = ws; homes = s.homes; views = s.views }) 16 (f (slice_index ws 16)) id held w a) × then (slice_index ws 16) (w, carried_after held a) in
    let g = go h.best h.next s.views h.sound at in
    subst P (sym h.words) (g.0, keeps, tt, record { best = f h.best; next = h.next; words = refl; sound = g.1 }, g.2)

on_next : (k slots id : ℕ) (v : View) (held : List (ℕ × ℕ)) (f : ℕ → ℕ) (then : ℕ → Me ℕ View → Type 0)
    → ((best next : ℕ) (views : List View) → Sound k best next views → get_elem? views id ≡ some v → (w : View) × Sound k best (f next) (set views id w) × then next (w, held))
    → Allows (Kept k) slots id (v, held) 17 f then
on_next k slots id v held f then go s h homes at fits =
    let P : List ℕ → Type 0 = λ ws. (w : View) × (a : Act ℕ) × Valid s.homes held a
    × Kept k (stepped (record { words = ws; homes = s.homes; views = s.views }) 17 (f (slice_index ws 17)) id held w a) × then (slice_index ws 17) (w, carried_after held a) in
    let g = go h.best h.next s.views h.sound at in
    subst P (sym h.words) (g.0, keeps, tt, record { best = h.best; next = f h.next; words = refl; sound = g.1 }, g.2)

-- beside a whole view the others have nothing
others_idle : (k best next : ℕ) (views : List View) (id : ℕ) (v : View) → Sound k best next views → get_elem? views id ≡ some v → IsWhole v
    → (j : ℕ) (u : View) → j ≢ id → get_elem? views j ≡ some u → (length u.tickets ≡ 0) × (u.announced ≡ none_known)
others_idle k best next views id v h at whole j u n e =
    let two = two_le share views id j v u n at e in let s = h.shares in let idle : share u ≡ 0 = omega arith in
    (omega arith, (h.each j u e).quiet (omega arith) (empty_of_length u.tickets (omega arith)))

whole_best : (k best next : ℕ) (views : List View) (id : ℕ) (v : View) → Sound k best next views → get_elem? views id ≡ some v → IsWhole v → best ≡ min k v.announced
whole_best k best next views id v h at whole = h.best_is ∙ least_alone k views id v h.small at (λ j u n e. (others_idle k best next views id v h at whole j u n e).1)

pub looks : (k slots id : ℕ) (v : View) (held : List (ℕ × ℕ)) → Allows (Kept k) slots id (v, held) 16 (λ n. n) (look_then (step slots 16 0 0 none) (v, held))
looks k slots id v held = on_best k slots id v held (λ n. n) (look_then (step slots 16 0 0 none) (v, held)) (λ best next views h at.
    let mine = h.each id v at in let low : best ≤ v.announced = (let e = least_at k views id v at in let b = h.best_is in omega arith) in
    let under : best ≤ k = (let e = least_low k views in let b = h.best_is in omega arith) in (
      looked v best,
      turns k best next best next views id v (looked v best) at h record {
        best_is = omega arith;
        announced = omega arith;
        tickets = λ x. refl;
        count = refl;
        share_is = refl;
        fits = record { of_first = mine.of_first; seen = omega arith; quiet = mine.quiet };
      },
      (
        record {
          is = refl;
          seen = mine.seen;
          announced = low;
          first = λ live. (let f = mine.of_first live in omega arith);
          whole = λ live whole. (let f = mine.of_first live in let b = whole_best k best next views id v h at whole in omega arith);
        },
        refl,
      ),
    ))

pub lowers : (k slots id loss : ℕ) (v : View) (held : List (ℕ × ℕ)) → 0 < share v → Allows (Kept k) slots id (v, held) 16 (λ n. min n loss) (lower_then (step slots 16 loss 0 none) (v, held))
lowers k slots id loss v held some_share = on_best k slots id v held (λ n. min n loss) (lower_then (step slots 16 loss 0 none) (v, held)) (λ best next views h at.
    let mine = h.each id v at in let low : best ≤ v.announced = (let e = least_at k views id v at in let b = h.best_is in omega arith) in (
      lowered v loss,
      turns k best next (min best loss) next views id v (lowered v loss) at h record {
        best_is = omega arith;
        announced = omega arith;
        tickets = λ x. refl;
        count = refl;
        share_is = refl;
        fits = record {
          of_first = mine.of_first;
          seen = (let s = mine.seen in omega arith);
          quiet = λ none_left no_ticket. absurd (let e : length v.tickets ≡ 0 = ap (λ (l : List ℕ). length l) no_ticket in omega arith);
        };
      },
      (refl, refl),
    ))

-- the next ticket and what a seat may still draw are few
room : (k best next : ℕ) (views : List View) (id : ℕ) (v : View) → Sound k best next views → get_elem? views id ≡ some v → next + v.allowance ≤ all_draws
room k best next views id v h at =
    let two = sum_two (λ (u : View). u.allowance) (λ (u : View). length u.tickets) views in let a = at_le (λ (u : View). u.allowance) views id v at in let c = h.count in let s = h.shares in
    omega arith

drawn_above : (k best next : ℕ) (views : List View) (id : ℕ) (v : View) → Sound k best next views → get_elem? views id ≡ some v → (x : ℕ) → 0 < times x v.tickets → x < next
drawn_above k best next views id v h at x has = below_once x next (let a = at_le (λ (u : View). times x u.tickets) views id v at in let t = h.tickets x in omega arith)

pub draws : (k slots id : ℕ) (v : View) (held : List (ℕ × ℕ)) → 0 < v.allowance → Allows (Kept k) slots id (v, held) 17 (λ n. (n + 1) % 2 ^ 64) (draw_then (step slots 17 1 0 none) (v, held))
draws k slots id v held may = on_next k slots id v held (λ n. (n + 1) % 2 ^ 64) (draw_then (step slots 17 1 0 none) (v, held)) (λ best next views h at.
    let mine = h.each id v at in let low : best ≤ v.announced = (let e = least_at k views id v at in let b = h.best_is in omega arith) in
    let r = room k best next views id v h at in let small : (next + 1) % 2 ^ 64 ≡ next + 1 = omega arith in
    let long = length-append v.tickets (next ∷ []) in (
      drawn v next,
      turns k best next best ((next + 1) % 2 ^ 64) views id v (drawn v next) at h record {
        best_is = omega arith;
        announced = omega arith;
        tickets = λ x. rw small (once_more x next v.tickets);
        count = omega arith;
        share_is = omega arith;
        fits = record { of_first = mine.of_first; seen = mine.seen; quiet = λ none_left no_ticket. absurd (let e = ap (λ (l : List ℕ). length l) no_ticket in omega arith) };
      },
      (record { is = refl; above = drawn_above k best next views id v h at }, refl),
    ))

settled : (k best next : ℕ) (views : List View) (id : ℕ) (v : View) → Sound k best next views → get_elem? views id ≡ some v → v.live ≡ true → IsWhole v → Settles v
settled k best next views id v h at live whole =
    let idle = others_idle k best next views id v h at whole in
    let all : length v.tickets ≡ next = sym (sum_alone (λ (u : View). length u.tickets) views id v at (λ j u n e. (idle j u n e).0)) ∙ h.count in record {
      tickets = λ x. sym (sum_alone (λ (u : View). times x u.tickets) views id v at (λ j u n e. ap (times x) (empty_of_length u.tickets (idle j u n e).0))) ∙ h.tickets x ∙ ap (once_below x) (sym all);
      seen = (let b = whole_best k best next views id v h at whole in let f = (h.each id v at).of_first live in let s = (h.each id v at).seen in omega arith);
    }

pub settles : (k slots id : ℕ) (v : View) (held : List (ℕ × ℕ)) → Allows (Kept k) slots id (v, held) 16 (λ n. n) (settle_then (step slots 16 0 0 none) (v, held))
settles k slots id v held = on_best k slots id v held (λ n. n) (settle_then (step slots 16 0 0 none) (v, held)) (λ best next views h at.
    let mine = h.each id v at in let low : best ≤ v.announced = (let e = least_at k views id v at in let b = h.best_is in omega arith) in (
      v,
      turns k best next best next views id v v at h record { best_is = omega arith; announced = omega arith; tickets = λ x. refl; count = refl; share_is = refl; fits = mine },
      (refl, (let a = at_le share views id v at in let s = h.shares in omega arith), settled k best next views id v h at),
    ))

pub splits : (k id : ℕ) (v : View) → Splits (Kept k) id v (kept_half v) (new_half v)
splits k id v s h at = record {
  best = h.best;
  next = h.next;
  words = h.words;
  sound =
      let b = h.sound in let vs = set s.views id (kept_half v) in let mine = b.each id v at in
      let under : h.best ≤ none_known = (let e = least_low k s.views in let i = b.best_is in let z = b.small in omega arith) in
      let halves : v.allowance / 2 ≤ v.allowance = omega arith in
      let low : h.best ≤ v.announced = (let e = least_at k s.views id v at in let i = b.best_is in omega arith) in
      record {
        small = b.small;
        best_is = (let e = least_set k s.views id v (kept_half v) at in let l = least_at k vs id (kept_half v) (set_there s.views id v (kept_half v) at) in
            let n = least_snoc k vs (new_half v) in let i = b.best_is in omega arith);
        tickets = λ x. (let e = total_set (λ (u : View). times x u.tickets) s.views id v (kept_half v) at in let n = sum_by-append (λ (u : View). times x u.tickets) vs (new_half v ∷ []) in
            let i = b.tickets x in omega arith);
        count = (let e = total_set (λ (u : View). length u.tickets) s.views id v (kept_half v) at in let n = sum_by-append (λ (u : View). length u.tickets) vs (new_half v ∷ []) in
            let i = b.count in omega arith);
        shares = (let e = total_set share s.views id v (kept_half v) at in let n = sum_by-append share vs (new_half v ∷ []) in let i = b.shares in omega arith);
        each = each_snoc (Fits k h.best) vs (new_half v) record { of_first = mine.of_first; seen = mine.seen; quiet = λ _ _. refl }
            (each_set (Fits k h.best) s.views id (kept_half v) record { of_first = mine.of_first; seen = mine.seen; quiet = λ none_left no_ticket. mine.quiet (omega arith) no_ticket }
            (λ j u n e. b.each j u e));
      };
}

pub joins : (k id other : ℕ) (v w : View) → Joins (Kept k) id v other w (joined v w) spent_view
joins k id other v w s h at two at' = record {
  best = h.best;
  next = h.next;
  words = h.words;
  sound =
      let b = h.sound in let vs = set s.views id (joined v w) in let mine = b.each id v at in
      let was : get_elem? s.views other ≡ some w = ⊎_elim (λ (t : (other ≡ id) × (joined v w ≡ w)). absurd (two t.0)) (λ (t : (other ≢ id) × (get_elem? s.views other ≡ some w)). t.1) (at_set s.views id other (joined v w) w at') in
      let yours = b.each other w was in
      let both_fit : Fits k h.best (joined v w) = record {
        of_first = mine.of_first;
        seen = (let a = mine.seen in let c = yours.seen in omega arith);
        quiet = λ none_left no_ticket.
            let e : length v.tickets + length w.tickets ≡ 0 = sym (length-append v.tickets w.tickets) ∙ ap (λ (l : List ℕ). length l) no_ticket in
            let a = mine.quiet (omega arith) (empty_of_length v.tickets (omega arith)) in let c = yours.quiet (omega arith) (empty_of_length w.tickets (omega arith)) in omega arith;
      } in
      let low : h.best ≤ v.announced = (let e = least_at k s.views id v at in let i = b.best_is in omega arith) in
      let low' : h.best ≤ w.announced = (let e = least_at k s.views other w was in let i = b.best_is in omega arith) in
      let under : h.best ≤ none_known = (let e = least_low k s.views in let i = b.best_is in let z = b.small in omega arith) in
      record {
        small = b.small;
        best_is = (let e = least_set k s.views id v (joined v w) at in let l = least_at k vs id (joined v w) (set_there s.views id v (joined v w) at) in
            let e' = least_set k vs other w spent_view at' in let l' = least_at k vs other w at' in let z = least_low k vs in let y = least_low k (set vs other spent_view) in let q = b.small in let i = b.best_is in
            let d = least_at k (set vs other spent_view) id (joined v w) (set_else vs other id spent_view (λ (q : id ≡ other). two (sym q)) ∙ set_there s.views id v (joined v w) at) in omega arith);
        tickets = λ x. (let e = total_set (λ (u : View). times x u.tickets) s.views id v (joined v w) at in let e' = total_set (λ (u : View). times x u.tickets) vs other w spent_view at' in
            let n = times-append x v.tickets w.tickets in let i = b.tickets x in omega arith);
        count = (let e = total_set (λ (u : View). length u.tickets) s.views id v (joined v w) at in let e' = total_set (λ (u : View). length u.tickets) vs other w spent_view at' in
            let n = length-append v.tickets w.tickets in let i = b.count in omega arith);
        shares = (let e = total_set share s.views id v (joined v w) at in let e' = total_set share vs other w spent_view at' in
            let n = length-append v.tickets w.tickets in let i = b.shares in omega arith);
        each = each_set (Fits k h.best) vs other spent_view record { of_first = λ live. absurd (true≢false (sym live)); seen = under; quiet = λ _ _. refl }
            (λ j u n e. each_set (Fits k h.best) s.views id (joined v w) both_fit (λ i x m d. b.each i x d) j u e);
      };
}

pub record Closes (n next : ℕ) (v : View) : Type 0 where
  pub best_is : n ≡ min v.first v.announced
  pub seen : n ≤ v.seen
  pub next_is : next ≡ length v.tickets
  pub once : IsEachOnce v.tickets

-- what the words are once a whole seat closes them
pub closes : (k id : ℕ) (v : View) (ws xs : List ℕ) (n next : ℕ) → Final (Seen (Kept k) id v) ws xs → v.live ≡ true → IsWhole v → get_elem? ws 16 ≡ some n → get_elem? ws 17 ≡ some next → Closes n next v
closes k id v ws xs n next final live whole first second =
    let s = final.0 in let h : Kept k s = final.1.0 in let at = final.1.1 in let is : all_words h.best h.next ≡ ws = sym h.words ∙ final.2 in
    let n_is : h.best ≡ n = some-injective h.best n (ap (λ (l : List ℕ). get_elem? l 16) is ∙ first) in
    let next_is : h.next ≡ next = some-injective h.next next (ap (λ (l : List ℕ). get_elem? l 17) is ∙ second) in
    let e = settled k h.best h.next s.views id v h.sound at live whole in let b = whole_best k h.best h.next s.views id v h.sound at whole in let f = (h.sound.each id v at).of_first live in
    let idle = others_idle k h.best h.next s.views id v h.sound at whole in
    let all : length v.tickets ≡ h.next = sym (sum_alone (λ (u : View). length u.tickets) s.views id v at (λ j u m d. (idle j u m d).0)) ∙ h.sound.count in record {
      best_is = omega arith;
      seen = (let z = e.seen in omega arith);
      next_is = omega arith;
      once = e.tickets;
    }
