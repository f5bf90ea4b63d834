-- What an arm puts and takes.
use Rattle.std.proofs.Common.{◌≡◌, ℕ, ◌+◌, ◌≤◌, List, [], ◌∷◌, ◌++◌, refl, ap, arith}
use Rattle.std.specs.Prelude.{sum_by}
use Rattle.std.proofs.lemmas.List.Sums.{sum_by-cons, sum_by_push}
use Rattle.plan_box.specs.Ranges.{PlainBox}
use Rattle.cert_log.specs.Events.{Event, made_by}
use Rattle.box_ring.specs.Arms.{ArmState}
use Rattle.box_workers.specs.declared.working.Rest.{Rest}
use Rattle.box_workers.specs.Works.{Traffic, RestsFor}
use Rattle.box_workers.specs.inner.Rounds.{Moves, Midway}
use Rattle.box_workers.proofs.Progress.{all_sum}

pub midway_none : (starts : ℕ) (a : ArmState) → Midway starts a a [] []
midway_none starts a = record { puts = λ h. omega arith; takes = λ h. omega arith }

module _ (starts : ℕ) (a c d : ArmState) (es : List Event) (ws : List PlainBox) (r : Midway starts a c es ws) where
  -- no box is at hand any more
  pub traffic_idle : Moves ws [] [] c d → Traffic starts a d es []
  traffic_idle m = record {
    puts = λ h. (let q = r.puts h in let t = m.puts h in omega arith);
    takes = λ h. (let q = r.takes h in let t = m.takes h in let n = all_sum h es [] in omega arith);
  }

  -- a worker found no box
  pub midway_idle : (xs : List PlainBox) → Moves ws xs [] c d → Midway starts a d es xs
  midway_idle xs m = record {
    puts = λ h. (let q = r.puts h in let t = m.puts h in omega arith);
    takes = λ h. (let q = r.takes h in let t = m.takes h in omega arith);
  }

  -- a worker found a box, and offered another
  module _ (e : ArmState) (xs ys : List PlainBox) (x : PlainBox) (found : Moves ws xs (x ∷ []) c d) (offered : Moves xs ys [] d e) where
    -- the box was handled, and its halves are at hand
    pub midway_more : (f : Event) (zs : List PlainBox) → f.box ≡ x → ((h : PlainBox → ℕ) → sum_by h zs ≡ sum_by h ys + sum_by h (made_by starts f)) → Midway starts a e (es ++ f ∷ []) zs
    midway_more f zs is halves = record {
      puts = λ h. (
          let q = r.puts h in let t = found.puts h in let u = offered.puts h in let z = halves h in let m = sum_by_push (λ (g : Event). sum_by h (made_by starts g)) es f in omega arith);
      takes = λ h. (
          let q = r.takes h in let t = found.takes h in let u = offered.takes h in
          let o = sum_by_push (λ (g : Event). h g.box) es f in let l = sum_by-cons h x [] in let i = ap h is in omega arith);
    }

    -- the box was left open, and all that were at hand were pushed
    pub traffic_left : (k : ArmState) → Moves ys [] [] e k → Traffic starts a k es (x ∷ [])
    traffic_left k m = record {
      puts = λ h. (let q = r.puts h in let t = found.puts h in let u = offered.puts h in let z = m.puts h in omega arith);
      takes = λ h. (let q = r.takes h in let t = found.takes h in let u = offered.takes h in let z = m.takes h in let n = all_sum h es (x ∷ []) in omega arith);
    }

-- a worker whose last ticket reached the budget rests
pub rests_spent : (budget ticket : ℕ) (x : PlainBox) (misses : ℕ) → budget ≤ ticket → RestsFor budget (ticket ∷ []) (x ∷ []) misses Rest.Spent
rests_spent budget ticket x misses high = (ticket, x, refl, refl, high)
