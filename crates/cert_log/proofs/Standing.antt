-- What the notes of a lawful history grow into is right for its boxes.
use Rattle.std.proofs.Common.{◌≡◌, ℕ, suc, ◌<◌, ◌≤◌, map, max, inl, inr, Bool, true, false, cond, eqb, ltb, List, [], ◌∷◌, refl, sym, ap, ◌∙◌, subst, arith, Some, None}
use Rattle.std.specs.List.{Contains}
use Rattle.std.proofs.lemmas.List.{map-append}
use Rattle.std.proofs.lemmas.List.Elements.{Contains-append_left, Contains-append_right}
use Rattle.std.proofs.lemmas.Bool.{eq-eqb, ltb-true, lt-ltb}
use Rattle.glass_base.specs.Problem.{Problem}
use Rattle.plan_box.specs.declared.var.Var.{Var}
use Rattle.plan_box.specs.Ranges.{Ranges, PlainBox}
use Rattle.plan_box.specs.Halves.{lower_half, upper_half, child_of}
use Rattle.plan_box.specs.Bounds.{bound}
use Rattle.cert_log.specs.declared.history.Cause.{Cause}
use Rattle.cert_log.specs.declared.history.Act.{Act}
use Rattle.cert_log.specs.declared.history.Note.{Note}
use Rattle.cert_log.specs.declared.history.History.{History}
use Rattle.cert_log.specs.Good.{Reaches, MayClose}
use Rattle.cert_log.specs.Levels.{lower_id, upper_id, made_of, children}
use Rattle.cert_log.specs.Lawful.{Course, no_loss, loss_of, level_of, ClosedFor, Handled, IsLawful}
use Rattle.cert_log.specs.inner.Growth.{Twig, forks, ends, waits, bare, kept_bounds, Grows}
use Rattle.cert_log.proofs.Members.{first_or_later, is_first, is_later, contains_none, Contains-flat_map}
use Rattle.cert_log.proofs.Walked.{Stands, open_bounds, SplitsBelow}

-- what a note makes of the box of its identity stands in the next level
pub child_in : (starts : ℕ) (ns : List Note) (m : Note) (x y : PlainBox) → Contains ns m → m.id ≡ x.id → Contains (made_of starts m.ticket m.act x) y → Contains (children starts ns x) y
child_in starts [] m x y at same made = absurd (contains_none m at)
child_in starts (n ∷ ns) m x y at same made =
    elim (first_or_later n ns m at) [
      | inl is ↦
          (let own : Contains (made_of starts n.ticket n.act x) y = subst (λ (k : Note). Contains (made_of starts k.ticket k.act x) y) (sym is) made in
          let test : eqb n.id x.id ≡ true = eq-eqb n.id x.id (ap (λ (k : Note). k.id) is ∙ same) in
          Contains-append_left (cond (eqb n.id x.id) (made_of starts n.ticket n.act x) []) (children starts ns x) y
          (subst (λ (t : Bool). Contains (cond t (made_of starts n.ticket n.act x) []) y) (sym test) own))
      | inr later ↦
          Contains-append_right (cond (eqb n.id x.id) (made_of starts n.ticket n.act x) []) (children starts ns x) y (child_in starts ns m x y later same made)
    ]

-- a number that reaches a loss reaches a lesser one
pub reaches_lesser : (best threshold n : ℕ) → best ≤ threshold → Reaches (loss_of threshold) n → Reaches (loss_of best) n
reaches_lesser best threshold n less reaches = by_test (ltb threshold no_loss) refl
  where
    by_test : (t : Bool) → ltb threshold no_loss ≡ t → Reaches (loss_of best) n
    by_test true is =
        let below : threshold < no_loss = ltb-true threshold no_loss is in
        let own : threshold ≤ n = subst (λ (t : Bool). Reaches (cond t (Some threshold) None) n) is reaches in
        let best_is : ltb best no_loss ≡ true = lt-ltb best no_loss (omega arith) in
        subst (λ (t : Bool). Reaches (cond t (Some best) None) n) (sym best_is) (omega arith)
    by_test false is = absurd (subst (λ (t : Bool). Reaches (cond t (Some threshold) None) n) is reaches)

closed_stands : (b : Problem) (floor best threshold : ℕ) (rs : List Ranges) (cause : Cause) → best ≤ threshold → ClosedFor b floor threshold rs cause → MayClose b floor (loss_of best) rs cause
closed_stands b floor best threshold rs Cause.Unsaid less c = absurd c
closed_stands b floor best threshold rs Cause.Floor less c = reaches_lesser best threshold floor less c.1
closed_stands b floor best threshold rs (Cause.Reason r) less c = c
closed_stands b floor best threshold rs Cause.Bound less c = reaches_lesser best threshold (bound b rs) less c.1

module _ (b : Problem) (s : Course) (h : History) (lawful : IsLawful b s h) where
  pub handled_as : (n : ℕ) (x : PlainBox) (m : Note) (act : Act) → Contains (level_of s h n) x → Contains h.log.items m → m.id ≡ x.id → m.act ≡ act → Handled b h.floor s.first h.best x.ranges act
  handled_as n x m act at noted same is = subst (λ (a : Act). Handled b h.floor s.first h.best x.ranges a) is (lawful.handled n x m at noted same)

  half_in : (n : ℕ) (x y : PlainBox) (m : Note) (act : Act) → Contains (level_of s h n) x → Contains h.log.items m → m.id ≡ x.id → m.act ≡ act → Contains (made_of h.starts m.ticket act x) y → Contains (level_of s h (suc n)) y
  half_in n x y m act at noted same is made =
      let own : Contains (made_of h.starts m.ticket m.act x) y = subst (λ (a : Act). Contains (made_of h.starts m.ticket a x) y) (sym is) made in
      Contains-flat_map (children h.starts h.log.items) (level_of s h n) x y at (child_in h.starts h.log.items m x y noted same own)

  pub lower_in : (n : ℕ) (x : PlainBox) (m : Note) (step : ℕ) (v : Var) → Contains (level_of s h n) x → Contains h.log.items m → m.id ≡ x.id → m.act ≡ Act.Split step v → Contains (level_of s h (suc n)) (child_of lower_half x step v (lower_id h.starts m.ticket))
  lower_in n x m step v at noted same is =
      half_in n x (child_of lower_half x step v (lower_id h.starts m.ticket)) m (Act.Split step v) at noted same is (is_first (child_of lower_half x step v (lower_id h.starts m.ticket)) (child_of upper_half x step v (upper_id h.starts m.ticket) ∷ []))

  pub upper_in : (n : ℕ) (x : PlainBox) (m : Note) (step : ℕ) (v : Var) → Contains (level_of s h n) x → Contains h.log.items m → m.id ≡ x.id → m.act ≡ Act.Split step v → Contains (level_of s h (suc n)) (child_of upper_half x step v (upper_id h.starts m.ticket))
  upper_in n x m step v at noted same is =
      half_in n x (child_of upper_half x step v (upper_id h.starts m.ticket)) m (Act.Split step v) at noted same is (is_later (child_of lower_half x step v (lower_id h.starts m.ticket)) (child_of upper_half x step v (upper_id h.starts m.ticket) ∷ []) (child_of upper_half x step v (upper_id h.starts m.ticket)) (is_first (child_of upper_half x step v (upper_id h.starts m.ticket)) []))

  -- each split is of a free variable, and each closed box may be closed
  pub grown_stands : (n : ℕ) (x : PlainBox) (t : Twig) → Contains (level_of s h n) x → Grows h x.id t → Stands b h.floor (loss_of h.best) x.ranges (bare t)
  grown_stands n x (forks m step v lower upper) at g = (
    (handled_as n x m (Act.Split step v) at g.0 g.1 g.2).2,
    grown_stands (suc n) (child_of lower_half x step v (lower_id h.starts m.ticket)) lower (lower_in n x m step v at g.0 g.1 g.2) g.3,
    grown_stands (suc n) (child_of upper_half x step v (upper_id h.starts m.ticket)) upper (upper_in n x m step v at g.0 g.1 g.2) g.4,
  )
  grown_stands n x (ends m threshold cause) at g =
      let e = handled_as n x m (Act.Closed cause threshold) at g.0 g.1 g.2 in closed_stands b h.floor h.best threshold x.ranges cause e.1 e.0
  grown_stands n x (waits l) at g = tt

  -- each box that is split is not refuted, and has a bound below the loss that is to be beaten
  pub grown_splits : (n : ℕ) (x : PlainBox) (t : Twig) → Contains (level_of s h n) x → Grows h x.id t → SplitsBelow b s.first x.ranges (bare t)
  grown_splits n x (forks m step v lower upper) at g =
      let e = handled_as n x m (Act.Split step v) at g.0 g.1 g.2 in (
        e.0,
        e.1,
        grown_splits (suc n) (child_of lower_half x step v (lower_id h.starts m.ticket)) lower (lower_in n x m step v at g.0 g.1 g.2) g.3,
        grown_splits (suc n) (child_of upper_half x step v (upper_id h.starts m.ticket)) upper (upper_in n x m step v at g.0 g.1 g.2) g.4,
      )
  grown_splits n x (ends m threshold cause) at g = tt
  grown_splits n x (waits l) at g = tt

  -- the bounds that were kept are those of the boxes left open
  pub grown_bounds : (n : ℕ) (x : PlainBox) (t : Twig) → Contains (level_of s h n) x → Grows h x.id t → open_bounds b h.floor x.ranges (bare t) ≡ map (max h.floor) (kept_bounds t)
  grown_bounds n x (forks m step v lower upper) at g =
      let l = grown_bounds (suc n) (child_of lower_half x step v (lower_id h.starts m.ticket)) lower (lower_in n x m step v at g.0 g.1 g.2) g.3 in
      let u = grown_bounds (suc n) (child_of upper_half x step v (upper_id h.starts m.ticket)) upper (upper_in n x m step v at g.0 g.1 g.2) g.4 in
      cc (l, u) ∙ sym (map-append (max h.floor) (kept_bounds lower) (kept_bounds upper))
  grown_bounds n x (ends m threshold cause) at g = refl
  grown_bounds n x (waits l) at g =
      let same : bound b l.bx.ranges ≡ bound b x.ranges = ap (λ (y : PlainBox). bound b y.ranges) (lawful.left_is n x l at g.0 g.1) in
      ap (λ (k : ℕ). max h.floor k ∷ []) (sym same ∙ sym (lawful.bounds l g.0))
