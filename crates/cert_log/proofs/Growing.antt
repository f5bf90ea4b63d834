-- Each box of each level of a lawful history has a tree.
use Rattle.std.proofs.Common.{◌≡◌, ℕ, zero, suc, ◌+◌, ◌≤◌, ◌⊎◌, inl, inr, cond, eqb, List, [], map, refl, ap, ◌∙◌, subst, arith}
use Rattle.std.specs.List.{Contains}
use Rattle.std.proofs.lemmas.List.Elements.{Contains-append_left, Contains-append_right}
use Rattle.std.proofs.lemmas.Bool.{cases_lt}
use Rattle.glass_base.specs.Problem.{Problem}
use Rattle.plan_box.specs.Ranges.{PlainBox}
use Rattle.plan_box.specs.Halves.{lower_half, upper_half, child_of}
use Rattle.cert_log.specs.declared.history.Act.{Act}
use Rattle.cert_log.specs.declared.history.Note.{Note}
use Rattle.cert_log.specs.declared.history.Left.{Left}
use Rattle.cert_log.specs.declared.history.History.{History}
use Rattle.cert_log.specs.Levels.{lower_id, upper_id, level, levels_upto}
use Rattle.cert_log.specs.Lawful.{Course, times, level_of, IsLawful}
use Rattle.cert_log.specs.inner.Growth.{Twig, forks, ends, waits, Grows}
use Rattle.cert_log.proofs.Members.{contains_none, counted, found, times-append}
use Rattle.cert_log.proofs.Standing.{lower_in, upper_in}

-- the box has a tree
abbrev pub HasTwig : History → PlainBox → Type 0
HasTwig h x = (t : Twig) × Grows h x.id t

-- a box of a level stands among those of all levels up to a later one
pub level_among : (starts : ℕ) (ns : List Note) (boxes : List PlainBox) (n d : ℕ) (x : PlainBox) → n ≤ d → Contains (level starts ns boxes n) x → Contains (levels_upto starts ns boxes d) x
level_among starts ns boxes zero zero x few at = at
level_among starts ns boxes (suc n) zero x few at = absurd (omega arith)
level_among starts ns boxes n (suc d) x few at =
    elim (cases_lt n (suc d)) [
      | inl less ↦ Contains-append_left (levels_upto starts ns boxes d) (level starts ns boxes (suc d)) x (level_among starts ns boxes n d x (omega arith) at)
      | inr more ↦
          (let same : n ≡ suc d = omega arith in
          Contains-append_right (levels_upto starts ns boxes d) (level starts ns boxes (suc d)) x (subst (λ (k : ℕ). Contains (level starts ns boxes k) x) same at))
    ]

module _ (b : Problem) (s : Course) (h : History) (lawful : IsLawful b s h) where
  -- a box of a level was handled, or is left open
  pub known_box : (n : ℕ) (x : PlainBox) → n ≤ lawful.depth → Contains (level_of s h n) x
      → ((m : Note) × Contains h.log.items m × (m.id ≡ x.id)) ⊎ ((l : Left) × Contains h.left.items l × (l.bx.id ≡ x.id))
  known_box n x few at =
      let among = level_among h.starts h.log.items s.boxes n lawful.depth x few at in
      let c = counted (λ (y : PlainBox). y.id) (levels_upto h.starts h.log.items s.boxes lawful.depth) x among in
      let e = lawful.same_ids (λ y. cond (eqb y x.id) 1 0) in
      let a = times-append x.id (map (λ (m : Note). m.id) h.log.items) (map (λ (l : Left). l.bx.id) h.left.items) in
      elim (cases_lt 0 (times x.id (map (λ (m : Note). m.id) h.log.items))) [
        | inl some ↦ inl (found (λ (m : Note). m.id) h.log.items x.id (omega arith))
        | inr none ↦ inr (found (λ (l : Left). l.bx.id) h.left.items x.id (omega arith))
      ]

  -- the tree of a box that was handled, from those of the boxes made of it
  grown : (n : ℕ) (x : PlainBox) (m : Note) (act : Act) → Contains (level_of s h n) x → Contains h.log.items m → m.id ≡ x.id → m.act ≡ act
      → ((y : PlainBox) → Contains (level_of s h (suc n)) y → HasTwig h y) → HasTwig h x
  grown n x m (Act.Split step v) at noted same is next =
      let l = next (child_of lower_half x step v (lower_id h.starts m.ticket)) (lower_in b s h lawful n x m step v at noted same is) in
      let u = next (child_of upper_half x step v (upper_id h.starts m.ticket)) (upper_in b s h lawful n x m step v at noted same is) in
      (forks m step v l.0 u.0, (noted, same, is, l.1, u.1))
  grown n x m (Act.Closed cause threshold) at noted same is next = (ends m threshold cause, (noted, same, is))

  -- from the last level up to level n, which lies k levels above the end
  has_above : (k n : ℕ) → n + k ≡ suc lawful.depth → (x : PlainBox) → Contains (level_of s h n) x → HasTwig h x
  has_above zero n e x at =
      let none : level_of s h n ≡ [] = ap (λ (d : ℕ). level_of s h d) (let f : n ≡ suc lawful.depth = omega arith in f) ∙ lawful.levels_end in
      absurd (contains_none x (subst (λ (xs : List PlainBox). Contains xs x) none at))
  has_above (suc k) n e x at =
      elim (known_box n x (omega arith) at) [
        | inl noted ↦ grown n x noted.0 noted.0.act at noted.1 noted.2 refl (λ y at_y. has_above k (suc n) (omega arith) y at_y)
        | inr kept ↦ (waits kept.0, (kept.1, kept.2))
      ]

  pub has_twig : (x : PlainBox) → Contains s.boxes x → HasTwig h x
  has_twig x at = has_above (suc lawful.depth) zero (omega arith) x at
