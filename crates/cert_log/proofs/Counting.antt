-- The trees of the start boxes have one node for each note and each left box.
use Rattle.std.proofs.Common.{◌≡◌, ℕ, zero, suc, ◌+◌, ◌≤◌, inl, inr, Bool, true, false, cond, eqb, List, [], ◌∷◌, ◌++◌, map, refl, sym, ap, ◌∙◌, subst, arith}
use Rattle.std.specs.Prelude.{sum_by}
use Rattle.std.specs.List.{Contains, flat_map, AllZip}
use Rattle.std.proofs.lemmas.List.Sums.{sum_by-cons, sum_by-append}
use Rattle.std.proofs.lemmas.List.{append-nil, map-append}
use Rattle.std.proofs.lemmas.Bool.{eq-eqb, ne_eqb}
use Rattle.glass_base.specs.Problem.{Problem}
use Rattle.plan_box.specs.Ranges.{PlainBox}
use Rattle.cert_log.specs.declared.history.Act.{Act}
use Rattle.cert_log.specs.declared.history.Note.{Note}
use Rattle.cert_log.specs.declared.history.Left.{Left}
use Rattle.cert_log.specs.declared.history.History.{History}
use Rattle.cert_log.specs.Levels.{made_of, children, levels_upto}
use Rattle.cert_log.specs.Lawful.{Course, times, ids_of, level_of, IsLawful}
use Rattle.cert_log.specs.inner.Growth.{Twig, forks, ends, waits, Grows, AreDifferent}
use Rattle.cert_log.proofs.Members.{first_or_later, contains_none, counted, times-cons, times-append}

-- no note is of the box
pub no_children : (starts : ℕ) (ns : List Note) (x : PlainBox) → times x.id (map (λ (n : Note). n.id) ns) ≡ 0 → children starts ns x ≡ []
no_children starts [] x none = refl
no_children starts (n ∷ ns) x none =
    let c = times-cons x.id n.id (map (λ (k : Note). k.id) ns) in
    let test : eqb n.id x.id ≡ false = ne_eqb n.id x.id (λ same. (let o = ap (λ (t : Bool). cond t 1 0) (eq-eqb n.id x.id same) in let z : ◌≡◌ {A = ℕ} (cond (eqb n.id x.id) 1 0) 1 = o in omega arith)) in
    ap (λ (t : Bool). cond t (made_of starts n.ticket n.act x) [] ++ children starts ns x) test ∙ no_children starts ns x (omega arith)

-- a single note is of the box
pub own_children : (starts : ℕ) (ns : List Note) (m : Note) (x : PlainBox) → Contains ns m → m.id ≡ x.id → times x.id (map (λ (n : Note). n.id) ns) ≤ 1 → children starts ns x ≡ made_of starts m.ticket m.act x
own_children starts [] m x at same once = absurd (contains_none m at)
own_children starts (n ∷ ns) m x at same once =
    let c = times-cons x.id n.id (map (λ (k : Note). k.id) ns) in
    elim (first_or_later n ns m at) [
      | inl is ↦
          (let test : eqb n.id x.id ≡ true = eq-eqb n.id x.id (ap (λ (k : Note). k.id) is ∙ same) in
          let o : ◌≡◌ {A = ℕ} (cond (eqb n.id x.id) 1 0) 1 = ap (λ (t : Bool). cond t 1 0) test in
          let r = no_children starts ns x (omega arith) in
          ap (λ (t : Bool). cond t (made_of starts n.ticket n.act x) [] ++ children starts ns x) test
          ∙ ap (λ (ys : List PlainBox). made_of starts n.ticket n.act x ++ ys) r
          ∙ append-nil (made_of starts n.ticket n.act x)
          ∙ ap (λ (k : Note). made_of starts k.ticket k.act x) is)
      | inr later ↦
          (let r = counted (λ (k : Note). k.id) ns m later in
          let e = ap (λ (k : ℕ). times k (map (λ (j : Note). j.id) ns)) same in
          let test : eqb n.id x.id ≡ false = ne_eqb n.id x.id (λ is. (let o : ◌≡◌ {A = ℕ} (cond (eqb n.id x.id) 1 0) 1 = ap (λ (t : Bool). cond t 1 0) (eq-eqb n.id x.id is) in omega arith)) in
          ap (λ (t : Bool). cond t (made_of starts n.ticket n.act x) [] ++ children starts ns x) test ∙ own_children starts ns m x later same (omega arith))
    ]

-- the trees under a node
abbrev under : Twig → List Twig
under (forks n step v lower upper) = lower ∷ upper ∷ []
under (ends n threshold cause) = []
under (waits l) = []

-- how the identities of a tree weigh
abbrev pub weigh : (ℕ → ℕ) → Twig → ℕ
weigh g (forks n step v lower upper) = g n.id + (weigh g lower + weigh g upper)
weigh g (ends n threshold cause) = g n.id
weigh g (waits l) = g l.bx.id

abbrev pub AreOf : History → List PlainBox → List Twig → Type 0
AreOf h xs ts = AllZip (λ (x : PlainBox) (t : Twig). Grows h x.id t) xs ts

are_of-append : (h : History) (xs ys : List PlainBox) (ts us : List Twig) → AreOf h xs ts → AreOf h ys us → AreOf h (xs ++ ys) (ts ++ us)
are_of-append h [] ys [] us a c = c
are_of-append h [] ys (t ∷ ts) us a c = absurd a
are_of-append h (x ∷ xs) ys [] us a c = absurd a
are_of-append h (x ∷ xs) ys (t ∷ ts) us a c = (a.0, are_of-append h xs ys ts us a.1 c)

module _ (h : History) (once : AreDifferent h) where
  pub once_noted : (x : ℕ) → times x (map (λ (n : Note). n.id) h.log.items) ≤ 1
  once_noted x = let a = times-append x (map (λ (n : Note). n.id) h.log.items) (map (λ (l : Left). l.bx.id) h.left.items) in let o = once x in omega arith

  pub not_noted : (l : Left) (x : ℕ) → Contains h.left.items l → l.bx.id ≡ x → times x (map (λ (n : Note). n.id) h.log.items) ≡ 0
  not_noted l x at same =
      let a = times-append x (map (λ (n : Note). n.id) h.log.items) (map (λ (k : Left). k.bx.id) h.left.items) in
      let o = once x in let c = counted (λ (k : Left). k.bx.id) h.left.items l at in
      let e = ap (λ (k : ℕ). times k (map (λ (j : Left). j.bx.id) h.left.items)) same in omega arith

  pub not_left : (n : Note) → Contains h.log.items n → times n.id (map (λ (k : Left). k.bx.id) h.left.items) ≡ 0
  not_left n at =
      let a = times-append n.id (map (λ (k : Note). k.id) h.log.items) (map (λ (k : Left). k.bx.id) h.left.items) in
      let o = once n.id in let c = counted (λ (k : Note). k.id) h.log.items n at in omega arith

  -- the boxes made of a box have the trees under its node
  made_under : (x : PlainBox) (t : Twig) → Grows h x.id t → AreOf h (children h.starts h.log.items x) (under t)
  made_under x (forks m step v lower upper) g =
      let e : children h.starts h.log.items x ≡ made_of h.starts m.ticket (Act.Split step v) x
      = own_children h.starts h.log.items m x g.0 g.1 (once_noted x.id) ∙ ap (λ (a : Act). made_of h.starts m.ticket a x) g.2 in
      subst (λ (ys : List PlainBox). AreOf h ys (lower ∷ upper ∷ [])) (sym e) (g.3, (g.4, tt))
  made_under x (ends m threshold cause) g =
      let e : children h.starts h.log.items x ≡ []
      = own_children h.starts h.log.items m x g.0 g.1 (once_noted x.id) ∙ ap (λ (a : Act). made_of h.starts m.ticket a x) g.2 in
      subst (λ (ys : List PlainBox). AreOf h ys []) (sym e) tt
  made_under x (waits l) g =
      let e : children h.starts h.log.items x ≡ [] = no_children h.starts h.log.items x (not_noted l x.id g.0 g.1) in
      subst (λ (ys : List PlainBox). AreOf h ys []) (sym e) tt

  next_under : (xs : List PlainBox) (ts : List Twig) → AreOf h xs ts → AreOf h (flat_map (children h.starts h.log.items) xs) (flat_map under ts)
  next_under [] [] a = tt
  next_under [] (t ∷ ts) a = absurd a
  next_under (x ∷ xs) [] a = absurd a
  next_under (x ∷ xs) (t ∷ ts) a =
      are_of-append h (children h.starts h.log.items x) (flat_map (children h.starts h.log.items) xs) (under t) (flat_map under ts) (made_under x t a.0) (next_under xs ts a.1)

weigh_node : (g : ℕ → ℕ) (h : History) (x : ℕ) (t : Twig) → Grows h x t → weigh g t ≡ g x + sum_by (weigh g) (under t)
weigh_node g h x (forks n step v lower upper) a =
    let e = ap g a.1 in let c = sum_by-cons (weigh g) lower (upper ∷ []) in let d = sum_by-cons (weigh g) upper [] in omega arith
weigh_node g h x (ends n threshold cause) a = let e = ap g a.1 in omega arith
weigh_node g h x (waits l) a = let e = ap g a.1 in omega arith

weigh_level : (g : ℕ → ℕ) (h : History) (xs : List PlainBox) (ts : List Twig) → AreOf h xs ts → sum_by (weigh g) ts ≡ sum_by g (map (λ (x : PlainBox). x.id) xs) + sum_by (weigh g) (flat_map under ts)
weigh_level g h [] [] a = refl
weigh_level g h [] (t ∷ ts) a = absurd a
weigh_level g h (x ∷ xs) [] a = absurd a
weigh_level g h (x ∷ xs) (t ∷ ts) a =
    let n = weigh_node g h x.id t a.0 in let r = weigh_level g h xs ts a.1 in
    let c = sum_by-cons (weigh g) t ts in let d = sum_by-cons g x.id (map (λ (y : PlainBox). y.id) xs) in
    let e = sum_by-append (weigh g) (under t) (flat_map under ts) in omega arith

-- the trees under those of the start boxes, level by level
abbrev under_at : List Twig → ℕ → List Twig
under_at ts zero = ts
under_at ts (suc n) = flat_map under (under_at ts n)

module _ (b : Problem) (s : Course) (h : History) (lawful : IsLawful b s h) (ts : List Twig) (of : AreOf h s.boxes ts) where
  level_under : (n : ℕ) → AreOf h (level_of s h n) (under_at ts n)
  level_under zero = of
  level_under (suc n) = next_under h lawful.each_once (level_of s h n) (under_at ts n) (level_under n)

  peel : (g : ℕ → ℕ) (n : ℕ) → sum_by (weigh g) ts ≡ sum_by g (map (λ (x : PlainBox). x.id) (levels_upto h.starts h.log.items s.boxes n)) + sum_by (weigh g) (under_at ts (suc n))
  peel g zero = weigh_level g h s.boxes ts of
  peel g (suc n) =
      let p = peel g n in let w = weigh_level g h (level_of s h (suc n)) (under_at ts (suc n)) (level_under (suc n)) in
      let m = ap (sum_by g) (map-append (λ (x : PlainBox). x.id) (levels_upto h.starts h.log.items s.boxes n) (level_of s h (suc n))) in
      let a = sum_by-append g (map (λ (x : PlainBox). x.id) (levels_upto h.starts h.log.items s.boxes n)) (map (λ (x : PlainBox). x.id) (level_of s h (suc n))) in omega arith

  none_below : (us : List Twig) → AreOf h [] us → us ≡ []
  none_below [] a = refl
  none_below (u ∷ us) a = absurd a

  -- the identities of the trees are those of the notes and of the left boxes
  pub weigh_all : (g : ℕ → ℕ) → sum_by (weigh g) ts ≡ sum_by g (ids_of h)
  weigh_all g =
      let p = peel g lawful.depth in let e = lawful.same_ids g in
      let last : AreOf h [] (under_at ts (suc lawful.depth)) = subst (λ (xs : List PlainBox). AreOf h xs (under_at ts (suc lawful.depth))) lawful.levels_end (level_under (suc lawful.depth)) in
      let z = ap (sum_by (weigh g)) (none_below (under_at ts (suc lawful.depth)) last) in omega arith
