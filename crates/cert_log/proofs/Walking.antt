-- The steps in which a tree is written.
use Rattle.std.proofs.Common.{◌≡◌, ℕ, ◌+◌, ◌<◌, ◌≤◌, List, [], ◌∷◌, ◌++◌, length, map, max, refl, sym, ap, ◌∙◌, subst, arith, Option}
use Rattle.std.specs.List.{Contains, AllZip}
use Rattle.std.proofs.lemmas.List.{append-nil, append_assoc, length-append, map-append}
use Rattle.std.specs.Prelude.{All}
use Rattle.std.proofs.lemmas.List.Sums.{fold_push}
use Rattle.std.proofs.lemmas.List.Elements.{All-contains, Contains-append_left, Contains-append_right}
use Rattle.plan_box.specs.declared.var.Var.{Var}
use Rattle.cert_log.specs.declared.history.Cause.{Cause}
use Rattle.cert_log.specs.declared.history.Act.{Act}
use Rattle.cert_log.specs.declared.history.Note.{Note}
use Rattle.cert_log.specs.declared.history.Left.{Left}
use Rattle.cert_log.specs.declared.history.History.{History}
use Rattle.cert_log.specs.declared.certificate.Node.{Node}
use Rattle.cert_log.specs.Good.{lesser, least_of}
use Rattle.cert_log.specs.Trees.{nodes_of}
use Rattle.cert_log.specs.Levels.{lower_id, upper_id}
use Rattle.cert_log.specs.Lawful.{times, ids_of, loss_of}
use Rattle.cert_log.specs.inner.Growth.{Twig, forks, ends, waits, bare, kept_bounds, Grows, AreDifferent, IsRooted, nodes_ahead, bounds_ahead, IsGrowing}
use Rattle.cert_log.proofs.Members.{counted, same_by_key, times-append, Contains-map}
use Rattle.cert_log.proofs.Counting.{once_noted, not_noted}

abbrev GrowAll : History → List ℕ → List Twig → Type 0
GrowAll h ids ts = AllZip (λ (x : ℕ) (t : Twig). Grows h x t) ids ts

-- the last identity that waits has the last tree
record HasLast (h : History) (waiting : List ℕ) (id : ℕ) (ts : List Twig) : Type 0 where
  earlier : List Twig
  last : Twig
  are : ts ≡ earlier ++ last ∷ []
  grow : GrowAll h waiting earlier
  grows : Grows h id last

has_last : (h : History) (waiting : List ℕ) (id : ℕ) (ts : List Twig) → GrowAll h (waiting ++ id ∷ []) ts → HasLast h waiting id ts
has_last h [] id [] g = absurd g
has_last h [] id (t ∷ []) g = record { earlier = []; last = t; are = refl; grow = tt; grows = g.0 }
has_last h [] id (t ∷ u ∷ ts) g = absurd g.1
has_last h (x ∷ xs) id [] g = absurd g
has_last h (x ∷ xs) id (t ∷ ts) g =
    let r = has_last h xs id ts g.1 in
    record { earlier = t ∷ r.earlier; last = r.last; are = ap (λ (us : List Twig). t ∷ us) r.are; grow = (g.0, r.grow); grows = r.grows }

grow_push : (h : History) (waiting : List ℕ) (ts : List Twig) (id : ℕ) (t : Twig) → GrowAll h waiting ts → Grows h id t → GrowAll h (waiting ++ id ∷ []) (ts ++ t ∷ [])
grow_push h [] [] id t g a = (a, tt)
grow_push h [] (u ∷ us) id t g a = absurd g
grow_push h (x ∷ xs) [] id t g a = absurd g
grow_push h (x ∷ xs) (u ∷ us) id t g a = (g.0, grow_push h xs us id t g.1 a)

nodes_last : (ts : List Twig) (t : Twig) → nodes_ahead (ts ++ t ∷ []) ≡ nodes_of (bare t) ++ nodes_ahead ts
nodes_last [] t = sym (append-nil (nodes_of (bare t)))
nodes_last (u ∷ us) t = ap (λ (ns : List Node). ns ++ nodes_of (bare u)) (nodes_last us t) ∙ append_assoc (nodes_of (bare t)) (nodes_ahead us) (nodes_of (bare u))

bounds_last : (ts : List Twig) (t : Twig) → bounds_ahead (ts ++ t ∷ []) ≡ kept_bounds t ++ bounds_ahead ts
bounds_last [] t = sym (append-nil (kept_bounds t))
bounds_last (u ∷ us) t = ap (λ (ns : List ℕ). ns ++ kept_bounds u) (bounds_last us t) ∙ append_assoc (kept_bounds t) (bounds_ahead us) (kept_bounds u)

-- what a note says of the tree of its identity
abbrev Tells : History → Note → Act → Twig → Type 0
Tells h n (Act.Split step v) t =
    (lower : Twig) × (upper : Twig) × (t ≡ forks n step v lower upper) × Grows h (lower_id h.starts n.ticket) lower × Grows h (upper_id h.starts n.ticket) upper
Tells h n (Act.Closed cause threshold) t = t ≡ ends n threshold cause

module _ (h : History) (once : AreDifferent h) where
  same_note : (m n : Note) (x : ℕ) → Contains h.log.items m → Contains h.log.items n → m.id ≡ x → n.id ≡ x → m ≡ n
  same_note m n x at_m at_n is_m is_n = same_by_key (λ (k : Note). k.id) h.log.items m n at_m at_n (is_m ∙ sym is_n) (once_noted h once m.id)

  same_left : (k l : Left) (x : ℕ) → Contains h.left.items k → Contains h.left.items l → k.bx.id ≡ x → l.bx.id ≡ x → k ≡ l
  same_left k l x at_k at_l is_k is_l =
      let o = once k.bx.id in let a = times-append k.bx.id (map (λ (n : Note). n.id) h.log.items) (map (λ (j : Left). j.bx.id) h.left.items) in
      same_by_key (λ (j : Left). j.bx.id) h.left.items k l at_k at_l (is_k ∙ sym is_l) (omega arith)

  not_both : (n : Note) (l : Left) (x : ℕ) → Contains h.log.items n → Contains h.left.items l → n.id ≡ x → l.bx.id ≡ x → ⊥
  not_both n l x at_n at_l is_n is_l =
      let z = not_noted h once l x at_l is_l in let c = counted (λ (k : Note). k.id) h.log.items n at_n in
      let e = ap (λ (k : ℕ). times k (map (λ (j : Note). j.id) h.log.items)) is_n in omega arith

  note_tells : (n : Note) (x : ℕ) (act : Act) (t : Twig) → Contains h.log.items n → n.id ≡ x → n.act ≡ act → Grows h x t → Tells h n act t
  note_tells n x (Act.Split step v) (forks m step' v' lower upper) at is acts g =
      let same = same_note m n x g.0 at g.1 is in
      let e : Act.Split step' v' ≡ Act.Split step v = sym g.2 ∙ ap (λ (k : Note). k.act) same ∙ acts in
      let s : step' ≡ step = cc in let w : v' ≡ v = cc in
      let ticket : m.ticket ≡ n.ticket = ap (λ (k : Note). k.ticket) same in
      (lower, upper, cc (same, s, w), subst (λ (k : ℕ). Grows h (lower_id h.starts k) lower) ticket g.3, subst (λ (k : ℕ). Grows h (upper_id h.starts k) upper) ticket g.4)
  note_tells n x (Act.Split step v) (ends m threshold cause) at is acts g =
      absurd (let e : Act.Closed cause threshold ≡ Act.Split step v = sym g.2 ∙ ap (λ (k : Note). k.act) (same_note m n x g.0 at g.1 is) ∙ acts in cc)
  note_tells n x (Act.Closed cause threshold) (forks m step v lower upper) at is acts g =
      absurd (let e : Act.Split step v ≡ Act.Closed cause threshold = sym g.2 ∙ ap (λ (k : Note). k.act) (same_note m n x g.0 at g.1 is) ∙ acts in cc)
  note_tells n x (Act.Closed cause threshold) (ends m threshold' cause') at is acts g =
      let same = same_note m n x g.0 at g.1 is in
      let e : Act.Closed cause' threshold' ≡ Act.Closed cause threshold = sym g.2 ∙ ap (λ (k : Note). k.act) same ∙ acts in
      let s : threshold' ≡ threshold = cc in let w : cause' ≡ cause = cc in cc (same, s, w)
  note_tells n x act (waits l) at is acts g = absurd (not_both n l x at g.0 is g.1)

  left_tells : (l : Left) (x : ℕ) (t : Twig) → Contains h.left.items l → l.bx.id ≡ x → Grows h x t → t ≡ waits l
  left_tells l x (forks m step v lower upper) at is g = absurd (not_both m l x g.0 at g.1 is)
  left_tells l x (ends m threshold cause) at is g = absurd (not_both m l x g.0 at g.1 is)
  left_tells l x (waits k) at is g = ap waits (same_left k l x g.0 at g.1 is)

  -- a note of a split: the trees of both halves are still to come, the lower one first
  pub write_split : (id : ℕ) (waiting : List ℕ) (x : ℕ) (nodes : List Node) (least : Option ℕ) (n : Note) (step : ℕ) (v : Var)
      → IsGrowing h id (waiting ++ x ∷ []) nodes least → Contains h.log.items n → n.id ≡ x → n.act ≡ Act.Split step v
      → IsGrowing h id ((waiting ++ upper_id h.starts n.ticket ∷ []) ++ lower_id h.starts n.ticket ∷ []) (nodes ++ Node.Split step v ∷ []) least
  write_split id waiting x nodes least n step v g at is acts =
      let r = has_last h waiting x g.twigs g.grow in
      let t = note_tells n x (Act.Split step v) r.last at is acts r.grows in
      let whole : g.twigs ≡ r.earlier ++ forks n step v t.0 t.1 ∷ [] = r.are ∙ ap (λ (u : Twig). r.earlier ++ u ∷ []) t.2 in
      let n0 = ap nodes_ahead whole ∙ nodes_last r.earlier (forks n step v t.0 t.1) in
      let b0 = ap bounds_ahead whole ∙ bounds_last r.earlier (forks n step v t.0 t.1) in
      let n1 = nodes_last (r.earlier ++ t.1 ∷ []) t.0 ∙ ap (λ (ns : List Node). nodes_of (bare t.0) ++ ns) (nodes_last r.earlier t.1) in
      let b1 = bounds_last (r.earlier ++ t.1 ∷ []) t.0 ∙ ap (λ (ns : List ℕ). kept_bounds t.0 ++ ns) (bounds_last r.earlier t.1) in
      record {
        root = g.root;
        twigs = (r.earlier ++ t.1 ∷ []) ++ t.0 ∷ [];
        grow = grow_push h (waiting ++ upper_id h.starts n.ticket ∷ []) (r.earlier ++ t.1 ∷ []) (lower_id h.starts n.ticket) t.0 (grow_push h waiting r.earlier (upper_id h.starts n.ticket) t.1 r.grow t.4) t.3;
        nodes_are =
            ap (λ (ns : List Node). (nodes ++ Node.Split step v ∷ []) ++ ns) n1
            ∙ append_assoc nodes (Node.Split step v ∷ []) (nodes_of (bare t.0) ++ (nodes_of (bare t.1) ++ nodes_ahead r.earlier))
            ∙ ap (λ (ns : List Node). nodes ++ Node.Split step v ∷ ns) (sym (append_assoc (nodes_of (bare t.0)) (nodes_of (bare t.1)) (nodes_ahead r.earlier)))
            ∙ ap (λ (ns : List Node). nodes ++ ns) (sym n0)
            ∙ g.nodes_are;
        bounds = g.bounds;
        bounds_are =
            ap (λ (ns : List ℕ). g.bounds ++ ns) (b1 ∙ sym (append_assoc (kept_bounds t.0) (kept_bounds t.1) (bounds_ahead r.earlier)) ∙ sym b0) ∙ g.bounds_are;
        least_is = g.least_is;
      }

  -- a note of a closed box
  pub write_closed : (id : ℕ) (waiting : List ℕ) (x : ℕ) (nodes : List Node) (least : Option ℕ) (n : Note) (threshold : ℕ) (cause : Cause)
      → IsGrowing h id (waiting ++ x ∷ []) nodes least → Contains h.log.items n → n.id ≡ x → n.act ≡ Act.Closed cause threshold
      → IsGrowing h id waiting (nodes ++ Node.Closed cause ∷ []) least
  write_closed id waiting x nodes least n threshold cause g at is acts =
      let r = has_last h waiting x g.twigs g.grow in
      let whole : g.twigs ≡ r.earlier ++ ends n threshold cause ∷ [] = r.are ∙ ap (λ (u : Twig). r.earlier ++ u ∷ []) (note_tells n x (Act.Closed cause threshold) r.last at is acts r.grows) in
      let n0 = ap nodes_ahead whole ∙ nodes_last r.earlier (ends n threshold cause) in
      let b0 = ap bounds_ahead whole ∙ bounds_last r.earlier (ends n threshold cause) in
      record {
        root = g.root;
        twigs = r.earlier;
        grow = r.grow;
        nodes_are = append_assoc nodes (Node.Closed cause ∷ []) (nodes_ahead r.earlier) ∙ ap (λ (ns : List Node). nodes ++ ns) (sym n0) ∙ g.nodes_are;
        bounds = g.bounds;
        bounds_are = ap (λ (ns : List ℕ). g.bounds ++ ns) (sym b0) ∙ g.bounds_are;
        least_is = g.least_is;
      }

  -- a box that was left open
  pub write_left : (id : ℕ) (waiting : List ℕ) (x : ℕ) (nodes : List Node) (least : Option ℕ) (l : Left)
      → IsGrowing h id (waiting ++ x ∷ []) nodes least → Contains h.left.items l → l.bx.id ≡ x
      → IsGrowing h id waiting (nodes ++ Node.Left ∷ []) (lesser least (max h.floor l.bound))
  write_left id waiting x nodes least l g at is =
      let r = has_last h waiting x g.twigs g.grow in
      let whole : g.twigs ≡ r.earlier ++ waits l ∷ [] = r.are ∙ ap (λ (u : Twig). r.earlier ++ u ∷ []) (left_tells l x r.last at is r.grows) in
      let n0 = ap nodes_ahead whole ∙ nodes_last r.earlier (waits l) in
      let b0 = ap bounds_ahead whole ∙ bounds_last r.earlier (waits l) in
      record {
        root = g.root;
        twigs = r.earlier;
        grow = r.grow;
        nodes_are = append_assoc nodes (Node.Left ∷ []) (nodes_ahead r.earlier) ∙ ap (λ (ns : List Node). nodes ++ ns) (sym n0) ∙ g.nodes_are;
        bounds = g.bounds ++ l.bound ∷ [];
        bounds_are = append_assoc g.bounds (l.bound ∷ []) (bounds_ahead r.earlier) ∙ ap (λ (ns : List ℕ). g.bounds ++ ns) (sym b0) ∙ g.bounds_are;
        least_is =
            ap (λ (k : Option ℕ). lesser k (max h.floor l.bound)) g.least_is
            ∙ sym (fold_push lesser (loss_of h.best) (map (max h.floor) g.bounds) (max h.floor l.bound))
            ∙ ap (least_of (loss_of h.best)) (sym (map-append (max h.floor) g.bounds (l.bound ∷ [])));
      }

-- at first the whole tree is to come
pub write_none : (h : History) (id : ℕ) → IsRooted h id → IsGrowing h id (id ∷ []) [] (loss_of h.best)
write_none h id r =
    record { root = r; twigs = r.twig ∷ []; grow = (r.grows, tt); nodes_are = refl; bounds = []; bounds_are = refl; least_is = refl }

-- where something waits, fewer nodes are written than there are notes and left boxes
nodes_some : (t : Twig) → 1 ≤ length (nodes_of (bare t))
nodes_some (forks n step v lower upper) = omega arith
nodes_some (ends n threshold cause) = omega arith
nodes_some (waits l) = omega arith

pub write_more : (h : History) (id : ℕ) (waiting : List ℕ) (x : ℕ) (nodes : List Node) (least : Option ℕ)
    → IsGrowing h id (waiting ++ x ∷ []) nodes least → length nodes < length h.log.items + length h.left.items
write_more h id waiting x nodes least g =
    let r = has_last h waiting x g.twigs g.grow in
    let a = length-append nodes (nodes_ahead g.twigs) in let e = ap length g.nodes_are in
    let l = ap length (ap nodes_ahead r.are ∙ nodes_last r.earlier r.last) in
    let s = nodes_some r.last in let c = length-append (nodes_of (bare r.last)) (nodes_ahead r.earlier) in
    let f = g.root.few in omega arith

-- where nothing waits, the tree is written
pub write_all : (h : History) (id : ℕ) (nodes : List Node) (least : Option ℕ) (g : IsGrowing h id [] nodes least)
    → (nodes ≡ nodes_of (bare g.root.twig)) × (least ≡ least_of (loss_of h.best) (map (max h.floor) (kept_bounds g.root.twig)))
write_all h id nodes least g =
    let none = no_twigs g.twigs g.grow in
    let n = sym (append-nil nodes) ∙ ap (λ (ts : List Twig). nodes ++ nodes_ahead ts) (sym none) ∙ g.nodes_are in
    let b = sym (append-nil g.bounds) ∙ ap (λ (ts : List Twig). g.bounds ++ bounds_ahead ts) (sym none) ∙ g.bounds_are in
    (n, g.least_is ∙ ap (λ (ns : List ℕ). least_of (loss_of h.best) (map (max h.floor) ns)) b)
  where
    no_twigs : (ts : List Twig) → GrowAll h [] ts → ts ≡ []
    no_twigs [] a = refl
    no_twigs (t ∷ ts) a = absurd a

note_known : (h : History) (n : Note) (x : ℕ) → Contains h.log.items n → n.id ≡ x → Contains (ids_of h) x
note_known h n x at is =
    Contains-append_left (map (λ (k : Note). k.id) h.log.items) (map (λ (k : Left). k.bx.id) h.left.items) x
    (subst (λ (i : ℕ). Contains (map (λ (k : Note). k.id) h.log.items) i) is (Contains-map (λ (k : Note). k.id) h.log.items n at))

-- the identity that comes next is one of the history's
grown_known : (h : History) (x : ℕ) (t : Twig) → Grows h x t → Contains (ids_of h) x
grown_known h x (forks n step v lower upper) g = note_known h n x g.0 g.1
grown_known h x (ends n threshold cause) g = note_known h n x g.0 g.1
grown_known h x (waits l) g =
    Contains-append_right (map (λ (n : Note). n.id) h.log.items) (map (λ (k : Left). k.bx.id) h.left.items) x
    (subst (λ (i : ℕ). Contains (map (λ (k : Left). k.bx.id) h.left.items) i) g.1 (Contains-map (λ (k : Left). k.bx.id) h.left.items l g.0))

pub next_known : (h : History) (id : ℕ) (waiting : List ℕ) (x : ℕ) (nodes : List Node) (least : Option ℕ) → IsGrowing h id (waiting ++ x ∷ []) nodes least → Contains (ids_of h) x
next_known h id waiting x nodes least g = let r = has_last h waiting x g.twigs g.grow in grown_known h x r.last r.grows

pub next_below : (h : History) (room : ℕ) → All (λ k. k < room) (ids_of h) → (id : ℕ) (waiting : List ℕ) (x : ℕ) (nodes : List Node) (least : Option ℕ) → IsGrowing h id (waiting ++ x ∷ []) nodes least → x < room
next_below h room within id waiting x nodes least g = All-contains (λ k. k < room) (ids_of h) x within (next_known h id waiting x nodes least g)

-- so are those of the halves, where it was split
pub halves_below : (h : History) → AreDifferent h → (room : ℕ) → All (λ k. k < room) (ids_of h) → (id : ℕ) (waiting : List ℕ) (x : ℕ) (nodes : List Node) (least : Option ℕ) (n : Note) (step : ℕ) (v : Var)
    → IsGrowing h id (waiting ++ x ∷ []) nodes least → Contains h.log.items n → n.id ≡ x → n.act ≡ Act.Split step v → upper_id h.starts n.ticket < room
halves_below h once room within id waiting x nodes least n step v g at is acts =
    let r = has_last h waiting x g.twigs g.grow in
    let t = note_tells h once n x (Act.Split step v) r.last at is acts r.grows in
    All-contains (λ k. k < room) (ids_of h) (upper_id h.starts n.ticket) within (grown_known h (upper_id h.starts n.ticket) t.1 t.4)
