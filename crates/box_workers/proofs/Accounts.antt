-- What workers did together is a lawful history.
use Rattle.std.proofs.Common.{◌≡◌, ℕ, ◌+◌, ◌≤◌, List, [], ◌∷◌, ◌++◌, length, map, get_or, refl, sym, ap, ◌∙◌, subst, arith}
use Rattle.std.specs.Prelude.{sum_by}
use Rattle.std.specs.List.{Contains}
use Rattle.std.proofs.lemmas.List.{length-map}
use Rattle.std.proofs.lemmas.Bool.Decides.{nat_tests}
use Rattle.std.proofs.lemmas.List.Sums.{sum_by-append}
use Rattle.std.proofs.lemmas.List.Elements.{All-contains, Contains-append_left, Contains-append_right, Contains-get_or}
use Rattle.glass_base.specs.Problem.{Problem}
use Rattle.plan_box.specs.Ranges.{PlainBox}
use Rattle.plan_box.specs.Bounds.{bound}
use Rattle.cert_log.specs.declared.history.Act.{Act}
use Rattle.cert_log.specs.declared.history.Note.{Note}
use Rattle.cert_log.specs.declared.history.Left.{Left}
use Rattle.cert_log.specs.declared.history.History.{History}
use Rattle.cert_log.specs.Levels.{level, levels_upto}
use Rattle.cert_log.specs.Good.{IsFloor}
use Rattle.cert_log.specs.Lawful.{Course, times, once_below, IsLawful, Handled}
use Rattle.cert_log.proofs.Members.{same_by_key}
use Rattle.cert_log.specs.Events.{Event, note_of, all_boxes, tickets_of, AreKept, AreOfLevels}
use Rattle.cert_log.proofs.Sames.{test_of}
use Rattle.cert_log.proofs.Counts.{sum_map}
use Rattle.cert_log.proofs.Weights.{boxes_are_of_levels}
use Rattle.box_workers.specs.Histories.{left_boxes, IsAccount, IsHistory, AccountsAreLawful}
use Rattle.box_workers.proofs.Lists.{contains_image, found_by}
use Rattle.box_workers.proofs.Progress.{all_sum}
use Rattle.box_workers.proofs.Tickets.{AreTickets, are_tickets}

module _ (b : Problem) (c : Course) (h : History) (es : List Event) (spent : List ℕ) (r : IsAccount b c h es spent) where
  abbrev lefts : List PlainBox
  lefts = left_boxes h.left.items

  count : length (tickets_of es) ≡ length es
  count = length-map es (λ (e : Event). e.ticket)

  drawn : AreTickets c.budget (tickets_of es) spent
  drawn = are_tickets c.budget (tickets_of es) spent (λ x. (r.tickets x ∙ ap (λ (n : ℕ). once_below x (n + length spent)) (sym count)))
      (λ t at. (let f = found_by (λ (e : Event). e.ticket) es t at in let u = (r.right f.0 f.1).in_budget in let e = f.2 in omega arith)) r.beyond

  abbrev all : List PlainBox
  all = all_boxes es lefts

  tickets_once : (x : ℕ) → times x (tickets_of es) ≤ 1
  tickets_once x = let t = drawn.each x in let o = at_most_one x (length (tickets_of es)) in omega arith
    where
      at_most_one : (x n : ℕ) → once_below x n ≤ 1
      at_most_one x n = grind (arith, nat_tests)

  kept : AreKept h.starts c.boxes es lefts
  kept = record {
    starts_are = r.starts;
    start_ids = r.ids;
    tickets = tickets_once;
    valid = λ k d within. (let q = r.right (get_or es k d) (Contains-get_or es k d within) in (q.valid, q.free));
    weighs = r.weighs;
  }

  levels : AreOfLevels h.starts c.boxes es lefts
  levels = boxes_are_of_levels h.starts c.boxes es lefts kept

  one_id : (x : ℕ) → times x (map (λ (y : PlainBox). y.id) all) ≤ 1
  one_id x = let o = levels.once x in let m = sum_map (λ (y : PlainBox). y.id) (λ (i : ℕ). test_of i x) all in omega arith

  same_id : (x y : PlainBox) → Contains all x → Contains all y → x.id ≡ y.id → x ≡ y
  same_id x y at_x at_y same = same_by_key (λ (z : PlainBox). z.id) all x y at_x at_y same (one_id x.id)

  body_in : (e : Event) → Contains es e → Contains all e.box
  body_in e at = Contains-append_left (map (λ (d : Event). d.box) es) lefts e.box (contains_image (λ (d : Event). d.box) es e at)

  left_in : (l : Left) → Contains h.left.items l → Contains all l.bx
  left_in l at = Contains-append_right (map (λ (d : Event). d.box) es) lefts l.bx (contains_image (λ (z : Left). z.bx) h.left.items l at)

  -- the identities of the notes and of the boxes left
  ids_sum : (f : ℕ → ℕ) → sum_by f (map (λ (n : Note). n.id) (map note_of es) ++ map (λ (l : Left). l.bx.id) h.left.items) ≡ sum_by (λ (y : PlainBox). f y.id) all
  ids_sum f =
      let a = sum_by-append f (map (λ (n : Note). n.id) (map note_of es)) (map (λ (l : Left). l.bx.id) h.left.items) in
      let c = sum_map (λ (n : Note). n.id) f (map note_of es) in let d = sum_map note_of (λ (n : Note). f n.id) es in
      let e = sum_map (λ (l : Left). l.bx.id) f h.left.items in
      let g = all_sum (λ (y : PlainBox). f y.id) es lefts in let m = sum_map (λ (l : Left). l.bx) (λ (y : PlainBox). f y.id) h.left.items in omega arith

  abbrev with_log : List Note → History
  with_log ns = record { starts = h.starts; log = record { items = ns; spare = h.log.spare }; left = h.left; plan = h.plan; best = h.best; floor = h.floor }

  long : length (map note_of es) ≡ length es
  long = length-map es note_of

  note_tickets : (ds : List Event) → map (λ (n : Note). n.ticket) (map note_of ds) ≡ tickets_of ds
  note_tickets [] = refl
  note_tickets (d ∷ ds) = ap (λ (l : List ℕ). d.ticket ∷ l) (note_tickets ds)

  lawful_at : IsLawful b c (with_log (map note_of es))
  lawful_at = record {
    of_instance = r.of_instance;
    starts_are = r.starts;
    start_ids = r.ids;
    in_budget = (let l = long in let f = drawn.few in let n = count in omega arith);
    tickets = λ x. (ap (times x) (note_tickets es) ∙ drawn.each x ∙ ap (once_below x) (count ∙ sym long));
    depth = levels.depth;
    levels_end = levels.levels_end;
    same_ids = λ f. (ids_sum f ∙ levels.weighs (λ (y : PlainBox). f y.id) ∙ sym (sum_map (λ (y : PlainBox). y.id) f (levels_upto h.starts (map note_of es) c.boxes levels.depth)));
    each_once = λ x. (let a = ids_sum (λ (i : ℕ). test_of i x) in let o = levels.once x in omega arith);
    handled = λ n x m at_x at_m same. (
        let f = found_by note_of es m at_m in let e = f.0 in
        let is : e.box ≡ x = same_id e.box x (body_in e f.1) (levels.among n x at_x) (ap (λ (z : Note). z.id) f.2 ∙ same) in
        subst (λ (a : Act). Handled b h.floor c.first h.best x.ranges a) (ap (λ (z : Note). z.act) f.2)
        (subst (λ (y : PlainBox). Handled b h.floor c.first h.best y.ranges e.act) is (subst (λ (n : ℕ). Handled b n c.first h.best e.box.ranges e.act) (sym r.floor_is) (r.right e f.1).right)));
    left_is = λ n x l at_x at_l same. same_id l.bx x (left_in l at_l) (levels.among n x at_x) same;
    bounds = λ l at. All-contains (λ (z : Left). z.bound ≡ bound b z.bx.ranges) h.left.items l r.bounds at;
    best_is = r.plan;
    best_first = r.best;
    floor_is = r.floor_is;
    least_is = subst (IsFloor b) (sym r.floor_is) r.least_is;
    spent = λ some. (long ∙ sym count ∙ drawn.all (λ none. some (r.emptied none)));
  }

  lawful : IsLawful b c h
  lawful = subst (λ (ns : List Note). IsLawful b c (with_log ns)) (sym r.log) lawful_at

  placed : (e : Event) → Contains es e → (n : ℕ) × Contains (level h.starts h.log.items c.boxes n) e.box
  placed e at = subst (λ (ns : List Note). (n : ℕ) × Contains (level h.starts ns c.boxes n) e.box) (sym r.log) (levels.placed e.box (body_in e at))

  pub history : IsHistory b c h es
  history = record { lawful = lawful; placed = placed }

pub accounts_are_lawful : AccountsAreLawful
accounts_are_lawful b c h es spent r = history b c h es spent r
