-- What a search finds that goes on in the open boxes of a right certificate, from its lawful history.
use Rattle.std.proofs.Common.{◌≡◌, ◌≢◌, ℕ, ◌<◌, ◌≤◌, ◌+◌, List, [], ◌∷◌, length, arith, refl, sym, ap, ◌∙◌, subst, Option, Some, None}
use Rattle.std.specs.Prelude.{Bool, IfSome, IsSome, false, option_map, sum_by}
use Rattle.std.specs.List.{AllZip}
use Rattle.std.proofs.lemmas.List.{length-append}
use Rattle.glass_base.specs.Problem.{Problem, IsProblem}
use Rattle.cut_model.specs.declared.plan.Plan.{Plan}
use Rattle.cut_model.specs.declared.steps.Trace.{Trace}
use Rattle.cut_model.specs.Loss.{loss_of as plan_loss}
use Rattle.cut_model.specs.Tree.{Forest, tree}
use Rattle.plan_box.specs.Frames.{frame_of}
use Rattle.plan_box.specs.Halves.{lower_half, upper_half, half_at}
use Rattle.plan_box.specs.Ranges.{PlainBox, Ranges}
use Rattle.cert_log.specs.declared.certificate.Certificate.{Certificate}
use Rattle.cert_log.specs.declared.history.History.{History}
use Rattle.cert_log.specs.declared.history.Left.{Left}
use Rattle.cert_log.specs.Good.{AreGood, HasVersion, IsFloor, IsGood, IsVersion}
use Rattle.cert_log.specs.Lawful.{IsLawful, loss_of, no_loss}
use Rattle.cert_log.specs.Outcomes.{IsHead}
use Rattle.cert_log.specs.Splits.{AreSearched}
use Rattle.cert_log.specs.Texts.{head_of}
use Rattle.cert_log.specs.Trees.{Tree, halved, closed, waiting, nodes_of}
use Rattle.cert_log.specs.Values.{IsNumber}
use Rattle.cert_log.proofs.Covers.{bounds_each_plan}
use Rattle.cert_log.proofs.GoodNodes.{good_counts}
use Rattle.cert_log.proofs.Versions.{no_later}
use Rattle.cert_log.proofs.Walked.{good_left_is}
use Rattle.cert_check.specs.Causes.{AreNamed}
use Rattle.cert_resume.specs.Joins.{AreRightParts, IsAtMost, IsJoined, KeepsRight}
use Rattle.cert_resume.specs.OpenBoxes.{left_boxes_of, open_boxes}
use Rattle.cert_resume.proofs.Numbered.{as_many, bound_for_each, by_ranges}
use Rattle.run_checks.specs.Checks.{IsConverted, loss_in, root_ranges}
use Rattle.run_search.specs.Plans.{HasLoss, course_from, handled}
use Rattle.run_search.specs.Resumptions.{ResumesEachBox}
use Rattle.run_search.specs.inner.Searches.{IsSaidByItsText, IsShortToo}
use Rattle.run_search.proofs.Searched.{known}
use Rattle.run_search.proofs.StoredTexts.{both_said, is_text_of}

-- where there is a plan, the loss with which a search begins is a loss
pub small_too : (plan : Option Plan) (first : Option Trace) (n : ℕ) → IfSome plan (λ _. IsSome first) → IfSome first (λ _. n < no_loss) → IfSome (option_map tree plan) (λ _. n < no_loss)
small_too None first n e small = tt
small_too (Some p) None n e small = cc e
small_too (Some p) (Some t) n e small = small

pub known_at_most : (b : Problem) (plan : Option Forest) (best to_beat : ℕ) → best ≤ to_beat → IsAtMost (Some to_beat) (loss_in b plan) → IfSome plan (λ _. to_beat < no_loss) → IsAtMost (loss_of best) (loss_in b plan)
known_at_most b None best to_beat le at_most small = tt
known_at_most b (Some plan) best to_beat le at_most small =
    subst (λ (o : Option ℕ). IsAtMost o (Some (plan_loss b plan))) (sym (known best (omega (arith, le, small)))) (omega (arith, le, at_most))

-- a tree whose causes are named has as many nodes
named_count : (b : Problem) (rs : List Ranges) (t n : Tree) → AreNamed b rs t n → length (nodes_of n) ≡ length (nodes_of t)
named_count b rs (halved step v lower upper) (halved step2 v2 lower2 upper2) h =
    let l = named_count b (half_at lower_half rs step v) lower lower2 h.2 in let u = named_count b (half_at upper_half rs step v) upper upper2 h.3 in
    let m = length-append (nodes_of lower) (nodes_of upper) in let k = length-append (nodes_of lower2) (nodes_of upper2) in omega arith
named_count b rs (halved step v lower upper) (closed named) h = absurd h
named_count b rs (halved step v lower upper) waiting h = absurd h
named_count b rs (closed cause) (halved step v lower upper) h = absurd h
named_count b rs (closed cause) (closed named) h = refl
named_count b rs (closed cause) waiting h = absurd h
named_count b rs waiting (halved step v lower upper) h = absurd h
named_count b rs waiting (closed named) h = absurd h
named_count b rs waiting waiting h = refl

-- naming causes handles no box
named_handled : (b : Problem) (loss : Option ℕ) (c named : Certificate) → IsGood b (root_ranges b) loss c → IsConverted b c named → handled named ≡ handled c
named_handled b loss c named good names =
    let r = names.reasoned in
    let many : length named.nodes.items ≡ length c.nodes.items =
    ap (λ ns. length ns) r.named_are ∙ named_count b (root_ranges b) r.tree r.named r.are_named ∙ ap (λ ns. length ns) (sym r.nodes_are) in
    omega (arith, many, r.left, good_counts b (root_ranges b) loss c good, good_counts b (root_ranges b) c.loss named names.good)

pub zip_length : {A B : Type 0} (R : A → B → Type 0) (xs : List A) (ys : List B) → AllZip R xs ys → length xs ≡ length ys
zip_length R [] [] h = refl
zip_length R [] (y ∷ ys) h = absurd h
zip_length R (x ∷ xs) [] h = absurd h
zip_length R (x ∷ xs) (y ∷ ys) h = let e = zip_length R xs ys h.1 in omega (arith, e)

left_some : (xs : List Left) → 0 < length xs → xs ≢ []
left_some [] some e = omega (arith, some)
left_some (x ∷ xs) some e = cc e

-- what is joined has the version of what it was joined to, or that of its floor
joined_version : {parts : List Certificate} {floor : ℕ} {loss : Option ℕ} (named j : Certificate) → HasVersion named → IsJoined named parts floor loss j → HasVersion j
joined_version {parts} {floor} named j has joined =
    let same = joined.version.0 in let most = no_later floor 3 (omega arith) (λ low. absurd (omega (arith, low))) in
    (omega (arith, same, has.0, most), subst (λ (version : ℕ). IsVersion version j) (sym same) joined.version)

-- a search of the open boxes of a certificate whose causes are named, and what came of it
pub record HasSearched (b : Problem) (budget to_beat floor : ℕ) (c named : Certificate) (h : History) (parts : List Certificate) (j : Certificate) : Type 0 where
  pub names : IsConverted b c named
  pub named_version : HasVersion named
  pub lawful : IsLawful b (course_from (left_boxes_of b names.good.tree) to_beat budget floor) h
  pub right : AreGood b (loss_of h.best) (left_boxes_of b names.good.tree) parts
  pub searched : AreSearched b to_beat (left_boxes_of b names.good.tree) parts
  pub nodes : sum_by (λ (x : Certificate). length x.nodes.items) parts ≡ length h.log.items + length h.left.items
  pub left : sum_by (λ (x : Certificate). x.left) parts ≡ length h.left.items
  pub joined : IsJoined named parts floor (loss_of h.best) j
  pub keeps : KeepsRight named parts (loss_of h.best) j
  pub count : length j.nodes.items + length parts ≡ length named.nodes.items + sum_by (λ (x : Certificate). length x.nodes.items) parts
  pub head : IsHead (head_of j)
  pub few : IsNumber (length j.nodes.items)

-- the parts of such a search, put together
pub searched_on : (b : Problem) (budget to_beat floor : ℕ) (c named : Certificate) (h : History) (boxes : List PlainBox) (parts : List Certificate) (loss : Option ℕ) (j : Certificate) → (names : IsConverted b c named) → HasVersion named
    → boxes ≡ left_boxes_of b names.good.tree → loss ≡ loss_of h.best → IsLawful b (course_from boxes to_beat budget floor) h → AreGood b (loss_of h.best) boxes parts → AreSearched b to_beat boxes parts
    → sum_by (λ (x : Certificate). length x.nodes.items) parts ≡ length h.log.items + length h.left.items → sum_by (λ (x : Certificate). x.left) parts ≡ length h.left.items
    → IsJoined named parts floor loss j → KeepsRight named parts loss j → length j.nodes.items + length parts ≡ length named.nodes.items + sum_by (λ (x : Certificate). length x.nodes.items) parts
    → IsHead (head_of j) → IsNumber (length j.nodes.items) → HasSearched b budget to_beat floor c named h parts j
searched_on b budget to_beat floor c named h boxes parts loss j names has are is lawful right searched nodes left joined keeps count head few = record {
  names = names;
  named_version = has;
  lawful = subst (λ (xs : List PlainBox). IsLawful b (course_from xs to_beat budget floor) h) are lawful;
  right = subst (λ (xs : List PlainBox). AreGood b (loss_of h.best) xs parts) are right;
  searched = subst (λ (xs : List PlainBox). AreSearched b to_beat xs parts) are searched;
  nodes = nodes;
  left = left;
  joined = subst (λ (o : Option ℕ). IsJoined named parts floor o j) is joined;
  keeps = subst (λ (o : Option ℕ). KeepsRight named parts o j) is keeps;
  count = count;
  head = head;
  few = few;
}

-- a right certificate is right for its own loss
pub own_loss : (b : Problem) (loss : Option ℕ) (c : Certificate) → IsGood b (root_ranges b) loss c → IsGood b (root_ranges b) c.loss c
own_loss b loss c good = subst (λ (o : Option ℕ). IsGood b (root_ranges b) o c) (sym good.loss_is) good

module _ (b : Problem) (budget to_beat floor : ℕ) (fronts : Bool) (plan : Option Forest) (c named : Certificate) (h : History) (parts : List Certificate) (j : Certificate) (best : Option Forest)
    (problem : IsProblem b) (right : IsGood b (root_ranges b) (loss_in b plan) c) (s : HasSearched b budget to_beat floor c named h parts j)
    (kept : named.floor ≤ floor) (unasked : fronts ≡ false → floor ≡ named.floor) (at_most : IsAtMost (Some to_beat) (loss_in b plan)) (small : IfSome plan (λ _. to_beat < no_loss)) where
  no_worse : IsAtMost (loss_of h.best) (loss_in b plan)
  no_worse = known_at_most b plan h.best to_beat s.lawful.best_first at_most small

  right_parts : AreRightParts b (loss_of h.best) (open_boxes (root_ranges b) s.names.good.tree) parts
  right_parts = by_ranges (λ (rs : List Ranges) (p : Certificate). IsGood b rs (loss_of h.best) p) (frame_of b) 0 (open_boxes (root_ranges b) s.names.good.tree) parts s.right

  joined_good : IsGood b (root_ranges b) (loss_of h.best) j
  joined_good =
      s.keeps b (root_ranges b) c.loss s.names.good (subst (λ (o : Option ℕ). IsAtMost (loss_of h.best) o) (sym right.loss_is) no_worse)
      (subst (IsFloor b) (s.lawful.floor_is ∙ sym s.joined.floor_is) s.lawful.least_is) right_parts

  -- the boxes that were handled are those of the certificate and those of the search
  all_handled : handled j ≡ handled c + length h.log.items
  all_handled =
      let boxes = open_boxes (root_ranges b) s.names.good.tree in
      let many : named.left ≡ length parts =
      good_left_is b (root_ranges b) c.loss named s.names.good
      ∙ bound_for_each b named.floor (root_ranges b) s.names.good.tree ∙ sym (as_many (frame_of b) 0 boxes)
      ∙ zip_length (λ (x : PlainBox) (p : Certificate). IsGood b x.ranges (loss_of h.best) p) (left_boxes_of b s.names.good.tree) parts s.right in
      omega (
        arith,
        many,
        s.joined.left_is,
        s.left,
        s.nodes,
        s.count,
        named_handled b (loss_in b plan) c named right s.names,
        good_counts b (root_ranges b) c.loss named s.names.good,
        good_counts b (root_ranges b) (loss_of h.best) j joined_good,
      )

  pub resumed : HasLoss b (loss_of h.best) best → IsSaidByItsText b best → IsShortToo b best → ResumesEachBox b budget fronts plan c j best
  resumed has said short =
      let loss = s.joined.loss_is in
      let good = subst (λ (o : Option ℕ). IsGood b (root_ranges b) o j) (sym loss) joined_good in
      record {
        made = record {
          named = named;
          names = s.names;
          parts = parts;
          joined = subst (λ (o : Option ℕ). IsJoined named parts j.floor o j) (sym loss) (subst (λ (n : ℕ). IsJoined named parts n (loss_of h.best) j) (sym s.joined.floor_is) s.joined);
          floor_kept = subst (λ (n : ℕ). named.floor ≤ n) (sym s.joined.floor_is) kept;
          unasked = λ none. s.joined.floor_is ∙ unasked none;
          good = good;
          version = joined_version named j s.named_version s.joined;
          plan_is = subst (λ (o : Option ℕ). HasLoss b o best) (sym loss) has;
          no_worse = subst (λ (o : Option ℕ). IsAtMost o (loss_in b plan)) (sym loss) no_worse;
          bounds = bounds_each_plan b 0 (loss_of h.best) j problem joined_good;
          few = s.few;
          plan_short = short;
          said = both_said b best j said (is_text_of b j problem good (joined_version named j s.named_version s.joined) s.few s.head);
          in_budget = omega (arith, all_handled, s.lawful.in_budget);
          spent = λ some. all_handled ∙ ap (λ (n : ℕ). handled c + n) (s.lawful.spent (left_some h.left.items (omega (arith, some, s.joined.left_is, s.left))));
        };
        to_beat = to_beat;
        searched = s.searched;
        no_greater = at_most;
        history = h;
        lawful = subst (λ (n : ℕ). IsLawful b (course_from (left_boxes_of b s.names.good.tree) to_beat budget n) h) (sym s.joined.floor_is) s.lawful;
        handled_is = all_handled;
        left_is = omega (arith, s.joined.left_is, s.left);
      }
