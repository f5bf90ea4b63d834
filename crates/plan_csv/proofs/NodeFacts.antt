-- What is kept of rows stays true when one row more is read.
use Rattle.std.proofs.Common.{◌≡◌, ◌≢◌, ◌+◌, ◌≤◌, ◌∙◌, ℕ, List, [], ◌∷◌, ◌++◌, true, false, refl, sym, ap, arith, add_assoc, append-nil, All, subst}
use Rattle.std.specs.Prelude.{Option, Some, None, ◌==◌}
use Rattle.std.specs.Ordering.{nat_cmp, is_eq}
use Rattle.std.proofs.lemmas.Bool.{eq-eqb, ne_eqb}
use Rattle.std.proofs.lemmas.Bool.Decides.{nat_tests}
use Rattle.std.proofs.lemmas.List.Folds.{find-append}
use Rattle.std.proofs.lemmas.List.Elements.{All-nil, All-push, All-weaker, filter-append}
use Rattle.cut_model.specs.declared.family.Row.{Row}
use Rattle.cut_model.specs.declared.family.Along.{Along}
use Rattle.cut_model.specs.Families.{side_along}
use Rattle.cut_model.specs.Parents.{is_number, rows_in, sum_along}
use Rattle.plan_csv.specs.PlanTexts.{lies}
use Rattle.cut_model.specs.Tree.{IsRowType}
use Rattle.plan_csv.specs.inner.ReadNodes.{Gained, GoesWith, IsChild, IsNamed, IsUnder, row_with, side_filled}
use Rattle.plan_csv.specs.declared.nodes.KeptRow.{KeptRow}
use Rattle.glass_base.specs.declared.limits.TheConstants.{MOST_SIDE}

-- two numbers that differ are not equal to the order of numbers
pub number_differs : (k q : ℕ) → k ≢ q → is_eq (nat_cmp k q) ≡ false
number_differs k q ne = grind (arith, nat_tests)

-- a row that was found is found behind more rows too
pub found_more : (number : ℕ) (rows more : List Row) (e : Row) → row_with number rows ≡ Some e → row_with number (rows ++ more) ≡ Some e
found_more number rows more e h = rw (find-append (λ x. x.node == number) rows more, h) refl

-- a new row is found behind the others
pub found_last : (rows : List Row) (r : Row) → row_with r.node rows ≡ None → row_with r.node (rows ++ r ∷ []) ≡ Some r
found_last rows r h = rw (find-append (λ x. x.node == r.node) rows (r ∷ []), h, eq-eqb r.node r.node refl) refl

-- another number is not found behind one more row either
not_found_more : (number : ℕ) (rows : List Row) (r : Row) → number ≢ r.node → row_with number rows ≡ None → row_with number (rows ++ r ∷ []) ≡ None
not_found_more number rows r ne h =
    rw (find-append (λ x. x.node == number) rows (r ∷ []), h, ne_eqb r.node number (λ e. ne (sym e))) refl

-- a row that does not name a number as its parent adds no row to those that do
same_children : (number : ℕ) (rows : List Row) (r : Row) → is_number number r.parent ≡ false → rows_in number (rows ++ r ∷ []) ≡ rows_in number rows
same_children number rows r h =
    rw (filter-append (λ x. is_number number x.parent) rows (r ∷ []), h) (append-nil (rows_in number rows))

-- a row that names it adds itself
more_children : (number : ℕ) (rows : List Row) (r : Row) → is_number number r.parent ≡ true → rows_in number (rows ++ r ∷ []) ≡ rows_in number rows ++ r ∷ []
more_children number rows r h = rw (filter-append (λ x. is_number number x.parent) rows (r ∷ []), h) refl

-- a row adds its side to the sum
sum_along-push : (along : Along) (rows : List Row) (r : Row) → sum_along along (rows ++ r ∷ []) ≡ sum_along along rows + side_along along r
sum_along-push along [] r = omega arith
sum_along-push along (x ∷ rows) r = rw (sum_along-push along rows r) (sym (add_assoc (side_along along x) (sum_along along rows) (side_along along r)))

-- a child stays a child
child_more : (rows more : List Row) (e x : Row) → IsChild rows e x → IsChild (rows ++ more) e x
child_more rows more e x h = record { known = found_more x.node rows more x h.known; with = h.with; typed = h.typed }

-- what is kept of a number stays, where the new row neither has this number nor names it as its parent
pub named_same : (rows : List Row) (r : Row) (number : ℕ) (o : Option KeptRow) → number ≢ r.node → is_number number r.parent ≡ false
    → IsNamed rows number o → IsNamed (rows ++ r ∷ []) number o
named_same rows r number None ne h n = (not_found_more number rows r ne n.0, same_children number rows r h ∙ n.1)
named_same rows r number (Some node) ne h n =
    let same : rows_in number (rows ++ r ∷ []) ≡ rows_in number rows = same_children number rows r h in
    record {
      found = found_more number rows (r ∷ []) node.row n.found;
      number_is = n.number_is;
      children_are = n.children_are ∙ sym same;
      sound = rw same (All-weaker (IsChild rows node.row) (IsChild (rows ++ r ∷ []) node.row) (child_more rows (r ∷ []) node.row) (rows_in number rows) n.sound);
      filled_is = rw same n.filled_is;
      low = n.low;
    }

-- the node of the new row's parent has gained it
pub named_gained : (rows : List Row) (r : Row) (parent : ℕ) (o m : Option KeptRow) → row_with r.node rows ≡ None → r.parent ≡ Some parent → IsRowType r.kind
    → IsUnder rows r parent → Gained r o m → IsNamed rows parent o → IsNamed (rows ++ r ∷ []) parent m
named_gained rows r parent None m new p typed under gained n = absurd gained
named_gained rows r parent (Some node) None new p typed under gained n = absurd gained
named_gained rows r parent (Some node) (Some more) new p typed under gained n =
    let own : is_number parent r.parent ≡ true = rw p (eq-eqb parent parent refl) in
    let children : rows_in parent (rows ++ r ∷ []) ≡ rows_in parent rows ++ r ∷ [] = more_children parent rows r own in
    let is_above : node.row ≡ under.above = let s : Some node.row ≡ Some under.above = sym n.found ∙ under.found in cc in
    let is_node : more.row ≡ node.row = gained.row_is in
    let goes : GoesWith node.row r = subst (λ (e : Row). GoesWith e r) (sym is_above) under.with in
    let child : IsChild (rows ++ r ∷ []) node.row r = record { known = found_last rows r new; with = goes; typed = typed } in
    let level : r.cut ≡ node.row.cut + 1 = goes.cut in
    let all : All (IsChild (rows ++ r ∷ []) node.row) (rows_in parent (rows ++ r ∷ [])) =
    rw children (All-push (IsChild (rows ++ r ∷ []) node.row) (rows_in parent rows) r (All-weaker (IsChild rows node.row) (IsChild (rows ++ r ∷ []) node.row) (child_more rows (r ∷ []) node.row) (rows_in parent rows) n.sound) child) in
    let filled : more.filled ≡ sum_along (lies (node.row.cut + 1)) (rows_in parent (rows ++ r ∷ [])) =
    rw (children, sum_along-push (lies (node.row.cut + 1)) (rows_in parent rows) r, ← level) (gained.filled_is ∙ ap (λ x. x + side_filled r) (n.filled_is ∙ ap (λ x. sum_along (lies x) (rows_in parent rows)) (sym level))) in
    let room : node.filled + side_filled r ≤ MOST_SIDE = rw (n.filled_is, ← level) under.room in
    record {
      found = rw is_node (found_more parent rows (r ∷ []) node.row n.found);
      number_is = rw is_node n.number_is;
      children_are = gained.children_are ∙ ap (λ xs. xs ++ r ∷ []) n.children_are ∙ sym children;
      sound = rw is_node all;
      filled_is = rw is_node filled;
      low = rw gained.filled_is room;
    }

-- no row names a number as its parent that no row has
no_children : (rows : List Row) (number : ℕ) (o : Option KeptRow) → row_with number rows ≡ None → IsNamed rows number o → rows_in number rows ≡ []
no_children rows number None h n = n.1
no_children rows number (Some node) h n = absurd (let u : Some node.row ≡ None = sym n.found ∙ h in cc)

-- a node without children for a new row
pub named_new : (rows : List Row) (r : Row) (o : Option KeptRow) (n : KeptRow) → row_with r.node rows ≡ None → is_number r.node r.parent ≡ false → IsNamed rows r.node o
    → n.row ≡ r → n.children.items ≡ [] → n.filled ≡ 0 → IsNamed (rows ++ r ∷ []) r.node (Some n)
named_new rows r o n new own old row_is none filled =
    let same : rows_in r.node (rows ++ r ∷ []) ≡ [] = same_children r.node rows r own ∙ no_children rows r.node o new old in
    record {
      found = rw row_is (found_last rows r new);
      number_is = ap (λ (x : Row). x.node) row_is;
      children_are = none ∙ sym same;
      sound = rw same (All-nil (IsChild (rows ++ r ∷ []) n.row));
      filled_is = rw same filled;
      low = rw filled (omega arith);
    }
