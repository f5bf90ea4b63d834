-- What is cut from a row among rows that were read.
use Rattle.std.proofs.Common.{◌≡◌, ◌+◌, ◌∙◌, ℕ, zero, suc, List, [], ◌∷◌, Bool, true, false, cond, length, get_or, refl, sym, ap, arith, All}
use Rattle.std.specs.Prelude.{Option, Some, None, ◌==◌, ◌||◌, ◌&&◌, not}
use Rattle.std.specs.Option.{option_or}
use Rattle.std.specs.BTreeMap.{get}
use Rattle.std.specs.Ordering.{nat_cmp}
use Rattle.std.proofs.lemmas.Bool.{eq-eqb, eqb-true}
use Rattle.std.proofs.lemmas.List.Elements.{All-head, All-tail}
use Rattle.cut_model.specs.declared.family.Row.{Row}
use Rattle.cut_model.specs.declared.family.Sort.{Sort}
use Rattle.cut_model.specs.Families.{side_along}
use Rattle.cut_model.specs.Parents.{rows_in}
use Rattle.cut_model.specs.Tree.{is_branch, nothing, piece, sort_named}
use Rattle.plan_csv.specs.declared.bad_plan.BadPlan.{BadPlan}
use Rattle.plan_csv.specs.declared.bad_plan.BadPlan.TheVariants as bad
use Rattle.plan_csv.specs.declared.nodes.KeptRow.{KeptRow}
use Rattle.plan_csv.specs.declared.nodes.Nodes.{Nodes}
use Rattle.plan_csv.specs.PlanTexts.{cell_refusal, grown, lies, names_branch, unless}
use Rattle.plan_csv.specs.inner.ReadNodes.{AreNodes, HaveTwo, IsChild, IsNamed, IsPiece, below, row_with, side_filled}

-- a row that is not cut has no children
childless : (rows children : List Row) (e : Row) → names_branch e.kind ≡ false → All (IsChild rows e) children → children ≡ []
childless rows [] e uncut all = refl
childless rows (r ∷ children) e uncut all =
    absurd (let cut : names_branch e.kind ≡ true = (All-head (IsChild rows e) r children all).with.branch in cc)

-- no row names a row that is not cut as its parent
none_below : (rows : List Row) (r : Row) (o : Option KeptRow) → IsNamed rows r.node o → row_with r.node rows ≡ Some r → names_branch r.kind ≡ false → rows_in r.node rows ≡ []
none_below rows r None n known uncut = n.1
none_below rows r (Some node) n known uncut =
    let same : node.row ≡ r = let s : Some node.row ≡ Some r = sym n.found ∙ known in cc in
    childless rows (rows_in r.node rows) node.row (ap (λ (e : Row). names_branch e.kind) same ∙ uncut) n.sound

-- there are no pieces of no rows
grown_of_none : (depth : ℕ) (rows : List Row) → nothing ≡ grown depth rows []
grown_of_none zero rows = refl
grown_of_none (suc depth) rows = refl

-- nothing is cut from a row of such a sort
pub below_nothing : (nodes : Nodes) (r : Row) (depth : ℕ) (sort : Sort) → AreNodes nodes → row_with r.node nodes.rows.items ≡ Some r
    → sort ≡ sort_named r.kind → is_branch sort ≡ false → nothing ≡ below (suc depth) nodes.rows.items r
below_nothing nodes r depth sort kept known e uncut =
    let none : rows_in r.node nodes.rows.items ≡ [] =
    none_below nodes.rows.items r (get nat_cmp nodes.named r.node) (kept.named r.node) known (ap is_branch (sym e) ∙ uncut) in
    rw none (grown_of_none depth nodes.rows.items)

-- of two refusals that are none together, both are none
both_none : (a b : Option BadPlan) → option_or a b ≡ None → (a ≡ None) × (b ≡ None)
both_none None b h = (refl, h)
both_none (Some e) b h = absurd (let u : Some e ≡ None = h in cc)

-- what is not refused of a cell that is cut: it has two children
holds_two : (cell branch two : Bool) (e : BadPlan) → unless (not (cell && branch) || two) e ≡ None → cell ≡ true → branch ≡ true → two ≡ true
holds_two true true true e h c b = refl
holds_two true true false e h c b = absurd (let u : Some e ≡ None = h in cc)
holds_two true false two e h c b = absurd (let u : false ≡ true = b in cc)
holds_two false branch two e h c b = absurd (let u : false ≡ true = c in cc)

-- one of these rows that is a cell and is cut has two children
has_two : (rows later : List Row) (row number : ℕ) (r : Row) → cell_refusal rows row later ≡ None → row_with number later ≡ Some r → r.cut ≡ 3 → names_branch r.kind ≡ true
    → length (rows_in r.node rows) ≡ 2
has_two rows [] row number r h found cell branch = absurd (let u : None ≡ Some r = found in cc)
has_two rows (x ∷ later) row number r h found cell branch =
    let parts = both_none (unless (not ((x.cut == 3) && names_branch x.kind) || (length (rows_in x.node rows) == 2)) (bad.Kind row)) (cell_refusal rows (row + 1) later) h in
    by (x.node == number) found parts.0 (λ f. has_two rows later (row + 1) number r parts.1 f cell branch)
  where
    by : (same : Bool) → cond same (Some x) (row_with number later) ≡ Some r
        → unless (not ((x.cut == 3) && names_branch x.kind) || (length (rows_in x.node rows) == 2)) (bad.Kind row) ≡ None
        → (row_with number later ≡ Some r → length (rows_in r.node rows) ≡ 2) → length (rows_in r.node rows) ≡ 2
    by true f p rest =
        let is : x ≡ r = let s : Some x ≡ Some r = f in cc in
        let test : (length (rows_in x.node rows) == 2) ≡ true =
        holds_two (x.cut == 3) (names_branch x.kind) (length (rows_in x.node rows) == 2) (bad.Kind row) p
        (eq-eqb x.cut 3 (ap (λ (e : Row). e.cut) is ∙ cell)) (ap (λ (e : Row). names_branch e.kind) is ∙ branch) in
        ap (λ (e : Row). length (rows_in e.node rows)) (sym is) ∙ eqb-true (length (rows_in x.node rows)) 2 test
    by false f p rest = rest f

-- a cell that is cut has two children
pub two_children : (rows : List Row) (r : Row) → HaveTwo rows → row_with r.node rows ≡ Some r → r.cut ≡ 3 → names_branch r.kind ≡ true → length (rows_in r.node rows) ≡ 2
two_children rows r two known cell branch = has_two rows rows 2 r.node r two known cell branch

-- the side of a leaf
leaf_side : (rows : List Row) (r : Row) → IsPiece rows 4 r → r.height ≡ side_filled r
leaf_side rows r is = ap (λ n. side_along (lies n) r) (sym is.cut)

-- two leaves are grown of two rows
pub two_grown : (rows children : List Row) (d : Row) (low high : ℕ) (low_sort high_sort : Sort) → length children ≡ 2 → All (IsPiece rows 4) children
    → low ≡ (get_or children 0 d).height → low_sort ≡ sort_named (get_or children 0 d).kind
    → high ≡ (get_or children 1 d).height → high_sort ≡ sort_named (get_or children 1 d).kind
    → piece low low_sort nothing (piece high high_sort nothing nothing) ≡ grown 0 rows children
two_grown rows [] d low high low_sort high_sort two all a b c e = absurd (omega (arith, two))
two_grown rows (x ∷ []) d low high low_sort high_sort two all a b c e = absurd (omega (arith, two))
two_grown rows (x ∷ y ∷ z ∷ more) d low high low_sort high_sort two all a b c e = absurd (omega (arith, two))
two_grown rows (x ∷ y ∷ []) d low high low_sort high_sort two all a b c e =
    let first : low ≡ side_filled x = a ∙ leaf_side rows x (All-head (IsPiece rows 4) x (y ∷ []) all) in
    let second : high ≡ side_filled y = c ∙ leaf_side rows y (All-head (IsPiece rows 4) y [] (All-tail (IsPiece rows 4) x (y ∷ []) all)) in
    rw (first, second, b, e) refl
