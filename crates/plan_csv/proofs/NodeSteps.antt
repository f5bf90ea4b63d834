-- One row more, put in its place among the rows that were read.
use Rattle.std.proofs.Common.{◌≡◌, ◌≢◌, ◌∙◌, ℕ, zero, suc, List, [], ◌∷◌, ◌++◌, true, false, refl, sym, ap, append-nil, All, ⊎_elim}
use Rattle.std.specs.Prelude.{Option, Some, None, ◌==◌}
use Rattle.std.specs.BTreeMap.{get}
use Rattle.std.specs.Ordering.{nat_cmp, is_eq}
use Rattle.std.proofs.Math.Dec.{eqb-suc-zero}
use Rattle.std.proofs.lemmas.Bool.{ne_eqb, cases_eq}
use Rattle.std.proofs.lemmas.List.Elements.{All-push, All-weaker, filter-append}
use Rattle.cut_model.specs.declared.family.Row.{Row}
use Rattle.cut_model.specs.Lawful.{plate_rows}
use Rattle.cut_model.specs.Parents.{is_number}
use Rattle.cut_model.specs.Tree.{IsRowType}
use Rattle.plan_csv.specs.inner.ReadNodes.{AreNodes, MayFollow, IsAttached, IsNamed, IsPlaced, IsRoot, row_with}
use Rattle.plan_csv.specs.declared.nodes.KeptRow.{KeptRow}
use Rattle.plan_csv.specs.declared.nodes.Nodes.{Nodes}
use Rattle.plan_csv.proofs.NodeFacts.{found_last, found_more, named_gained, named_new, named_same, number_differs}

-- what is kept of another number than the new row's, once the new row is among its parent's children
named_attached : (rows : List Row) (r : Row) (cut : ℕ) (parent : Option ℕ) (old mid : Nodes) → row_with r.node rows ≡ None → IsRowType r.kind → r.parent ≡ parent
    → IsPlaced rows r cut parent → IsAttached r parent old mid → (number : ℕ) → number ≢ r.node
    → ((q : ℕ) → IsNamed rows q (get nat_cmp old.named q)) → IsNamed (rows ++ r ∷ []) number (get nat_cmp mid.named number)
named_attached rows r cut None old mid new typed p placed attached number ne named =
    rw (attached.1 number) (named_same rows r number (get nat_cmp old.named number) ne (rw p refl) (named number))
named_attached rows r zero (Some parent) old mid new typed p placed attached number ne named = absurd placed
named_attached rows r (suc cut) (Some parent) old mid new typed p placed attached number ne named =
    ⊎_elim
    (λ (same : number ≡ parent). rw same (named_gained rows r parent (get nat_cmp old.named parent) (get nat_cmp mid.named parent) new p typed placed attached.1.child (named parent)))
    (λ (other : number ≡ parent → ⊥).
    rw (attached.1.others number other)
    (named_same rows r number (get nat_cmp old.named number) ne (rw p (ne_eqb parent number (λ e. other (sym e)))) (named number)))
    (cases_eq number parent)

-- a new row is not its own parent
not_own : (rows : List Row) (r : Row) (cut : ℕ) (parent : Option ℕ) → row_with r.node rows ≡ None → IsPlaced rows r cut parent → is_number r.node parent ≡ false
not_own rows r cut None new placed = refl
not_own rows r zero (Some parent) new placed = absurd placed
not_own rows r (suc cut) (Some parent) new placed =
    ne_eqb parent r.node (λ (e : parent ≡ r.node). let u : Some placed.above ≡ None = sym placed.found ∙ ap (λ q. row_with q rows) e ∙ new in cc)

-- a new plate stands behind the others
plates_more : (rows : List Row) (r : Row) → (r.cut == 0) ≡ true → plate_rows (rows ++ r ∷ []) ≡ plate_rows rows ++ r ∷ []
plates_more rows r h = rw (filter-append (λ x. x.cut == 0) rows (r ∷ []), h) refl

-- a new piece is no plate
plates_same : (rows : List Row) (r : Row) → (r.cut == 0) ≡ false → plate_rows (rows ++ r ∷ []) ≡ plate_rows rows
plates_same rows r h = rw (filter-append (λ x. x.cut == 0) rows (r ∷ []), h) (append-nil (plate_rows rows))

-- the plates, once the new row is in its place
plates_attached : (rows : List Row) (r : Row) (cut : ℕ) (parent : Option ℕ) (old mid : Nodes) → r.cut ≡ cut
    → IsPlaced rows r cut parent → IsAttached r parent old mid → old.plates.items ≡ plate_rows rows → mid.plates.items ≡ plate_rows (rows ++ r ∷ [])
plates_attached rows r zero None old mid level placed attached plates =
    attached.0 ∙ ap (λ xs. xs ++ r ∷ []) plates ∙ sym (plates_more rows r (ap (λ n. n == 0) level))
plates_attached rows r zero (Some _) old mid level placed attached plates = absurd placed
plates_attached rows r (suc cut) None old mid level placed attached plates = absurd placed
plates_attached rows r (suc cut) (Some _) old mid level placed attached plates =
    attached.0 ∙ plates ∙ sym (plates_same rows r (ap (λ n. n == 0) level ∙ eqb-suc-zero cut))

-- a plate stays a plate
root_more : (rows more : List Row) (x : Row) → IsRoot rows x → IsRoot (rows ++ more) x
root_more rows more x h = record { known = found_more x.node rows more x h.known; cut = h.cut; branch = h.branch }

-- the plates are plates, once the new row is read
roots_more : (rows : List Row) (r : Row) (cut : ℕ) (parent : Option ℕ) → r.cut ≡ cut → row_with r.node rows ≡ None → IsPlaced rows r cut parent
    → All (IsRoot rows) (plate_rows rows) → All (IsRoot (rows ++ r ∷ [])) (plate_rows (rows ++ r ∷ []))
roots_more rows r zero None level new placed roots =
    let old : All (IsRoot (rows ++ r ∷ [])) (plate_rows rows) = All-weaker (IsRoot rows) (IsRoot (rows ++ r ∷ [])) (root_more rows (r ∷ [])) (plate_rows rows) roots in
    let root : IsRoot (rows ++ r ∷ []) r = record { known = found_last rows r new; cut = level; branch = placed } in
    rw (plates_more rows r (ap (λ n. n == 0) level)) (All-push (IsRoot (rows ++ r ∷ [])) (plate_rows rows) r old root)
roots_more rows r zero (Some _) level new placed roots = absurd placed
roots_more rows r (suc cut) None level new placed roots = absurd placed
roots_more rows r (suc cut) (Some _) level new placed roots =
    rw (plates_same rows r (ap (λ n. n == 0) level ∙ eqb-suc-zero cut))
    (All-weaker (IsRoot rows) (IsRoot (rows ++ r ∷ [])) (root_more rows (r ∷ [])) (plate_rows rows) roots)

-- a node was put in under this number, and the others are as before
pub record HasNewNode (number : ℕ) (n : KeptRow) (old new : ℕ → Option KeptRow) : Type 0 where
  pub here : new number ≡ Some n
  pub others : (q : ℕ) → is_eq (nat_cmp number q) ≡ false → new q ≡ old q

-- what is kept is that of one row more
pub are_nodes-more : (r : Row) (n : KeptRow) (old mid new : Nodes) → AreNodes old → MayFollow old.rows.items r → IsAttached r r.parent old mid
    → new.rows.items ≡ old.rows.items ++ r ∷ [] → new.plates.items ≡ mid.plates.items
    → HasNewNode r.node n (get nat_cmp mid.named) (get nat_cmp new.named) → n.row ≡ r → n.children.items ≡ [] → n.filled ≡ 0 → AreNodes new
are_nodes-more r n old mid new nodes allowed attached rows plates put row_is none filled =
    let before : List Row = old.rows.items in
    let own : is_number r.node r.parent ≡ false = not_own before r r.cut r.parent allowed.new allowed.placed in
    let at : (number : ℕ) → IsNamed (before ++ r ∷ []) number (get nat_cmp new.named number) = λ number.
    ⊎_elim
    (λ (same : number ≡ r.node). rw (same, put.here) (named_new before r (get nat_cmp old.named r.node) n allowed.new own (nodes.named r.node) row_is none filled))
    (λ (other : number ≡ r.node → ⊥).
    rw (put.others number (number_differs r.node number (λ e. other (sym e))))
    (named_attached before r r.cut r.parent old mid allowed.new allowed.typed refl allowed.placed attached number other nodes.named))
    (cases_eq number r.node) in
    record {
      named = rw rows at;
      plates_are = rw rows (plates ∙ plates_attached before r r.cut r.parent old mid refl allowed.placed attached nodes.plates_are);
      roots = rw rows (roots_more before r r.cut r.parent refl allowed.new allowed.placed nodes.roots);
    }
