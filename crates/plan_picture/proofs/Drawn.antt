-- What is shown once one more row is drawn.
use Rattle.std.proofs.Common.{◌≡◌, ℕ, ◌*◌, Bool, true, false, cond, List, [], ◌∷◌, ◌++◌, map, filter, All, Option, Some, None, refl, sym, ◌∙◌, ap, subst, append-nil, append_assoc}
use Rattle.std.specs.List.{flat_map}
use Rattle.std.proofs.lemmas.List.{map-append}
use Rattle.std.proofs.lemmas.List.Concat.{flat_map-append}
use Rattle.std.proofs.lemmas.List.Elements.{All-append, All-push, All-weaker, filter-append}
use Rattle.glass_base.specs.declared.item.Defect.{Defect}
use Rattle.glass_base.specs.Problem.{Problem}
use Rattle.cut_model.specs.declared.broken.Broken.{Broken}
use Rattle.cut_model.specs.declared.family.Row.{Row}
use Rattle.cut_model.specs.Tree.{sort_named}
use Rattle.plan_picture.specs.declared.layout.Layout.{Layout}
use Rattle.plan_picture.specs.declared.mark.PieceLook.{PieceLook}
use Rattle.plan_picture.specs.declared.mark.Mark.TheVariants as mark
use Rattle.plan_picture.specs.declared.mark.Words.{Words}
use Rattle.plan_picture.specs.Pictures.{defects_on, drawn, is_breach, is_plate, look_of, middle, plates_in, struck_by}
use Rattle.plan_picture.specs.Texts.{AreOf, IsTrueOf, heading, is_count, is_heading, is_of_verdict, outside}
use Rattle.plan_picture.specs.Told.{Drawn, Group, Told, begun, tell}
use Rattle.plan_picture.specs.inner.Layouts.{IsPlaced, bottom_at}
use Rattle.plan_picture.specs.inner.Sketches.{HasDrawn, HasShown, IsShown, Sketch, closed, closed_at, ended, last_plate, opened, turned_to}
use Rattle.plan_picture.proofs.PlatesBegun.{begun_with, last_plate-push, plates_in-push, same_plate}
use Rattle.plan_picture.proofs.TrueWords.{none_kept, of_last, still_of, true_no_count, true_no_heading, true_no_verdict}

-- the defects of a plate, in its group
abbrev defects_told : Problem → ℕ → List (Option ℕ × Defect)
defects_told b plate = map (λ d. (Some plate, d)) (defects_on b plate)

-- words in no group
abbrev beside : Words → Option ℕ × Words
beside said = (None, said)

-- one more plate is shown
opened_shown : (b : Problem) (breach : Option Broken) (layout : Layout) (t : Told) (plate : ℕ) (plates : List ℕ) (rows : List Row) → IsShown b breach layout t plates rows →
    IsShown b breach layout (closed b breach (opened b layout t plate)) (plates ++ plate ∷ []) rows
opened_shown b breach layout t plate plates rows h =
    let group : Group = record { number = plate; x = layout.size * 2; y = bottom_at layout.size layout.lines layout.height plate } in
    record {
      group = refl;
      pieces = h.pieces;
      plates_are = map-append (λ (g : Group). g.number) t.groups (group ∷ []) ∙ ap (λ (ps : List ℕ). ps ++ plate ∷ []) h.plates_are;
      placed = All-push (IsPlaced layout.size layout.lines layout.height) t.groups group h.placed refl;
      defects =
          ap (λ (p : Option ℕ). t.defects ++ map (λ d. (begun p plate, d)) (defects_on b plate)) h.group
          ∙ ap (λ (ds : List (Option ℕ × Defect)). ds ++ defects_told b plate) h.defects
          ∙ ap (λ (ds : List (Option ℕ × Defect)). flat_map (defects_told b) plates ++ ds) (sym (append-nil (defects_told b plate)))
          ∙ sym (flat_map-append (defects_told b) plates (plate ∷ []));
      outlines = append-nil t.outlines ∙ h.outlines;
      rings = append-nil t.rings ∙ h.rings;
      said = h.said ++ heading b plate ∷ [];
      texts = ap (λ (ts : List (Option ℕ × Words)). ts ++ outside (heading b plate ∷ [])) h.texts ∙ sym (map-append beside h.said (heading b plate ∷ []));
      verdict = filter-append is_of_verdict h.said (heading b plate ∷ []) ∙ ap (λ (ws : List Words). ws ++ []) h.verdict;
      counts = filter-append is_count h.said (heading b plate ∷ []) ∙ ap (λ (ws : List Words). ws ++ []) h.counts;
      headings = filter-append is_heading h.said (heading b plate ∷ []) ∙ ap (λ (ws : List Words). ws ++ heading b plate ∷ []) h.headings ∙ sym (map-append (heading b) plates (plate ∷ []));
      of_pieces = All-push (AreOf b rows) h.said (heading b plate) h.of_pieces tt;
    }

-- the group of this plate is open, and begun if it was not
record IsTurned (b : Problem) (breach : Option Broken) (layout : Layout) (s : Sketch) (plate : ℕ) (plates : List ℕ) (rows : List Row) : Type 0 where
  plate_is : s.plate ≡ Some plate
  group : s.tells.plate ≡ Some plate
  shown : IsShown b breach layout (closed b breach s) plates rows

turned_at : (b : Problem) (breach : Option Broken) (layout : Layout) (s : Sketch) (rows : List Row) (plate : ℕ) (same : Bool) → HasShown b breach layout s rows → is_plate s.plate plate ≡ same →
    IsTurned b breach layout (cond same s (opened b layout (closed b breach s) plate)) plate (plates_in rows ++ cond same [] (plate ∷ [])) rows
turned_at b breach layout s rows plate true h is =
    let at : s.plate ≡ Some plate = same_plate s.plate plate is in
    record {
      plate_is = at;
      group = h.group ∙ at;
      shown = subst (λ (ps : List ℕ). IsShown b breach layout (closed b breach s) ps rows) (sym (append-nil (plates_in rows))) h.shown;
    }
turned_at b breach layout s rows plate false h is = record {
  plate_is = refl;
  group = ap (λ (p : Option ℕ). begun p plate) h.shown.group;
  shown = opened_shown b breach layout (closed b breach s) plate (plates_in rows) rows h.shown;
}

turned_shown : (b : Problem) (breach : Option Broken) (layout : Layout) (s : Sketch) (rows : List Row) (plate : ℕ) → HasShown b breach layout s rows →
    IsTurned b breach layout (turned_to b breach layout s plate) plate (plates_in rows ++ begun_with (last_plate None rows) plate) rows
turned_shown b breach layout s rows plate h =
    subst (λ (p : Option ℕ). IsTurned b breach layout (turned_to b breach layout s plate) plate (plates_in rows ++ begun_with p plate) rows) h.plate
    (turned_at b breach layout s rows plate (is_plate s.plate plate) h refl)

-- a row in the group of a plate, and in that of its own
abbrev in_group : Option ℕ → Row → Option ℕ × Row
in_group plate row = (plate, row)

abbrev in_own : Row → Option ℕ × Row
in_own row = (Some row.plate, row)

-- rings around these defects in the group of a plate
abbrev ringed : List Defect → Option ℕ → List (Option ℕ × (ℕ × ℕ))
ringed struck plate = map (λ d. (plate, middle d)) struck

-- a row that is outlined in the group of its plate
outlined_row : (plate : Option ℕ) (row : Row) (is : Bool) → plate ≡ Some row.plate → map (in_group plate) (cond is (row ∷ []) []) ≡ map in_own (cond is (row ∷ []) [])
outlined_row plate row true at = ap (λ (p : Option ℕ). in_group p row ∷ []) at
outlined_row plate row false at = refl

ringed_row : (plate : Option ℕ) (struck : List Defect) (row : Row) (is : Bool) → plate ≡ Some row.plate →
    flat_map (λ (r : Row). ringed struck plate) (cond is (row ∷ []) []) ≡ flat_map (λ (r : Row). ringed struck (Some r.plate)) (cond is (row ∷ []) [])
ringed_row plate struck row true at = ap (λ (p : Option ℕ). ringed struck p ++ []) at
ringed_row plate struck row false at = refl

-- what a list has behind two parts
behind : {A : Type 0} (front centre last all more : List A) → front ++ centre ≡ all → last ≡ more → front ++ (centre ++ last) ≡ all ++ more
behind {A} front centre last all more e f = sym (append_assoc front centre last) ∙ ap (λ (xs : List A). xs ++ last) e ∙ ap (λ (xs : List A). all ++ xs) f

-- of texts, and then some that are true of a piece, a test that none of these passes keeps the texts' own
more_kept : (b : Problem) (row : Row) (test : Words → Bool) → ((said : Words) → IsTrueOf b row said → test said ≡ false) → (said more : List Words) → All (IsTrueOf b row) more → filter test (said ++ more) ≡ filter test said
more_kept b row test fails said more are_true =
    filter-append test said more ∙ ap (λ (ws : List Words). filter test said ++ ws) (none_kept b row test fails more are_true) ∙ append-nil (filter test said)

-- one more row is shown, in the group of its plate
drawn_shown : (b : Problem) (breach : Option Broken) (layout : Layout) (s : Sketch) (row : Row) (how : PieceLook) (more : List Words) (plates : List ℕ) (rows : List Row) →
    s.tells.plate ≡ Some row.plate → how ≡ look_of b (sort_named row.kind) → All (IsTrueOf b row) more → IsShown b breach layout (ended b breach s row.plate) plates rows →
    IsShown b breach layout (ended b breach (record s { tells = tell s.tells (mark.Piece row how); words = s.words ++ more; outlined = s.outlined ++ filter (is_breach breach) (row ∷ []) }) row.plate) plates (rows ++ row ∷ [])
drawn_shown b breach layout s row how more plates rows at look are_true h =
    let t : Told = s.tells in
    let struck : List Defect = struck_by b breach in
    let new : List Row = filter (is_breach breach) (row ∷ []) in
    let kept : filter (is_breach breach) (rows ++ row ∷ []) ≡ filter (is_breach breach) rows ++ new = filter-append (is_breach breach) rows (row ∷ []) in
    record {
      group = refl;
      pieces =
          ap (λ (ds : List Drawn). ds ++ record { plate = t.plate; row = row; how = how } ∷ []) h.pieces
          ∙ ap (λ (p : Option ℕ). map (drawn b) rows ++ record { plate = p; row = row; how = how } ∷ []) at
          ∙ ap (λ (l : PieceLook). map (drawn b) rows ++ record { plate = Some row.plate; row = row; how = l } ∷ []) look
          ∙ sym (map-append (drawn b) rows (row ∷ []));
      plates_are = h.plates_are;
      placed = h.placed;
      defects = h.defects;
      outlines =
          ap (λ (rs : List (Option ℕ × Row)). t.outlines ++ rs) (map-append (in_group t.plate) s.outlined new)
          ∙ behind t.outlines (map (in_group t.plate) s.outlined) (map (in_group t.plate) new) (map in_own (filter (is_breach breach) rows)) (map in_own new) h.outlines (outlined_row t.plate row (is_breach breach row) at)
          ∙ sym (map-append in_own (filter (is_breach breach) rows) new)
          ∙ ap (map in_own) (sym kept);
      rings =
          ap (λ (rs : List (Option ℕ × (ℕ × ℕ))). t.rings ++ rs) (flat_map-append (λ (r : Row). ringed struck t.plate) s.outlined new)
          ∙ behind t.rings (flat_map (λ (r : Row). ringed struck t.plate) s.outlined) (flat_map (λ (r : Row). ringed struck t.plate) new) (flat_map (λ (r : Row). ringed struck (Some r.plate)) (filter (is_breach breach) rows))
          (flat_map (λ (r : Row). ringed struck (Some r.plate)) new) h.rings (ringed_row t.plate struck row (is_breach breach row) at)
          ∙ sym (flat_map-append (λ (r : Row). ringed struck (Some r.plate)) (filter (is_breach breach) rows) new)
          ∙ ap (flat_map (λ (r : Row). ringed struck (Some r.plate))) (sym kept);
      said = h.said ++ more;
      texts =
          ap (λ (ts : List (Option ℕ × Words)). t.texts ++ ts) (map-append beside s.words more)
          ∙ behind t.texts (outside s.words) (outside more) (outside h.said) (outside more) h.texts refl
          ∙ sym (map-append beside h.said more);
      verdict = more_kept b row is_of_verdict (true_no_verdict b row) h.said more are_true ∙ h.verdict;
      counts = more_kept b row is_count (true_no_count b row) h.said more are_true ∙ h.counts;
      headings = more_kept b row is_heading (true_no_heading b row) h.said more are_true ∙ h.headings;
      of_pieces =
          All-append (AreOf b (rows ++ row ∷ [])) h.said more
          (All-weaker (AreOf b rows) (AreOf b (rows ++ row ∷ [])) (still_of b rows row) h.said h.of_pieces)
          (All-weaker (IsTrueOf b row) (AreOf b (rows ++ row ∷ [])) (of_last b rows row) more are_true);
    }

-- the sketch in which the group of the row's plate is open, then the row is drawn
pub more_shown : (b : Problem) (breach : Option Broken) (layout : Layout) (s turned new : Sketch) (rows : List Row) (row : Row) (how : PieceLook) →
    HasShown b breach layout s rows → turned ≡ turned_to b breach layout s row.plate → how ≡ look_of b (sort_named row.kind) → HasDrawn b breach row how turned new →
    HasShown b breach layout new (rows ++ row ∷ [])
more_shown b breach layout s turned new rows row how h turned_is look drawn_is =
    let plates : List ℕ = plates_in rows ++ begun_with (last_plate None rows) row.plate in
    let on : IsTurned b breach layout turned row.plate plates rows = subst (λ (u : Sketch). IsTurned b breach layout u row.plate plates rows) (sym turned_is) (turned_shown b breach layout s rows row.plate h) in
    let open_shown : IsShown b breach layout (ended b breach turned row.plate) plates rows = subst (λ (p : Option ℕ). IsShown b breach layout (closed_at b breach turned p) plates rows) on.plate_is on.shown in
    let after : Sketch = record turned { tells = tell turned.tells (mark.Piece row how); words = turned.words ++ drawn_is.more; outlined = turned.outlined ++ filter (is_breach breach) (row ∷ []) } in
    let shown : IsShown b breach layout (ended b breach after row.plate) plates (rows ++ row ∷ []) =
    drawn_shown b breach layout turned row how drawn_is.more plates rows on.group look drawn_is.are_true open_shown in
    subst (λ (u : Sketch). HasShown b breach layout u (rows ++ row ∷ [])) (sym drawn_is.after) (record {
      plate = on.plate_is ∙ sym (last_plate-push None rows row);
      group = on.group ∙ sym on.plate_is;
      shown =
          subst (λ (ps : List ℕ). IsShown b breach layout (closed b breach after) ps (rows ++ row ∷ [])) (sym (plates_in-push rows row))
          (subst (λ (p : Option ℕ). IsShown b breach layout (closed_at b breach after p) plates (rows ++ row ∷ [])) (sym on.plate_is) shown);
    })
