-- The picture behind its last plate: where its plates stand, and what its legend says.
use Rattle.std.proofs.Common.{◌≡◌, ℕ, ◌+◌, ◌*◌, ◌<◌, ◌≤◌, List, [], ◌∷◌, ◌++◌, length, map, filter, All, Option, None, refl, sym, ◌∙◌, ap, subst, append-nil, arith}
use Rattle.std.proofs.lemmas.List.{map-append}
use Rattle.std.proofs.Math.Nat.{mul-le-mul_left}
use Rattle.std.proofs.lemmas.List.Elements.{All-append, All-contains, All-from_recursion, filter-append}
use Rattle.glass_base.specs.Problem.{Problem}
use Rattle.cut_model.specs.declared.family.Row.{Row}
use Rattle.cut_model.specs.Families.{rows_of}
use Rattle.cut_model.specs.Order.{cut_order}
use Rattle.cut_model.specs.Tree.{Forest, neighbour_count}
use Rattle.plan_picture.specs.declared.layout.Layout.{Layout}
use Rattle.plan_picture.specs.declared.mark.PictureSize.{PictureSize}
use Rattle.plan_picture.specs.declared.mark.Mark.{Mark}
use Rattle.plan_picture.specs.declared.mark.Words.{Words}
use Rattle.plan_picture.specs.declared.mark.Words.TheVariants as words
use Rattle.cut_model.specs.declared.broken.Verdict.{Verdict}
use Rattle.cut_model.specs.declared.broken.Verdict.TheVariants as verdict
use Rattle.plan_picture.specs.Marks.{picture_text}
use Rattle.plan_picture.specs.Pictures.{IsPicture, StandApart, breach_of, plates_in}
use Rattle.plan_picture.specs.Texts.{AreOf, is_count, is_heading, is_of_verdict, outside, verdict_words}
use Rattle.plan_picture.specs.Told.{Group, Told, told}
use Rattle.plan_picture.specs.inner.Adding.{key_words, with_texts}
use Rattle.plan_picture.specs.inner.Layouts.{IsLayout, IsPlaced}
use Rattle.plan_picture.specs.inner.Sketches.{IsShown}

-- of two plates that stand where the sizes say the one with the higher number stands lower
stands_lower : (size lines height : ℕ) → IsLayout size lines height → (plate other y below : ℕ) → y ≡ size * (lines * plate + 6) + height → below ≡ size * (lines * other + 6) + height → plate < other → y + height ≤ below
stands_lower size lines height sizes plate other y below at at_other lower =
    omega (arith, sizes.apart, mul-le-mul_left (size * lines) lower)

placed_apart : (b : Problem) (layout : Layout) (groups : List Group) → layout.height ≡ b.params.height → All (IsPlaced layout.size layout.lines layout.height) groups → StandApart b groups
placed_apart b layout groups high placed g h has_g has_h lower =
    let IsAt : Group → Type 0 = IsPlaced layout.size layout.lines layout.height in
    subst (λ (height : ℕ). g.y + height ≤ h.y) high
    (stands_lower layout.size layout.lines layout.height layout.sizes g.number h.number g.y h.y (All-contains IsAt groups g placed has_g) (All-contains IsAt groups h placed has_h) lower)

-- what a legend says: what was found, counts, and the key
abbrev legend_words : Problem → Verdict → ℕ → ℕ → List Words
legend_words b found plates items = verdict_words b found ++ words.Counts plates items ∷ key_words

legend_heads_none : (b : Problem) (found : Verdict) (plates items : ℕ) → filter is_heading (legend_words b found plates items) ≡ []
legend_heads_none b (verdict.Lawful loss) plates items = refl
legend_heads_none b (verdict.Broken broken) plates items = refl

legend_tells : (b : Problem) (found : Verdict) (plates items : ℕ) → filter is_of_verdict (legend_words b found plates items) ≡ verdict_words b found
legend_tells b (verdict.Lawful loss) plates items = refl
legend_tells b (verdict.Broken broken) plates items = refl

legend_counts : (b : Problem) (found : Verdict) (plates items : ℕ) → filter is_count (legend_words b found plates items) ≡ words.Counts plates items ∷ []
legend_counts b (verdict.Lawful loss) plates items = refl
legend_counts b (verdict.Broken broken) plates items = refl

legend_of_none : (b : Problem) (found : Verdict) (rows : List Row) (plates items : ℕ) → All (AreOf b rows) (legend_words b found plates items)
legend_of_none b (verdict.Lawful loss) rows plates items =
    All-from_recursion (AreOf b rows) (legend_words b (verdict.Lawful loss) plates items) (tt, (tt, (tt, (tt, (tt, (tt, (tt, (tt, tt))))))))
legend_of_none b (verdict.Broken broken) rows plates items =
    All-from_recursion (AreOf b rows) (legend_words b (verdict.Broken broken) plates items) (tt, (tt, (tt, (tt, (tt, (tt, (tt, (tt, (tt, tt)))))))))

-- the plates are shown, and the legend is behind them
pub finished : (b : Problem) (plan : Forest) (found : Verdict) (layout : Layout) (shown : Told) (frame : PictureSize) (marks : List Mark) (plates items : ℕ) →
    plates ≡ neighbour_count plan → items ≡ length (cut_order (rows_of b plan)) →
    layout.height ≡ b.params.height → IsShown b (breach_of found) layout shown (plates_in (rows_of b plan)) (rows_of b plan) → told marks ≡ with_texts shown (legend_words b found plates items) →
    IsPicture b plan found (picture_text frame marks)
finished b plan found layout shown frame marks plates items plates_are items_are high h is =
    let rows : List Row = rows_of b plan in
    let legend : List Words = legend_words b found plates items in
    record {
      frame = frame;
      marks = marks;
      text_is = refl;
      pieces = ap (λ (t : Told). t.pieces) is ∙ h.pieces;
      plates = ap (λ (t : Told). map (λ (g : Group). g.number) t.groups) is ∙ h.plates_are;
      apart = subst (λ (t : Told). StandApart b t.groups) (sym is) (placed_apart b layout shown.groups high h.placed);
      ended = ap (λ (t : Told). t.plate) is ∙ h.group;
      defects = ap (λ (t : Told). t.defects) is ∙ h.defects;
      outlines = ap (λ (t : Told). t.outlines) is ∙ h.outlines;
      rings = ap (λ (t : Told). t.rings) is ∙ h.rings;
      said = h.said ++ legend;
      texts =
          ap (λ (t : Told). t.texts) is
          ∙ ap (λ (plate : Option ℕ). shown.texts ++ map (λ w. (plate, w)) legend) h.group
          ∙ ap (λ (ts : List (Option ℕ × Words)). ts ++ outside legend) h.texts
          ∙ sym (map-append (λ w. (None, w)) h.said legend);
      verdict = filter-append is_of_verdict h.said legend ∙ ap (λ (ws : List Words). ws ++ filter is_of_verdict legend) h.verdict ∙ legend_tells b found plates items;
      counts =
          filter-append is_count h.said legend
          ∙ ap (λ (ws : List Words). ws ++ filter is_count legend) h.counts
          ∙ legend_counts b found plates items
          ∙ ap (λ (n : ℕ). words.Counts n items ∷ []) plates_are
          ∙ ap (λ (n : ℕ). words.Counts (neighbour_count plan) n ∷ []) items_are;
      headings =
          filter-append is_heading h.said legend
          ∙ ap (λ (ws : List Words). filter is_heading h.said ++ ws) (legend_heads_none b found plates items)
          ∙ append-nil (filter is_heading h.said)
          ∙ h.headings;
      of_pieces = All-append (AreOf b rows) h.said legend h.of_pieces (legend_of_none b found rows plates items);
    }
