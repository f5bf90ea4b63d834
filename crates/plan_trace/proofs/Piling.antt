-- Piles of pieces.
use Rattle.std.proofs.Common.{◌≡◌, ℕ, ◌-◌, ◌==◌, List, [], ◌∷◌, ◌++◌, refl, sym, ap, ◌∙◌, arith, true, false, Option, Some, None, reverse}
use Rattle.std.proofs.lemmas.Grind.{reverse_onto}
use Rattle.std.proofs.lemmas.Bool.Decides.{nat_tests}
use Rattle.cut_model.specs.declared.family.Sort.{Sort}
use Rattle.cut_model.specs.declared.plan.Plate.{Plate}
use Rattle.cut_model.specs.declared.plan.Piece1.{Piece1}
use Rattle.cut_model.specs.declared.plan.Piece2.{Piece2}
use Rattle.cut_model.specs.declared.plan.Piece3.{Piece3}
use Rattle.cut_model.specs.declared.plan.Body2.{Body2}
use Rattle.cut_model.specs.declared.plan.Body3.{Body3}
use Rattle.cut_model.specs.declared.plan.Body2.TheVariants as b2
use Rattle.cut_model.specs.declared.plan.Body3.TheVariants as b3
use Rattle.cut_model.specs.Tree.{Forest, nothing, piece, neighbours, cells, bands, sort1, inner1, sort2, inner2, sort3, inner3, strips as strips_in}
use Rattle.plan_trace.specs.Canonical.{gap, start_of, hoisted, hoisted_sort, hoisted_inner, end_sort}
use Rattle.plan_trace.specs.inner.Piles.{piled, start_in, item_in2, item_in3, item_alone2, item_alone3, plates_pile, strips_pile}

-- one more piece in front
pub piled-push : {A : Type 0} (size : A → ℕ) (sort : A → Sort) (inner : A → Forest) (ps : List A) (p : A) (later : Forest) →
    piled size sort inner (ps ++ p ∷ []) later ≡ piece (size p) (sort p) (inner p) (piled size sort inner ps later)
piled-push size sort inner [] p later = refl
piled-push size sort inner (q ∷ ps) p later = piled-push size sort inner ps p (piece (size q) (sort q) (inner q) later)

started : {A : Type 0} (size : A → ℕ) (sort : A → Sort) (inner : A → Forest) (ps : List A) (n : ℕ) (t : Sort) (i l : Forest) (start end : ℕ) →
    start_of (piled size sort inner ps (piece n t i l)) start end ≡ start
started size sort inner [] n t i l start end = refl
started size sort inner (p ∷ ps) n t i l start end = started size sort inner ps (size p) (sort p) (inner p) (piece n t i l) start end

-- where a pile begins
pub pile-start : {A : Type 0} (size : A → ℕ) (sort : A → Sort) (inner : A → Forest) (ps : List A) (start end : ℕ) →
    start_of (piled size sort inner ps nothing) start end ≡ start_in ps start end
pile-start size sort inner [] start end = refl
pile-start size sort inner (p ∷ ps) start end = started size sort inner ps (size p) (sort p) (inner p) nothing start end

-- a gap that is none, and one that is
pub gap-none : (from to : ℕ) (sort : Sort) (later : Forest) → from ≡ to → gap from to sort later ≡ later
gap-none from to sort later e = let test : (from == to) ≡ true = grind (arith, nat_tests) in rw test refl

pub gap-there : (from to : ℕ) (sort : Sort) (later : Forest) → (from ≡ to → ⊥) → gap from to sort later ≡ piece (to - from) sort nothing later
gap-there from to sort later ne = let test : (from == to) ≡ false = grind (arith, nat_tests) in rw test refl

-- neighbours, and behind them these
abbrev followed : {A : Type 0} → (A → ℕ) → (A → Sort) → (A → Forest) → List A → Forest → Forest
followed size sort inner [] later = later
followed size sort inner (p ∷ ps) later = piece (size p) (sort p) (inner p) (followed size sort inner ps later)

-- these pieces are this one item, or not one item
abbrev pub Alone : Forest → Option ℕ → Type 0
Alone pieces (Some number) = (hoisted_sort pieces ≡ Sort.Item number) × (hoisted_inner pieces ≡ nothing)
Alone pieces None = (hoisted_sort pieces ≡ Sort.Branch) × (hoisted_inner pieces ≡ pieces)

one_cell : (w : ℕ) (body : Body3) → (o : Option ℕ) → item_in3 body ≡ o → Alone (piece w (sort3 body) (inner3 body) nothing) o
one_cell w (b3.Item number) (Some n) e = let same : number ≡ n = cc in rw same (refl, refl)
one_cell w (b3.Item number) None e = absurd (cc)
one_cell w b3.Waste (Some n) e = absurd (cc)
one_cell w b3.Waste None e = (refl, refl)
one_cell w (b3.Two low high) (Some n) e = absurd (cc)
one_cell w (b3.Two low high) None e = (refl, refl)

more_cells : (w : ℕ) (body : Body3) (next : ℕ) (sort : Sort) (inner later : Forest) → Alone (piece w (sort3 body) (inner3 body) (piece next sort inner later)) None
more_cells w (b3.Item number) next sort inner later = (refl, refl)
more_cells w b3.Waste next sort inner later = (refl, refl)
more_cells w (b3.Two low high) next sort inner later = (refl, refl)

pub alone_cells : (ps : List Piece3) (o : Option ℕ) → item_alone3 ps ≡ o → Alone (cells ps) o
alone_cells [] (Some n) e = absurd (cc)
alone_cells [] None e = (refl, refl)
alone_cells (p ∷ []) o e = one_cell p.width p.body o e
alone_cells (p ∷ q ∷ ps) (Some n) e = absurd (cc)
alone_cells (p ∷ q ∷ ps) None e = more_cells p.width p.body q.width (sort3 q.body) (inner3 q.body) (cells ps)

one_band : (h : ℕ) (body : Body2) → (o : Option ℕ) → item_in2 body ≡ o → Alone (piece h (sort2 body) (inner2 body) nothing) o
one_band h (b2.Item number) (Some n) e = let same : number ≡ n = cc in rw same (refl, refl)
one_band h (b2.Item number) None e = absurd (cc)
one_band h b2.Waste (Some n) e = absurd (cc)
one_band h b2.Waste None e = (refl, refl)
one_band h (b2.Cut cells) (Some n) e = absurd (cc)
one_band h (b2.Cut cells) None e = (refl, refl)

more_bands : (h : ℕ) (body : Body2) (next : ℕ) (sort : Sort) (inner later : Forest) → Alone (piece h (sort2 body) (inner2 body) (piece next sort inner later)) None
more_bands h (b2.Item number) next sort inner later = (refl, refl)
more_bands h b2.Waste next sort inner later = (refl, refl)
more_bands h (b2.Cut cells) next sort inner later = (refl, refl)

pub alone_bands : (ps : List Piece2) (o : Option ℕ) → item_alone2 ps ≡ o → Alone (bands ps) o
alone_bands [] (Some n) e = absurd (cc)
alone_bands [] None e = (refl, refl)
alone_bands (p ∷ []) o e = one_band p.height p.body o e
alone_bands (p ∷ q ∷ ps) (Some n) e = absurd (cc)
alone_bands (p ∷ q ∷ ps) None e = more_bands p.height p.body q.height (sort2 q.body) (inner2 q.body) (bands ps)

followed-push : {A : Type 0} (size : A → ℕ) (sort : A → Sort) (inner : A → Forest) (ps : List A) (p : A) → (later : Forest) →
    followed size sort inner (ps ++ p ∷ []) later ≡ followed size sort inner ps (piece (size p) (sort p) (inner p) later)
followed-push size sort inner [] p later = refl
followed-push size sort inner (q ∷ ps) p later = ap (λ l. piece (size q) (sort q) (inner q) l) (followed-push size sort inner ps p later)

followed-nothing : {A : Type 0} (size : A → ℕ) (sort : A → Sort) (inner : A → Forest) (ps : List A) → followed size sort inner ps nothing ≡ neighbours size sort inner ps
followed-nothing size sort inner [] = refl
followed-nothing size sort inner (p ∷ ps) = ap (λ l. piece (size p) (sort p) (inner p) l) (followed-nothing size sort inner ps)

turned : {A : Type 0} (size : A → ℕ) (sort : A → Sort) (inner : A → Forest) (ps : List A) (later : Forest) → followed size sort inner (reverse ps) later ≡ piled size sort inner ps later
turned size sort inner [] later = refl
turned size sort inner (p ∷ ps) later =
    ap (λ xs. followed size sort inner xs later) (reverse_onto ps p [])
    ∙ followed-push size sort inner (reverse ps) p later
    ∙ turned size sort inner ps (piece (size p) (sort p) (inner p) later)

-- a pile turned round has its pieces in their order
pub pile-turned : {A : Type 0} (size : A → ℕ) (sort : A → Sort) (inner : A → Forest) (ps : List A) → neighbours size sort inner (reverse ps) ≡ piled size sort inner ps nothing
pile-turned size sort inner ps = sym (followed-nothing size sort inner (reverse ps)) ∙ turned size sort inner ps nothing

end_strips : {A : Type 0} (size : A → ℕ) (sort : A → Sort) (inner : A → Forest) (ps : List A) (n : ℕ) (t : Sort) (i l : Forest) → end_sort nothing (piled size sort inner ps (piece n t i l)) ≡ Sort.Waste
end_strips size sort inner [] n t i l = refl
end_strips size sort inner (p ∷ ps) n t i l = end_strips size sort inner ps (size p) (sort p) (inner p) (piece n t i l)

end_plates : {A : Type 0} (size : A → ℕ) (sort : A → Sort) (inner : A → Forest) (ps : List A) (n : ℕ) (t : Sort) (i l strips : Forest) → end_sort (piled size sort inner ps (piece n t i l)) strips ≡ Sort.Waste
end_plates size sort inner [] n t i l strips = refl
end_plates size sort inner (p ∷ ps) n t i l strips = end_plates size sort inner ps (size p) (sort p) (inner p) (piece n t i l) strips

-- a waste behind the last strip, where plates or strips follow
pub end_pile : (plates : List Plate) (strips : List Piece1) → ((plates ≡ []) × (strips ≡ []) → ⊥) → end_sort (plates_pile plates) (strips_pile strips) ≡ Sort.Waste
end_pile [] [] h = absurd (h (refl, refl))
end_pile [] (p ∷ ps) h = end_strips (λ p. p.width) (λ p. sort1 p.body) (λ p. inner1 p.body) ps p.width (sort1 p.body) (inner1 p.body) nothing
end_pile (q ∷ qs) strips h = end_plates (λ p. 0) (λ p. Sort.Branch) (λ p. strips_in p.pieces.items) qs 0 Sort.Branch (strips_in q.pieces.items) nothing (strips_pile strips)

-- a piece before a pile, with what fills the gap behind it
pub put : {A : Type 0} (size : A → ℕ) (sort : A → Sort) (inner : A → Forest) (old mid new : List A) (p : A) (n end other from b start : ℕ) (s t : Sort) (within alike : Forest) →
    size p ≡ n → other ≡ end → start ≡ start_in old from b → t ≡ s → alike ≡ within →
    piled size sort inner mid nothing ≡ gap other start t (piled size sort inner old nothing) → new ≡ mid ++ p ∷ [] → sort p ≡ hoisted_sort alike → inner p ≡ hoisted_inner alike →
    piled size sort inner new nothing ≡ hoisted n within (gap end (start_of (piled size sort inner old nothing) from b) s (piled size sort inner old nothing))
put size sort inner old mid new p n end other from b start s t within alike size_is end_is start_is sort_is within_is gap_is new_is sorts inners =
    let pile : Forest = piled size sort inner old nothing in
    let begins : start ≡ start_of pile from b = start_is ∙ sym (pile-start size sort inner old from b) in
    ap (λ xs. piled size sort inner xs nothing) new_is
    ∙ piled-push size sort inner mid p nothing
    ∙ ap (λ f. piece (size p) (sort p) (inner p) f) gap_is
    ∙ (λ j. piece (size_is j) ((sorts ∙ ap hoisted_sort within_is) j) ((inners ∙ ap hoisted_inner within_is) j) (gap (end_is j) (begins j) (sort_is j) pile))
