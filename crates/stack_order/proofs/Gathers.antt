-- What a plan cuts, as one more family is told.
use Rattle.std.proofs.Common.{◌≡◌, ℕ, ◌==◌, List, [], ◌∷◌, ◌++◌, map, cond, refl, sym, ap, ◌∙◌, append_assoc, append-nil, ◌≢◌, Some, None, Option, eq-eqb, ne_eqb}
use Rattle.glass_base.specs.Run.{Listed}
use Rattle.std.specs.List.{cons_option}
use Rattle.std.proofs.lemmas.List.{map-append}
use Rattle.std.proofs.lemmas.List.Elements.{filter_map-append, filter-append}
use Rattle.glass_base.specs.declared.item.Item.{Item}
use Rattle.cut_model.specs.declared.family.Row.{Row}
use Rattle.cut_model.specs.declared.family.Family.{Family}
use Rattle.std.specs.Prelude.{pos}
use Rattle.cut_model.specs.declared.family.Sort.{Sort}
use Rattle.cut_model.specs.Lawful.{plate_rows}
use Rattle.cut_model.specs.Order.{item_with}
use Rattle.cut_model.specs.Tree.{type_number}
use Rattle.stack_order.specs.declared.cuts.ItemsTold.{ItemsTold}
use Rattle.stack_order.specs.declared.cuts.ItemCut.{ItemCut}
use Rattle.stack_order.specs.Cuts.{cut_of, cuts_of}

-- the cuts of one more family
pub cuts_more : (items : List Item) (start old new : List ItemCut) (seen : List Family) (f : Family) → old ≡ start ++ cuts_of items (map (λ g. g.row) seen) → new ≡ old ++ cons_option (cut_of items f.row) [] → new ≡ start ++ cuts_of items (map (λ g. g.row) (seen ++ f ∷ []))
cuts_more items start old new seen f before more =
    more ∙ ap (λ (l : List ItemCut). l ++ cons_option (cut_of items f.row) []) before
    ∙ append_assoc start (cuts_of items (map (λ (g : Family). g.row) seen)) (cons_option (cut_of items f.row) [])
    ∙ ap (λ (l : List ItemCut). start ++ l) (sym (ap (cuts_of items) (map-append (λ (g : Family). g.row) seen (f ∷ [])) ∙ filter_map-append (cut_of items) (map (λ (g : Family). g.row) seen) (f.row ∷ [])))

-- the plates of one more family
pub plates_more : (start old new : List Row) (seen : List Family) (f : Family) → old ≡ start ++ plate_rows (map (λ g. g.row) seen) → new ≡ old ++ cond (f.row.cut == 0) (f.row ∷ []) [] → new ≡ start ++ plate_rows (map (λ g. g.row) (seen ++ f ∷ []))
plates_more start old new seen f before more =
    more ∙ ap (λ (l : List Row). l ++ cond (f.row.cut == 0) (f.row ∷ []) []) before
    ∙ append_assoc start (plate_rows (map (λ (g : Family). g.row) seen)) (cond (f.row.cut == 0) (f.row ∷ []) [])
    ∙ ap (λ (l : List Row). start ++ l) (sym (ap plate_rows (map-append (λ (g : Family). g.row) seen (f ∷ [])) ∙ filter-append (λ (row : Row). row.cut == 0) (map (λ (g : Family). g.row) seen) (f.row ∷ [])))

-- the family of an item cuts it
pub cut_is : (items : List Item) (row : Row) (sort : Sort) (number : ℕ) (item : Option Item) → row.kind ≡ type_number sort → sort ≡ Sort.Item number → item ≡ item_with items number → cut_of items row ≡ Some (record { plate = row.plate; node = row.node; number = number; item = item })
cut_is items row sort number item named is found =
    let kind : row.kind ≡ pos number = named ∙ ap type_number is in
    rw (kind, found) refl

-- no other family cuts an item
pub no_cut : (items : List Item) (row : Row) (sort : Sort) → row.kind ≡ type_number sort → ((number : ℕ) → sort ≡ Sort.Item number → ⊥) → cut_of items row ≡ None
no_cut items row (Sort.Item number) named not = absurd (not number refl)
no_cut items row Sort.Waste named not = rw named refl
no_cut items row Sort.Branch named not = rw named refl
no_cut items row Sort.Residual named not = rw named refl

-- what is gathered once the item of a family is noted, where it is one
pub record HasNoted (old now : ItemsTold) (f : Family) : Type 0 where
  pub items : now.items.now ≡ old.items.now
  pub cuts : now.cuts.items ≡ old.cuts.items ++ cons_option (cut_of old.items.now f.row) []
  pub plates : now.plates.items ≡ old.plates.items

-- the item of a family is noted
pub noted_cut : (old now : ItemsTold) (run : Listed ItemCut) (f : Family) (number : ℕ) (item : Option Item) → f.row.kind ≡ type_number f.sort → f.sort ≡ Sort.Item number → item ≡ item_with old.items.now number → run.items ≡ old.cuts.items ++ (record { plate = f.row.plate; node = f.row.node; number = number; item = item }) ∷ [] → now ≡ record { items = old.items; cuts = run; plates = old.plates } → HasNoted old now f
noted_cut old now run f number item named is found pushed now_is = record {
  items = ap (λ (g : ItemsTold). g.items.now) now_is;
  cuts = ap (λ (g : ItemsTold). g.cuts.items) now_is ∙ pushed ∙ ap (λ (o : Option ItemCut). old.cuts.items ++ cons_option o []) (sym (cut_is old.items.now f.row f.sort number item named is found));
  plates = ap (λ (g : ItemsTold). g.plates.items) now_is;
}

-- a family that is no item leaves all as it was
pub noted_none : (old now : ItemsTold) (f : Family) → f.row.kind ≡ type_number f.sort → ((number : ℕ) → f.sort ≡ Sort.Item number → ⊥) → now ≡ old → HasNoted old now f
noted_none old now f named not now_is = record {
  items = ap (λ (g : ItemsTold). g.items.now) now_is;
  cuts = ap (λ (g : ItemsTold). g.cuts.items) now_is ∙ sym (append-nil old.cuts.items) ∙ ap (λ (o : Option ItemCut). old.cuts.items ++ cons_option o []) (sym (no_cut old.items.now f.row f.sort named not));
  plates = ap (λ (g : ItemsTold). g.plates.items) now_is;
}

-- what is gathered of these families, from a start on: its items stay, and its cuts and plates grow
abbrev HasGathered : ItemsTold → List Item → List ItemCut → List Row → List Family → Type 0
HasGathered start items cuts plates seen =
    (items ≡ start.items.now)
    × (cuts ≡ start.cuts.items ++ cuts_of start.items.now (map (λ f. f.row) seen))
    × (plates ≡ start.plates.items ++ plate_rows (map (λ f. f.row) seen))

-- one more family, its item noted first
pub gathered_more : (start old mid : ItemsTold) (plates : List Row) (seen : List Family) (f : Family) → HasNoted old mid f → plates ≡ mid.plates.items ++ cond (f.row.cut == 0) (f.row ∷ []) [] → HasGathered start old.items.now old.cuts.items old.plates.items seen → HasGathered start mid.items.now mid.cuts.items plates (seen ++ f ∷ [])
gathered_more start old mid plates seen f noted pushed before = (
  noted.items ∙ before.0,
  cuts_more start.items.now start.cuts.items old.cuts.items mid.cuts.items seen f before.1
      (noted.cuts ∙ ap (λ (items : List Item). old.cuts.items ++ cons_option (cut_of items f.row) []) before.0),
  plates_more start.plates.items old.plates.items plates seen f before.2
      (pushed ∙ ap (λ (l : List Row). l ++ cond (f.row.cut == 0) (f.row ∷ []) []) noted.plates),
)

-- the row of a plate is pushed
pub plate_pushed : (row : Row) (old new : List Row) → row.cut ≡ 0 → new ≡ old ++ row ∷ [] → new ≡ old ++ cond (row.cut == 0) (row ∷ []) []
plate_pushed row old new is pushed = rw (eq-eqb row.cut 0 is) pushed

-- no other row is pushed
pub no_plate : (row : Row) (old : List Row) → row.cut ≢ 0 → old ≡ old ++ cond (row.cut == 0) (row ∷ []) []
no_plate row old not = rw (ne_eqb row.cut 0 not) (sym (append-nil old))
