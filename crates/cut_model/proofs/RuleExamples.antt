-- The rules on worked plans: one that keeps them all, and for each rule one that breaks it.
use Rattle.std.proofs.Common.{◌≡◌, ℕ, zero, suc, [], ◌∷◌, refl, false, true, arith, All, Contains, inl, inr}
use Rattle.std.proofs.lemmas.List.Elements.{All-nil}
use Rattle.glass_base.specs.declared.item.Defect.{Defect}
use Rattle.glass_base.specs.declared.item.Item.{Item}
use Rattle.glass_base.specs.Defects.{hits, crosses_x}
use Rattle.glass_base.specs.Plates.{Width}
use Rattle.glass_base.specs.Problem.{Problem}
use Rattle.cut_model.specs.declared.plan.Plan.{Plan}
use Rattle.cut_model.specs.declared.plan.Piece1.{Piece1}
use Rattle.cut_model.specs.declared.plan.Body1.TheVariants as b1
use Rattle.cut_model.specs.declared.plan.Body2.TheVariants as b2
use Rattle.cut_model.specs.declared.family.Family.{Family}
use Rattle.cut_model.specs.Families.{families, families_of, rows_of}
use Rattle.cut_model.specs.Lawful.{CutsEachOnce}
use Rattle.cut_model.specs.Order.{items_cut, KeepsStacks}
use Rattle.cut_model.specs.Rules.{KeepsCutRules}
use Rattle.cut_model.specs.Tree.{tree}
use Rattle.cut_model.proofs.Examples.{stock, item, batch, plate, plan, bands_of, crossed_plan, turned_plan}

abbrev one_item : Problem
one_item = batch (item 0 500 300 ∷ []) (0 ∷ [])

abbrev flawed : Defect → Problem
flawed defect = record one_item { defects = defect ∷ [] }

-- the rules on cuts hold at each piece
abbrev Keeps : Problem → Plan → Type 0
Keeps b p = All (KeepsCutRules b) (families_of b (tree p))

abbrev strip : ℕ → Piece1
strip width = record { width = width; body = bands_of (record { height = 500; body = b2.Item 0 } ∷ record { height = 2710; body = b2.Waste } ∷ []) }

abbrev waste : ℕ → Piece1
waste width = record { width = width; body = b1.Waste }

abbrev residual : ℕ → Piece1
residual width = record { width = width; body = b1.Residual }

turned_keeps : Keeps one_item turned_plan
unfolding families Width
turned_keeps zero d lt = record { l1 = (refl, refl); l2 = tt; l3 = tt; l4 = λ e. absurd (omega (arith, e)); l5 = λ e. absurd (omega (arith, e)); l6 = λ e. absurd (omega (arith, e)); l7 = tt; l8 = λ _. tt }
turned_keeps (suc zero) d lt = record { l1 = (refl, refl); l2 = tt; l3 = tt; l4 = λ _. (omega arith, omega arith); l5 = λ e. absurd (omega (arith, e)); l6 = λ e. absurd (omega (arith, e)); l7 = tt; l8 = λ _ _. All-nil _ }
turned_keeps (suc (suc zero)) d lt = record { l1 = tt; l2 = inr (refl, refl); l3 = tt; l4 = λ e. absurd (omega (arith, e)); l5 = λ _. omega arith; l6 = tt; l7 = λ _ _. All-nil _; l8 = λ _ _. All-nil _ }
turned_keeps (suc (suc (suc zero))) d lt = record { l1 = tt; l2 = tt; l3 = (omega arith, omega arith); l4 = tt; l5 = tt; l6 = tt; l7 = tt; l8 = λ _ _. All-nil _ }
turned_keeps (suc (suc (suc (suc zero)))) d lt = record { l1 = tt; l2 = tt; l3 = omega arith; l4 = tt; l5 = tt; l6 = (refl, refl); l7 = tt; l8 = λ _ _. All-nil _ }
turned_keeps (suc (suc (suc (suc (suc k))))) d lt = absurd (omega (arith, lt))

-- L1: a plate that is not filled
unfilled : (d : Family) → Keeps one_item (plan (plate (strip 300 ∷ []) ∷ [])) → ⊥
unfolding families Width
unfilled d h = omega (arith, (h 0 d (omega arith)).l1.1)

-- L2: the item unturned in a piece for the turned one
misfit : (d : Family) → Keeps one_item (plan (plate (strip 500 ∷ residual 5500 ∷ []) ∷ [])) → ⊥
unfolding families Width
misfit d h = elim (h 2 d (omega arith)).l2 [ inl unturned ↦ omega (arith, unturned.1) | inr is ↦ omega (arith, is.0) ]

-- L3: a waste of 19
narrow_waste : (d : Family) → Keeps one_item (plan (plate (strip 300 ∷ waste 19 ∷ residual 5681 ∷ []) ∷ [])) → ⊥
unfolding families Width
narrow_waste d h = omega (arith, (h 4 d (omega arith)).l3.0)

-- L4: a strip of 99
narrow_strip : (d : Family) → Keeps one_item (plan (plate (strip 99 ∷ residual 5901 ∷ []) ∷ [])) → ⊥
unfolding families Width
narrow_strip d h = omega (arith, ((h 1 d (omega arith)).l4 refl).0)

-- L5: a band of 99
low_band : (d : Family) → Keeps one_item (plan (plate (record { width = 500; body = bands_of (record { height = 99; body = b2.Item 0 } ∷ record { height = 3111; body = b2.Waste } ∷ []) } ∷ residual 5500 ∷ []) ∷ [])) → ⊥
unfolding families Width
low_band d h = omega (arith, (h 2 d (omega arith)).l5 refl)

-- L6: a residual before a strip
residual_first : (d : Family) → Keeps one_item (plan (plate (residual 5700 ∷ strip 300 ∷ []) ∷ [])) → ⊥
unfolding families Width
residual_first d h = let e : false ≡ true = (h 1 d (omega arith)).l6.1 in cc

-- L7: a defect inside the item
hit : (d : Family) (e : Defect) → Keeps (flawed (record { plate = 0; x0 = 10; y0 = 10; x1 = 11; y1 = 11 })) turned_plan → ⊥
unfolding families Width
hit d e h = (h 2 d (omega arith)).l7 (omega arith) (omega arith) 0 e (omega arith) refl

-- L8: a defect across the border of the strip and the residual
crossed : (d : Family) (e : Defect) → Keeps (flawed (record { plate = 0; x0 = 299; y0 = 1000; x1 = 301; y1 = 1001 })) turned_plan → ⊥
unfolding families Width
crossed d e h = (h 4 d (omega arith)).l8 refl (omega arith) 0 e (omega arith) refl

-- a defect that touches the item and the border hits and crosses nothing
abbrev touching : Defect
touching = record { plate = 0; x0 = 300; y0 = 0; x1 = 310; y1 = 10 }

touches : (hits 0 0 0 300 500 touching ≡ false) × (crosses_x 0 300 0 3210 touching ≡ false)
touches = (refl, refl)

-- L10: the second item of a stack before the first
crossed_stack : (d : Item) → KeepsStacks (items_cut (item 0 500 3210 ∷ item 1 600 3210 ∷ []) (rows_of stock (tree crossed_plan))) → ⊥
unfolding families Width
crossed_stack d h = omega (arith, h 0 1 d (omega arith) (omega arith) refl)

-- L9: an item that is cut twice, and one that is not cut
twice : (d : ℕ) → CutsEachOnce (item 0 300 500 ∷ []) (0 ∷ 0 ∷ []) → ⊥
twice d h = h.once 0 1 d (omega arith) (omega arith) refl

missing : (d : ℕ) → CutsEachOnce (item 0 300 500 ∷ item 1 300 500 ∷ []) (0 ∷ []) → ⊥
missing d h = by (h.all 1 d (omega arith))
  where
    by : Contains {X = ℕ} (0 ∷ []) 1 → ⊥
    by (zero, lt, e) = omega (arith, e)
    by (suc k, lt, e) = omega (arith, lt)
