-- The strips of a plate: their items keep the rules.
use Rattle.std.proofs.Common.{◌≡◌, ℕ, zero, suc, ◌+◌, ◌<◌, ◌≤◌, ◌&&◌, inl, List, [], ◌∷◌, ◌++◌, refl, sym, ◌∙◌, subst, append_assoc, add-zero, zero-add, arith, Bool, true, false, IsTrue, Option, Some, All}
use Rattle.std.specs.Prelude.{IfSome}
use Rattle.glass_base.specs.Plates.{Width}
use Rattle.glass_base.specs.Problem.{Problem}
use Rattle.cut_model.specs.declared.family.Sort.{Sort}
use Rattle.cut_model.specs.declared.steps.Step.{Step}
use Rattle.cut_model.specs.Families.{families}
use Rattle.cut_model.specs.Order.{item_with}
use Rattle.cut_model.specs.Rules.{KeepsCutRules}
use Rattle.cut_model.specs.Tree.{Forest, nothing, piece, is_nothing, count, total_size}
use Rattle.cut_model.specs.Traces.{Sides, next_kind, step_of, steps_in}
use Rattle.cut_model.proofs.Cutting.{items_in}
use Rattle.loss_area.proofs.Areas.{hold_of}
use Rattle.cut_model.proofs.TracesTold.{next_append, next_same}
use Rattle.defect_map.specs.Queries.{HitsNone, CrossesNoneX}
use Rattle.plan_trace.specs.Marks.{Level, level_of, Draw, Cut}
use Rattle.plan_trace.specs.inner.Shape.{AreStrips}
use Rattle.plan_trace.specs.TraceRules.{Gap, is_last_strip}
use Rattle.plan_trace.proofs.Ahead.{levels_of, AreBroad, ahead, gap_more, next_some, next_at_most}
use Rattle.plan_trace.proofs.Placing.{Meeting, Due, Follows, Now, OnPlate, Turns, item_meets}
use Rattle.plan_trace.proofs.Cells.{area_x, border_x, now_behind}
use Rattle.plan_trace.proofs.Bands.{bands_meet, begun_some, strip_sides}

-- each strip is at least as wide as a waste
broad_strips : (b : Problem) (plate cut : ℕ) (parent : Option ℕ) (x y width height : ℕ) (last first : Bool) (node : ℕ) (forest : Forest) → cut ≡ 1 → AreStrips forest →
    All (KeepsCutRules b) (families (area_x plate cut parent x y width height last) first node forest) → AreBroad b.params.waste b 1 forest
broad_strips b plate cut parent x y width height last first node nothing is shape keeps = tt
broad_strips b plate cut parent x y width height last first node (piece size (Sort.Item number) inner later) is shape keeps =
    let h = hold_of (KeepsCutRules b) (area_x plate cut parent x y width height last) first node size (Sort.Item number) inner later keeps in
    (tt, broad_strips b plate cut parent (x + size) y width height last false (node + 1 + count inner) later is shape.1 h.after)
broad_strips b plate cut parent x y width height last first node (piece size Sort.Waste inner later) is shape keeps =
    let h = hold_of (KeepsCutRules b) (area_x plate cut parent x y width height last) first node size Sort.Waste inner later keeps in
    (h.here.l3.0, broad_strips b plate cut parent (x + size) y width height last false (node + 1 + count inner) later is shape.1 h.after)
broad_strips b plate cut parent x y width height last first node (piece size Sort.Branch inner later) is shape keeps =
    let h = hold_of (KeepsCutRules b) (area_x plate cut parent x y width height last) first node size Sort.Branch inner later keeps in
    (inl (omega (arith, (h.here.l4 is).0, b.params.accepted.waste_min1)), broad_strips b plate cut parent (x + size) y width height last false (node + 1 + count inner) later is shape.1 h.after)
broad_strips b plate cut parent x y width height last first node (piece size Sort.Residual inner later) is shape keeps =
    let h = hold_of (KeepsCutRules b) (area_x plate cut parent x y width height last) first node size Sort.Residual inner later keeps in
    (h.here.l3, broad_strips b plate cut parent (x + size) y width height last false (node + 1 + count inner) later is shape.1 h.after)

-- before a step of kind 0 or 1 nothing is known of the other sides
pub follows_sides : (waste kind plate : ℕ) (t : Cut) (a b d e right high : ℕ) → kind ≤ 1 → Follows waste kind plate t a b 0 d e → Follows waste kind plate t a right 0 high a
follows_sides waste zero plate t a b d e right high le f = (f.0, f.1, inl refl, inl refl)
follows_sides waste (suc zero) plate t a b d e right high le f = (f.0, f.1, inl refl, inl refl)
follows_sides waste (suc (suc k)) plate t a b d e right high le f = absurd (omega (arith, le))

-- a further waste to the right
pub follows_right : (waste kind plate : ℕ) (t : Cut) (a b c d e size right high : ℕ) → kind ≤ 1 → Follows waste kind plate t a b c d e → waste ≤ size → Follows waste kind plate t (a + size) right 0 high (a + size)
follows_right waste zero plate t a b c d e size right high le f wide = (f.0, gap_more waste 0 a size f.1 wide, inl refl, inl refl)
follows_right waste (suc zero) plate t a b c d e size right high le f wide = (f.0, gap_more waste t.b a size f.1 wide, inl refl, inl refl)
follows_right waste (suc (suc k)) plate t a b c d e size right high le f wide = absurd (omega (arith, le))

-- the state behind a strip that is cut, with an item or without
beside_bands : (b : Problem) (plate at size low high from : ℕ) (here : List Step) (kind : ℕ) → kind ≤ 1 → b.params.waste ≤ size → (before : List Draw) (t : Cut) (numbers : List ℕ) →
    Now b (next_kind here kind 2) plate at (at + size) low high from before t numbers → (right top : ℕ) → Now b (next_kind here kind 1) plate (at + size) right 0 top (at + size) before t numbers
beside_bands b plate at size low high from [] kind le wide before t numbers now right top = record {
  begun = now.begun;
  follows = follows_right b.params.waste kind plate t at (at + size) low high from size right top le now.follows wide;
  due = now.due;
}
beside_bands b plate at size low high from (s ∷ here) kind le wide before t numbers now right top = record {
  begun = begun_some before 1 1 now.begun;
  follows = (now.follows.0, inl (sym now.follows.2), inl refl, inl refl);
  due = now.due;
}

-- a strip on its plate
on_plate : (b : Problem) (plate cut : ℕ) (parent : Option ℕ) (at size width : ℕ) (last first : Bool) (node : ℕ) (later : Forest) → b.params.min1 ≤ size → size ≤ b.params.max1 →
    (first ≡ false → 0 < b.params.height → CrossesNoneX b.defects plate at 0 (0 + b.params.height)) → All (KeepsCutRules b) (families (area_x plate cut parent (at + size) 0 width b.params.height last) false node later) →
    (at + size) + total_size later ≡ Width b plate → (0 < at → first ≡ false) → OnPlate b plate at (at + size)
on_plate b plate cut parent at size width last first node later least most border keeps total side = record {
  wide = omega (arith, least);
  narrow = omega (arith, most);
  within = omega (arith, total);
  at_a = λ lt. subst (λ n. CrossesNoneX b.defects plate at 0 n) (zero-add b.params.height) (border (side lt) b.params.accepted.high);
  at_b = λ lt. subst (λ n. CrossesNoneX b.defects plate (at + size) 0 n) (zero-add b.params.height)
      (border_x b plate cut parent (at + size) 0 width b.params.height last node later (Width b plate) keeps total b.params.accepted.high lt);
}

-- an item that is cut from a plate as a whole strip
strip_meets : (b : Problem) (plate at size number : ℕ) → plate < b.params.plates → OnPlate b plate at (at + size) →
    IfSome (item_with b.items number) (Turns size b.params.height) → (0 < size → 0 < b.params.height → HitsNone b.defects plate at 0 (at + size) (0 + b.params.height)) →
    (kind : ℕ) (before : List Draw) (m : Level) (t : Cut) (numbers : List ℕ) (follow : List Step) → Now b kind plate at (at + size) 0 b.params.height at before t (number ∷ numbers) →
    (IsTrue (is_last_strip true (levels_of follow)) → Gap b.params.waste (at + size) (Width b plate)) →
    ((next : List Draw) (m' : Level) (s : Cut) (right top : ℕ) → Now b 1 plate (at + size) right 0 top (at + size) next s numbers → Meeting b next m' s follow) →
    Meeting b before m t (step_of b (strip_sides b at size) kind 0 number ∷ follow)
strip_meets b plate at size number few strip sides sound kind before m t numbers follow now last rest =
    let r : Sides = strip_sides b at size in
    item_meets b r kind 0 number plate b.params.height before m t numbers follow now sides (record {
      few = few;
      strip = strip;
      band = record { least = omega (arith, b.params.accepted.min2_height); within = omega arith; at_c = λ lt. absurd (omega (arith, lt)); at_d = λ lt. absurd (omega (arith, lt)) };
      lifted = omega arith;
      at_e = λ lt. absurd (omega (arith, lt));
      at_end = λ lt. absurd (omega (arith, lt));
      line = λ _ above. absurd (omega (arith, above));
      sound = sound;
      last_strip = last;
      last_band = λ _. inl refl;
      last_cell = λ _. inl refl;
      alone = λ _. inl (zero-add b.params.height);
    }) (λ next s x. rest next (level_of kind) s 0 0 (beside_item next s (now_behind b r 0 plate b.params.height next s numbers x)))
  where
    beside_item : (next : List Draw) (s : Cut) → Now b 3 plate at (at + size) 0 b.params.height (at + size) next s numbers → Now b 1 plate (at + size) 0 0 0 (at + size) next s numbers
    beside_item next s x = record { begun = begun_some next 2 1 x.begun; follows = (x.follows.0, inl (sym x.follows.2), inl refl, inl refl); due = x.due }

abbrev pub plate_sides : Problem → ℕ → Sides
plate_sides b plate = record { width = Width b plate; a = 0; b = Width b plate; c = 0; d = b.params.height; e = 0 }

-- what the steps of later strips tell of a strip before them
closing_beside : (b : Problem) (plate at size : ℕ) (r : Sides) (kind : ℕ) (later : Forest) (follow : List Step) → kind ≡ 1 → AreBroad b.params.waste b 1 later → (at + size) + total_size later ≡ Width b plate →
    IsTrue (is_last_strip true (levels_of (steps_in b 1 r (at + size) kind 0 later ++ follow))) → Gap b.params.waste (at + size) (Width b plate)
closing_beside b plate at size r kind later follow is broad total last =
    subst (λ n. Gap b.params.waste (at + size) n) total
    (ahead b.params.waste (λ ls. is_last_strip true ls) b 1 (λ ls. refl) r (at + size) (at + size) 0 later follow broad (inl refl)
    (subst (λ n. IsTrue (is_last_strip true (levels_of (steps_in b 1 r (at + size) n 0 later ++ follow)))) is last))

-- the strips of a plate are cut as the rules ask
pub strips_meet : (b : Problem) (plate : ℕ) → plate < b.params.plates →
    (cut : ℕ) (parent : Option ℕ) (at width : ℕ) (last first : Bool) (node : ℕ) (strips : Forest) → cut ≡ 1 → AreStrips strips →
    All (KeepsCutRules b) (families (area_x plate cut parent at 0 width b.params.height last) first node strips) → at + total_size strips ≡ Width b plate → (0 < at → first ≡ false) →
    (kind : ℕ) (before : List Draw) (m : Level) (t : Cut) (numbers : List ℕ) (follow : List Step) (right top : ℕ) → kind ≤ 1 →
    Now b kind plate at right 0 top at before t (items_in strips ++ numbers) →
    let steps : List Step = steps_in b 1 (plate_sides b plate) at kind 0 strips in
    ((next : List Draw) (m' : Level) (s : Cut) (right top : ℕ) → Now b (next_kind steps kind 1) plate (Width b plate) right 0 top (Width b plate) next s numbers → Meeting b next m' s follow) →
    Meeting b before m t (steps ++ follow)
strips_meet b plate few cut parent at width last first node nothing is shape keeps total side kind before m t numbers follow right top le now rest =
    rest before m t right top (subst (λ n. Now b kind plate n right 0 top n before t numbers) (sym (add-zero at) ∙ total) now)
strips_meet b plate few cut parent at width last first node (piece size (Sort.Item number) inner later) is shape keeps total side kind before m t numbers follow right top le now rest =
    let h = hold_of (KeepsCutRules b) (area_x plate cut parent at 0 width b.params.height last) first node size (Sort.Item number) inner later keeps in
    let r : Sides = plate_sides b plate in
    let end : (at + size) + total_size later ≡ Width b plate = omega (arith, total) in
    let after : List Step = steps_in b 1 r (at + size) 1 0 later in
    strip_meets b plate at size number few
    (on_plate b plate cut parent at size width last first (node + 1 + count inner) later (h.here.l4 is).0 (h.here.l4 is).1 h.here.l8 h.after end side) h.here.l2 h.here.l7
    kind before m t (items_in later ++ numbers) (after ++ follow)
    (record {
      begun = now.begun;
      follows = follows_sides b.params.waste kind plate t at right top at (at + size) b.params.height le now.follows;
      due = subst (λ (inner' : Forest). Due b before (number ∷ ((items_in inner' ++ items_in later) ++ numbers))) shape.0 now.due;
    })
    (closing_beside b plate at size r 1 later follow refl (broad_strips b plate cut parent (at + size) 0 width b.params.height last false (node + 1 + count inner) later is shape.1 h.after) end)
    (λ next m' s right' top' behind. strips_meet b plate few cut parent (at + size) width last false (node + 1 + count inner) later is shape.1 h.after end (λ _. refl)
    1 next m' s numbers follow right' top' (omega arith) behind
    (λ next' m'' s' right'' top'' done. rest next' m'' s' right'' top''
    (subst (λ n. Now b n plate (Width b plate) right'' 0 top'' (Width b plate) next' s' numbers) (next_same after 1) done)))
strips_meet b plate few cut parent at width last first node (piece size Sort.Waste inner later) is shape keeps total side kind before m t numbers follow right top le now rest =
    let h = hold_of (KeepsCutRules b) (area_x plate cut parent at 0 width b.params.height last) first node size Sort.Waste inner later keeps in
    strips_meet b plate few cut parent (at + size) width last false (node + 1 + count inner) later is shape.1 h.after (omega (arith, total)) (λ _. refl)
    kind before m t numbers follow right top le (record {
      begun = now.begun;
      follows = follows_right b.params.waste kind plate t at right 0 top at size right top le now.follows h.here.l3.0;
      due = subst (λ (inner' : Forest). Due b before ((items_in inner' ++ items_in later) ++ numbers)) shape.0 now.due;
    }) rest
strips_meet b plate few cut parent at width last first node (piece size Sort.Residual inner later) is shape keeps total side kind before m t numbers follow right top le now rest =
    let h = hold_of (KeepsCutRules b) (area_x plate cut parent at 0 width b.params.height last) first node size Sort.Residual inner later keeps in
    strips_meet b plate few cut parent (at + size) width last false (node + 1 + count inner) later is shape.1 h.after (omega (arith, total)) (λ _. refl)
    kind before m t numbers follow right top le (record {
      begun = now.begun;
      follows = follows_right b.params.waste kind plate t at right 0 top at size right top le now.follows h.here.l3;
      due = subst (λ (inner' : Forest). Due b before ((items_in inner' ++ items_in later) ++ numbers)) shape.0 now.due;
    }) rest
strips_meet b plate few cut parent at width last first node (piece size Sort.Branch inner later) is shape keeps total side kind before m t numbers follow right top le now rest =
    let h = hold_of (KeepsCutRules b) (area_x plate cut parent at 0 width b.params.height last) first node size Sort.Branch inner later keeps in
    let r : Sides = plate_sides b plate in
    let end : (at + size) + total_size later ≡ Width b plate = omega (arith, total) in
    let here : List Step = steps_in b 2 (strip_sides b at size) 0 kind 0 inner in
    let then : ℕ = next_kind here kind 1 in
    let after : List Step = steps_in b 1 r (at + size) then 0 later in
    let wide : b.params.waste ≤ size = omega (arith, (h.here.l4 is).0, b.params.accepted.waste_min1) in
    subst (λ (steps : List Step). Meeting b before m t steps) (sym (append_assoc here after follow))
    (bands_meet b plate at size few
    (on_plate b plate cut parent at size width last first (node + 1 + count inner) later (h.here.l4 is).0 (h.here.l4 is).1 h.here.l8 h.after end side)
    (cut + 1) (Some node) 0 b.params.height (last && is_nothing later) true (node + 1) inner (omega (arith, is)) shape.0 h.below (omega (arith, h.here.l1.1)) (λ lt. absurd (omega (arith, lt)))
    kind before m t (items_in later ++ numbers) (after ++ follow) 0 (omega (arith, le))
    (record {
      begun = now.begun;
      follows = follows_sides b.params.waste kind plate t at right top at (at + size) 0 le now.follows;
      due = subst (Due b before) (append_assoc (items_in inner) (items_in later) numbers) now.due;
    })
    (λ some. closing_beside b plate at size r then later follow (next_some here kind 1 some)
    (broad_strips b plate cut parent (at + size) 0 width b.params.height last false (node + 1 + count inner) later is shape.1 h.after) end)
    (λ next m' s any behind. strips_meet b plate few cut parent (at + size) width last false (node + 1 + count inner) later is shape.1 h.after end (λ _. refl)
    then next m' s numbers follow right top (next_at_most here kind 1 1 le (omega arith))
    (beside_bands b plate at size b.params.height any at here kind le wide next s (items_in later ++ numbers) behind right top)
    (λ next' m'' s' right' top' done. rest next' m'' s' right' top'
    (subst (λ n. Now b n plate (Width b plate) right' 0 top' (Width b plate) next' s' numbers) (sym (next_append here after kind 1)) done))))
