-- The bands of a strip: their items keep the rules.
use Rattle.std.proofs.Common.{◌≡◌, ℕ, zero, suc, ◌+◌, ◌<◌, ◌≤◌, ◌&&◌, inl, List, [], ◌∷◌, ◌++◌, refl, sym, ◌∙◌, subst, append_assoc, add-zero, arith, Bool, true, false, IsTrue, Option, Some, All}
use Rattle.glass_base.specs.Plates.{Width}
use Rattle.glass_base.specs.Problem.{Problem}
use Rattle.cut_model.specs.declared.family.Sort.{Sort}
use Rattle.cut_model.specs.declared.steps.Step.{Step}
use Rattle.cut_model.specs.Families.{families}
use Rattle.cut_model.specs.Rules.{KeepsCutRules}
use Rattle.cut_model.specs.Tree.{Forest, nothing, piece, is_nothing, count, total_size}
use Rattle.cut_model.specs.Traces.{Sides, next_kind, steps_in}
use Rattle.cut_model.proofs.Cutting.{items_in}
use Rattle.loss_area.proofs.Areas.{hold_of}
use Rattle.cut_model.proofs.TracesTold.{next_append, next_same}
use Rattle.defect_map.specs.Queries.{CrossesNoneY}
use Rattle.plan_trace.specs.Marks.{Level, level_of, begins, Draw, Cut}
use Rattle.plan_trace.specs.inner.Shape.{AreBands}
use Rattle.plan_trace.specs.TraceRules.{Gap, is_last_strip, is_last_band}
use Rattle.plan_trace.proofs.Ahead.{levels_of, AreBroad, passes, ahead, gap_more, next_some, next_at_most, left_none, right_none}
use Rattle.plan_trace.proofs.Placing.{Meeting, Due, Follows, Now, OnPlate, InStrip}
use Rattle.plan_trace.proofs.Cells.{Closing, area_y, band_sides, border_y, cell_meets, cells_meet, strip_passes}

-- the first step of a trace begins a plate, so another kind shows that a step stands before it
pub begun_some : (before : List Draw) (kind n : ℕ) → begins before (suc kind) ≡ level_of (suc kind) → begins before n ≡ level_of n
begun_some (x ∷ before) kind n is = refl
begun_some [] zero n is = cc
begun_some [] (suc zero) n is = cc
begun_some [] (suc (suc zero)) n is = cc
begun_some [] (suc (suc (suc k))) n is = cc

-- each band is at least as high as a waste
broad_bands : (b : Problem) (plate cut : ℕ) (parent : Option ℕ) (x y width height : ℕ) (last first : Bool) (node : ℕ) (forest : Forest) → cut ≡ 2 → AreBands forest →
    All (KeepsCutRules b) (families (area_y plate cut parent x y width height last) first node forest) → AreBroad b.params.waste b 2 forest
broad_bands b plate cut parent x y width height last first node nothing is shape keeps = tt
broad_bands b plate cut parent x y width height last first node (piece size (Sort.Item number) inner later) is shape keeps =
    let h = hold_of (KeepsCutRules b) (area_y plate cut parent x y width height last) first node size (Sort.Item number) inner later keeps in
    (tt, broad_bands b plate cut parent x (y + size) width height last false (node + 1 + count inner) later is shape.1 h.after)
broad_bands b plate cut parent x y width height last first node (piece size Sort.Waste inner later) is shape keeps =
    let h = hold_of (KeepsCutRules b) (area_y plate cut parent x y width height last) first node size Sort.Waste inner later keeps in
    (h.here.l3.1, broad_bands b plate cut parent x (y + size) width height last false (node + 1 + count inner) later is shape.1 h.after)
broad_bands b plate cut parent x y width height last first node (piece size Sort.Branch inner later) is shape keeps =
    let h = hold_of (KeepsCutRules b) (area_y plate cut parent x y width height last) first node size Sort.Branch inner later keeps in
    (inl (omega (arith, h.here.l5 is, b.params.accepted.waste_min2)), broad_bands b plate cut parent x (y + size) width height last false (node + 1 + count inner) later is shape.1 h.after)
broad_bands b plate cut parent x y width height last first node (piece size Sort.Residual inner later) is shape keeps = absurd shape.0

-- before a step of kind 2 or less nothing is known of the upper side of its band
pub follows_high : (waste kind plate : ℕ) (t : Cut) (a b c d e high : ℕ) → kind ≤ 2 → Follows waste kind plate t a b c d e → Follows waste kind plate t a b c high e
follows_high waste zero plate t a b c d e high le f = f
follows_high waste (suc zero) plate t a b c d e high le f = f
follows_high waste (suc (suc zero)) plate t a b c d e high le f = f
follows_high waste (suc (suc (suc k))) plate t a b c d e high le f = absurd (omega (arith, le))

-- a further waste above
pub follows_up : (waste kind plate : ℕ) (t : Cut) (a b c d e size : ℕ) → kind ≤ 2 → Follows waste kind plate t a b c d e → waste ≤ size → Follows waste kind plate t a b (c + size) d a
follows_up waste zero plate t a b c d e size le f wide = (f.0, f.1, gap_more waste 0 c size f.2 wide, inl refl)
follows_up waste (suc zero) plate t a b c d e size le f wide = (f.0, f.1, gap_more waste 0 c size f.2 wide, inl refl)
follows_up waste (suc (suc zero)) plate t a b c d e size le f wide = (f.0, f.1, f.2, gap_more waste t.d c size f.3 wide, inl refl)
follows_up waste (suc (suc (suc k))) plate t a b c d e size le f wide = absurd (omega (arith, le))

-- behind the last cell with an item the next item begins a band
pub now_above : (b : Problem) (plate left right low high from : ℕ) (before : List Draw) (t : Cut) (numbers : List ℕ) → Now b 3 plate left right low high from before t numbers →
    (any : ℕ) → Now b 2 plate left right high any left before t numbers
now_above b plate left right low high from before t numbers now any = record {
  begun = begun_some before 2 2 now.begun;
  follows = (now.follows.0, now.follows.1, now.follows.2, inl (sym now.follows.4), inl refl);
  due = now.due;
}

-- the state above a band that is cut, with an item or without
above_cells : (b : Problem) (plate left right low size from : ℕ) (here : List Step) (kind : ℕ) → kind ≤ 2 → b.params.waste ≤ size → (before : List Draw) (t : Cut) (numbers : List ℕ) →
    Now b (next_kind here kind 3) plate left right low (low + size) from before t numbers → (any : ℕ) → Now b (next_kind here kind 2) plate left right (low + size) any left before t numbers
above_cells b plate left right low size from [] kind le wide before t numbers now any = record {
  begun = now.begun;
  follows = follows_high b.params.waste kind plate t left right (low + size) (low + size) left any le (follows_up b.params.waste kind plate t left right low (low + size) from size le now.follows wide);
  due = now.due;
}
above_cells b plate left right low size from (s ∷ here) kind le wide before t numbers now any = now_above b plate left right low (low + size) from before t numbers now any

abbrev pub strip_sides : Problem → ℕ → ℕ → Sides
strip_sides b left wide = record { width = wide; a = left; b = left + wide; c = 0; d = b.params.height; e = left }

-- the border before a band
abbrev CutsAt : Problem → ℕ → ℕ → ℕ → ℕ → Type 0
CutsAt b plate at left wide = 0 < wide → CrossesNoneY b.defects plate at left (left + wide)

wide_strip : (b : Problem) (plate left wide : ℕ) → OnPlate b plate left (left + wide) → 0 < wide
wide_strip b plate left wide strip = omega (arith, strip.wide, b.params.accepted.waste_positive, b.params.accepted.waste_min1)

-- a band in its strip
in_strip : (b : Problem) (plate cut : ℕ) (parent : Option ℕ) (left wide at size height : ℕ) (last first : Bool) (node : ℕ) (later : Forest) → OnPlate b plate left (left + wide) → b.params.min2 ≤ size →
    (first ≡ false → CutsAt b plate at left wide) → All (KeepsCutRules b) (families (area_y plate cut parent left (at + size) wide height last) false node later) →
    (at + size) + total_size later ≡ b.params.height → (0 < at → first ≡ false) → InStrip b plate left (left + wide) at (at + size)
in_strip b plate cut parent left wide at size height last first node later strip least border keeps total side = record {
  least = omega (arith, least);
  within = omega (arith, total);
  at_c = λ lt. border (side lt) (wide_strip b plate left wide strip);
  at_d = border_y b plate cut parent left (at + size) wide height last node later b.params.height keeps total (wide_strip b plate left wide strip);
}

-- what the steps of later bands tell of the strip and of a band below them
closing_above : (b : Problem) (plate left wide at size : ℕ) (r : Sides) (kind : ℕ) (later : Forest) (follow : List Step) → kind ≡ 2 → AreBroad b.params.waste b 2 later → (at + size) + total_size later ≡ b.params.height →
    (IsTrue (is_last_strip true (levels_of follow)) → Gap b.params.waste (left + wide) (Width b plate)) →
    Closing b plate left wide at size (levels_of (steps_in b 2 r (at + size) kind 0 later ++ follow))
closing_above b plate left wide at size r kind later follow is broad total strip = record {
  strip = λ last. strip (rw (passes (λ ls. is_last_strip true ls) 2 strip_passes b 2 r (at + size) kind 0 later follow (omega arith) (omega (arith, is))) at last);
  band = λ last. subst (λ n. Gap b.params.waste (at + size) n) total
      (ahead b.params.waste (λ ls. is_last_band true ls) b 2 (λ ls. refl) r (at + size) (at + size) 0 later follow broad (inl refl)
      (subst (λ n. IsTrue (is_last_band true (levels_of (steps_in b 2 r (at + size) n 0 later ++ follow)))) is last));
}

-- the bands of a strip are cut as the rules ask
pub bands_meet : (b : Problem) (plate left wide : ℕ) → plate < b.params.plates → OnPlate b plate left (left + wide) →
    (cut : ℕ) (parent : Option ℕ) (at height : ℕ) (last first : Bool) (node : ℕ) (bands : Forest) → cut ≡ 2 → AreBands bands →
    All (KeepsCutRules b) (families (area_y plate cut parent left at wide height last) first node bands) → at + total_size bands ≡ b.params.height → (0 < at → first ≡ false) →
    (kind : ℕ) (before : List Draw) (m : Level) (t : Cut) (numbers : List ℕ) (follow : List Step) (any : ℕ) → kind ≤ 2 →
    Now b kind plate left (left + wide) at any left before t (items_in bands ++ numbers) →
    let steps : List Step = steps_in b 2 (strip_sides b left wide) at kind 0 bands in
    ((steps ≡ [] → ⊥) → IsTrue (is_last_strip true (levels_of follow)) → Gap b.params.waste (left + wide) (Width b plate)) →
    ((next : List Draw) (m' : Level) (s : Cut) (any : ℕ) → Now b (next_kind steps kind 2) plate left (left + wide) b.params.height any left next s numbers → Meeting b next m' s follow) →
    Meeting b before m t (steps ++ follow)
bands_meet b plate left wide few strip cut parent at height last first node nothing is shape keeps total side kind before m t numbers follow any le now closing rest =
    rest before m t any (subst (λ n. Now b kind plate left (left + wide) n any left before t numbers) (sym (add-zero at) ∙ total) now)
bands_meet b plate left wide few strip cut parent at height last first node (piece size (Sort.Item number) inner later) is shape keeps total side kind before m t numbers follow any le now closing rest =
    let h = hold_of (KeepsCutRules b) (area_y plate cut parent left at wide height last) first node size (Sort.Item number) inner later keeps in
    let r : Sides = strip_sides b left wide in
    let end : (at + size) + total_size later ≡ b.params.height = omega (arith, total) in
    let after : List Step = steps_in b 2 r (at + size) 2 0 later in
    cell_meets b plate left wide at size (record {
      few = few;
      strip = strip;
      band = in_strip b plate cut parent left wide at size height last first (node + 1 + count inner) later strip (h.here.l5 is) h.here.l8 h.after end side;
    }) left wide number (record { at_e = λ lt. absurd (omega (arith, lt)); at_end = λ lt. absurd (omega (arith, lt)) }) h.here.l2 h.here.l7
    kind before m t (items_in later ++ numbers) (after ++ follow)
    (record {
      begun = now.begun;
      follows = follows_high b.params.waste kind plate t left (left + wide) at any left (at + size) le now.follows;
      due = subst (λ (inner' : Forest). Due b before (number ∷ ((items_in inner' ++ items_in later) ++ numbers))) shape.0 now.due;
    })
    (closing_above b plate left wide at size r 2 later follow refl (broad_bands b plate cut parent left (at + size) wide height last false (node + 1 + count inner) later is shape.1 h.after) end (closing (λ none. cc)))
    (λ _. inl refl)
    (λ next m' s behind. bands_meet b plate left wide few strip cut parent (at + size) height last false (node + 1 + count inner) later is shape.1 h.after end (λ _. refl)
    2 next m' s numbers follow any (omega arith) (now_above b plate left (left + wide) at (at + size) (left + wide) next s (items_in later ++ numbers) behind any) (λ _. closing (λ none. cc))
    (λ next' m'' s' any' done. rest next' m'' s' any' (subst (λ n. Now b n plate left (left + wide) b.params.height any' left next' s' numbers) (next_same after 2) done)))
bands_meet b plate left wide few strip cut parent at height last first node (piece size Sort.Waste inner later) is shape keeps total side kind before m t numbers follow any le now closing rest =
    let h = hold_of (KeepsCutRules b) (area_y plate cut parent left at wide height last) first node size Sort.Waste inner later keeps in
    bands_meet b plate left wide few strip cut parent (at + size) height last false (node + 1 + count inner) later is shape.1 h.after (omega (arith, total)) (λ _. refl)
    kind before m t numbers follow any le (record {
      begun = now.begun;
      follows = follows_up b.params.waste kind plate t left (left + wide) at any left size le now.follows h.here.l3.1;
      due = subst (λ (inner' : Forest). Due b before ((items_in inner' ++ items_in later) ++ numbers)) shape.0 now.due;
    }) closing rest
bands_meet b plate left wide few strip cut parent at height last first node (piece size Sort.Branch inner later) is shape keeps total side kind before m t numbers follow any le now closing rest =
    let h = hold_of (KeepsCutRules b) (area_y plate cut parent left at wide height last) first node size Sort.Branch inner later keeps in
    let r : Sides = strip_sides b left wide in
    let end : (at + size) + total_size later ≡ b.params.height = omega (arith, total) in
    let here : List Step = steps_in b 3 (band_sides left wide at size) left kind 0 inner in
    let then : ℕ = next_kind here kind 2 in
    let after : List Step = steps_in b 2 r (at + size) then 0 later in
    let tall : b.params.waste ≤ size = omega (arith, h.here.l5 is, b.params.accepted.waste_min2) in
    subst (λ (steps : List Step). Meeting b before m t steps) (sym (append_assoc here after follow))
    (cells_meet b plate left wide at size (record {
      few = few;
      strip = strip;
      band = in_strip b plate cut parent left wide at size height last first (node + 1 + count inner) later strip (h.here.l5 is) h.here.l8 h.after end side;
    }) (cut + 1) (Some node) left wide (last && is_nothing later) true (node + 1) inner (omega (arith, is)) shape.0 h.below (omega (arith, h.here.l1.1)) (λ lt. absurd (omega (arith, lt)))
    kind before m t (items_in later ++ numbers) (after ++ follow)
    (record {
      begun = now.begun;
      follows = follows_high b.params.waste kind plate t left (left + wide) at any left (at + size) le now.follows;
      due = subst (Due b before) (append_assoc (items_in inner) (items_in later) numbers) now.due;
    })
    (λ some. closing_above b plate left wide at size r then later follow (next_some here kind 2 some)
    (broad_bands b plate cut parent left (at + size) wide height last false (node + 1 + count inner) later is shape.1 h.after) end (closing (λ none. some (left_none here after none))))
    (λ next m' s behind. bands_meet b plate left wide few strip cut parent (at + size) height last false (node + 1 + count inner) later is shape.1 h.after end (λ _. refl)
    then next m' s numbers follow any (next_at_most here kind 2 2 le (omega arith))
    (above_cells b plate left (left + wide) at size (left + wide) here kind le tall next s (items_in later ++ numbers) behind any)
    (λ some. closing (λ none. some (right_none here after none)))
    (λ next' m'' s' any' done. rest next' m'' s' any' (subst (λ n. Now b n plate left (left + wide) b.params.height any' left next' s' numbers) (sym (next_append here after kind 2)) done))))
bands_meet b plate left wide few strip cut parent at height last first node (piece size Sort.Residual inner later) is shape keeps total side kind before m t numbers follow any le now closing rest = absurd shape.0
