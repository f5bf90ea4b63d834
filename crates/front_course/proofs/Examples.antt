-- Courses of small instances.
use Rattle.std.proofs.Common.{◌≡◌, ℕ, zero, suc, ◌+◌, ◌-◌, ◌*◌, inl, inr, List, [], ◌∷◌, Bool, true, false, IsTrue, refl, sym, ◌∙◌, subst, arith}
use Rattle.std.specs.List.{All}
use Rattle.std.proofs.lemmas.List.Elements.{All-cons}
use Rattle.glass_base.specs.declared.item.Defect.{Defect}
use Rattle.glass_base.specs.Defects.{hits, crosses_x}
use Rattle.glass_base.specs.Items.{area_of}
use Rattle.glass_base.specs.Plates.{Before, Width}
use Rattle.glass_base.specs.Problem.{Problem}
use Rattle.plan_trace.proofs.TraceExamples.{batch, item}
use Rattle.front_course.specs.Fronts.{no_item, next, IsFull}
use Rattle.front_course.specs.Cells.{Pick, Cell, CanStand}
use Rattle.front_course.specs.Cells.Cell.{alone, pair}
use Rattle.front_course.specs.Strips.{Band}
use Rattle.front_course.specs.Places.{HasPlace, IsClearLine}
use Rattle.plan_trace.specs.TraceRules.{Gap}
use Rattle.front_course.specs.Courses.{Strip, Behind, IsCourse, course_length}

abbrev lying : Pick
lying = record { stack = 0; turn = 0 }

abbrev turned : Pick
turned = record { stack = 0; turn = 1 }

abbrev one_band : ℕ → List Cell → List Band
one_band high cells = record { high = high; cells = cells } ∷ []

-- one item of 500 x 300: a strip of 300, in which it stands upright
abbrev single : Problem
single = batch (item 0 500 300 ∷ []) (6000 ∷ []) (0 ∷ [])

abbrev single_course : List Strip
single_course = record { plate = 0; width = 300; right = 300; bands = one_band 500 (alone turned ∷ []) } ∷ []

single_full : IsFull single (next no_item 0)
single_full zero = refl
single_full (suc n) = refl

single_is : IsCourse single single_course
unfolding Before Width
single_is = record {
  strips = (
    record {
      is_strip = record {
        some = omega arith;
        wide = omega arith;
        narrow = omega arith;
        each = (record { some = omega arith; tall = omega arith; stand = ((cc, inl refl), tt); fill = inl refl }, tt);
        fill = inr (omega arith);
      };
      behind = inl (refl, inl refl);
      within = omega arith;
      few = omega arith;
      places = (0, inl refl, (0, inl refl, (0, omega arith, omega arith, λ k d low. absurd (omega (arith, low))), inl refl), inr (omega arith));
      begin = λ inside within k d low. absurd (omega (arith, low));
      end = λ inside within k d low. absurd (omega (arith, low));
    },
    tt,
  );
  full = single_full;
  rest = inr (omega arith);
}

single_loses : 3210 * course_length single single_course - area_of single.items ≡ 813000
unfolding Before Width
single_loses = refl

-- two items of 400 x 600 and 400 x 700 stand one over the other in a band of 1300, and fill a strip of 400
abbrev double : Problem
double = batch (item 0 400 600 ∷ item 1 400 700 ∷ []) (6000 ∷ []) (0 ∷ 1 ∷ [])

abbrev double_course : List Strip
double_course = record { plate = 0; width = 400; right = 400; bands = one_band 1300 (pair lying lying ∷ []) } ∷ []

double_full : IsFull double (next (next no_item 0) 0)
double_full zero = refl
double_full (suc n) = refl

double_is : IsCourse double double_course
unfolding Before Width
double_is = record {
  strips = (
    record {
      is_strip = record {
        some = omega arith;
        wide = omega arith;
        narrow = omega arith;
        each = (record { some = omega arith; tall = omega arith; stand = ((cc, cc, refl, refl), tt); fill = inl refl }, tt);
        fill = inr (omega arith);
      };
      behind = inl (refl, inl refl);
      within = omega arith;
      few = omega arith;
      places = (0, inl refl, (0, inl refl, ((0, omega arith, omega arith, λ k d low. absurd (omega (arith, low))), (600, omega arith, omega arith, λ k d low. absurd (omega (arith, low)))), inl refl), inr (omega arith));
      begin = λ inside within k d low. absurd (omega (arith, low));
      end = λ inside within k d low. absurd (omega (arith, low));
    },
    tt,
  );
  full = double_full;
  rest = inr (omega arith);
}

-- an item of height 300 can stand in a band of 300 or of 320, and in none between
abbrev short : Problem
short = batch (item 0 500 300 ∷ []) (6000 ∷ []) (0 ∷ [])

short_stands : CanStand short 300 no_item (alone lying)
short_stands = (cc, inl refl)

short_stands_below_waste : CanStand short 320 no_item (alone lying)
short_stands_below_waste = (cc, inr (omega arith, omega arith))

short_stands_not : CanStand short 310 no_item (alone lying) → ⊥
short_stands_not (there, inl same) = absurd (omega (arith, same))
short_stands_not (there, inr least) = absurd (omega (arith, least.0))

-- two items of 1000 x 3210 of one stack: two strips, or one strip of 2000 of two cells
abbrev two : Problem
two = batch (item 0 1000 3210 ∷ item 1 1000 3210 ∷ []) (6000 ∷ []) (0 ∷ 1 ∷ [])

abbrev two_course : List Strip
two_course = record { plate = 0; width = 2000; right = 2000; bands = one_band 3210 (alone lying ∷ alone lying ∷ []) } ∷ []

two_full : IsFull two (next (next no_item 0) 0)
two_full zero = refl
two_full (suc n) = refl

two_is : IsCourse two two_course
unfolding Before Width
two_is = record {
  strips = (
    record {
      is_strip = record {
        some = omega arith;
        wide = omega arith;
        narrow = omega arith;
        each = (record { some = omega arith; tall = omega arith; stand = ((cc, inl refl), ((cc, inl refl), tt)); fill = inl refl }, tt);
        fill = inl refl;
      };
      behind = inl (refl, inl refl);
      within = omega arith;
      few = omega arith;
      places = (0, inl refl, (0, inl refl, (0, omega arith, omega arith, λ k d low. absurd (omega (arith, low))), (1000, inl refl, (0, omega arith, omega arith, λ k d low. absurd (omega (arith, low))), inl refl)), inl refl);
      begin = λ inside within k d low. absurd (omega (arith, low));
      end = λ inside within k d low. absurd (omega (arith, low));
    },
    tt,
  );
  full = two_full;
  rest = inr (omega arith);
}

two_loses : 3210 * course_length two two_course - area_of two.items ≡ 0
unfolding Before Width
two_loses = refl

-- a strip that ends 5 mm before the end of a plate can be followed by none on the next one, nor by one that begins 10 mm behind it
plate_ends_not : Gap 20 5995 6000 → ⊥
plate_ends_not (inl same) = absurd (omega (arith, same))
plate_ends_not (inr least) = absurd (omega (arith, least))

-- strips of 300 mm behind one that ends at 2000: right behind it, 20 mm and more behind it, and on the next plate
abbrev later : ℕ → ℕ → Strip
later plate right = record { plate = plate; width = 300; right = right; bands = [] }

touches : Behind single 0 2000 (later 0 2300)
touches = inl (refl, inl refl)

leaves_waste : Behind single 0 2000 (later 0 2320)
leaves_waste = inl (refl, inr (omega arith))

on_the_next_plate : Behind single 0 2000 (later 1 300)
unfolding Width
on_the_next_plate = inr (refl, inr (omega arith), inl refl)

leaves_little_not : Behind single 0 2000 (later 0 2310) → ⊥
leaves_little_not (inl (same, inl touch)) = absurd (omega (arith, touch))
leaves_little_not (inl (same, inr least)) = absurd (omega (arith, least))
leaves_little_not (inr (plate, rest, gap)) = absurd (omega (arith, plate))

-- a flaw in the lower left corner of the plate: an item of 300 x 500 has no place in a band of 500 there, but 100 mm higher
abbrev flaw : Defect
flaw = record { plate = 0; x0 = 0; y0 = 0; x1 = 100; y1 = 100 }

abbrev flawed : Problem
flawed = record { params = single.params; items = single.items; defects = flaw ∷ []; widths = single.widths; stacks = single.stacks }

-- what does not hold of the flaw holds of no defect
none_of : (P : Defect → Bool) → P flaw ≡ false → All (λ d. ¬ IsTrue (P d)) (flaw ∷ [])
none_of P not = All-cons (λ d. ¬ IsTrue (P d)) flaw [] (λ hit. let no : true ≡ false = sym hit ∙ not in cc) (λ k d low. absurd (omega (arith, low)))

lies_higher : HasPlace flawed 0 0 0 3210 300 500
lies_higher = (100, omega arith, omega arith, none_of (hits 0 0 100 300 600) refl)

lies_beside : HasPlace flawed 0 100 0 500 300 500
lies_beside = (0, omega arith, omega arith, none_of (hits 0 100 0 400 500) refl)

lies_low_not : HasPlace flawed 0 0 0 500 300 500 → ⊥
lies_low_not (bottom, low, top, none) =
    let least : 0 ≡ bottom = omega (arith, top) in
    let hit : IsTrue (hits 0 0 bottom 300 (bottom + 500) flaw) = subst (λ n. IsTrue (hits 0 0 n 300 (n + 500) flaw)) least refl in none 0 flaw (omega arith) hit

-- a strip can neither begin nor end inside of it, and can at its right side
ends_behind : IsClearLine flawed 0 100
ends_behind inside within = none_of (crosses_x 0 100 0 3210) refl

ends_inside_not : IsClearLine flawed 0 50 → ⊥
unfolding Width
ends_inside_not clear = clear (omega arith) (omega arith) 0 flaw (omega arith) refl
