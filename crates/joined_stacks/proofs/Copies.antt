-- Cells, bands and strips with the items of the homes in the place of those of the stacks: they have the same sides and places.
use Rattle.std.proofs.Common.{◌≡◌, ℕ, suc, ◌+◌, List, [], ◌∷◌, length, refl, sym, ◌∙◌, ap, subst, arith}
use Rattle.glass_base.specs.declared.item.Item.{Item}
use Rattle.glass_base.specs.Problem.{Problem}
use Rattle.plan_trace.specs.TraceRules.{Gap}
use Rattle.front_course.specs.Fronts.{Front, next}
use Rattle.front_course.specs.Cells.{pick_width, pick_height, Cell, after_cell, cell_width, Stands, CanStand, after_cells, cells_width, AllStand}
use Rattle.front_course.specs.Cells.Cell.{alone, pair}
use Rattle.front_course.specs.Strips.{Band, after_bands, bands_height, AreBands, IsStrip}
use Rattle.front_course.specs.Places.{HasPlace, HasPlaces, CellPlaces, BandPlaces}
use Rattle.joined_stacks.specs.inner.Homes.{home_of, AreHomes}
use Rattle.joined_stacks.proofs.Mirrors.{in_stacks, Mirrors, moved, Picked, picked}

abbrev pub moved_cell : List ℕ → Cell → Cell
moved_cell homes (alone p) = alone (moved homes p)
moved_cell homes (pair p q) = pair (moved homes p) (moved homes q)

abbrev pub moved_cells : List ℕ → List Cell → List Cell
moved_cells homes [] = []
moved_cells homes (c ∷ cells) = moved_cell homes c ∷ moved_cells homes cells

abbrev pub moved_band : List ℕ → Band → Band
moved_band homes band = record { high = band.high; cells = moved_cells homes band.cells }

abbrev pub moved_bands : List ℕ → List Band → List Band
moved_bands homes [] = []
moved_bands homes (band ∷ bands) = moved_band homes band ∷ moved_bands homes bands

-- what is known of a cell that stands in a band of this height, and of the one in its place
record Celled (b other : Problem) (homes : List ℕ) (high : ℕ) (f g : Front) (c : Cell) : Type 0 where
  can : CanStand other high g (moved_cell homes c)
  wide : cell_width other g (moved_cell homes c) ≡ cell_width b f c
  placed : (plate left low top : ℕ) → HasPlaces b plate left low top f c → HasPlaces other plate left low top g (moved_cell homes c)
  behind : Mirrors b homes (after_cell f c) (after_cell g (moved_cell homes c))

stands_as : (waste w h high w' h' : ℕ) → w' ≡ w → h' ≡ h → Stands waste w h high → Stands waste w' h' high
stands_as waste w h high w' h' e1 e2 stands = rw (e1, e2) stands

place_as : (b : Problem) (plate left low top w h low' top' w' h' : ℕ) → low' ≡ low → top' ≡ top → w' ≡ w → h' ≡ h → HasPlace b plate left low top w h → HasPlace b plate left low' top' w' h'
place_as b plate left low top w h low' top' w' h' e1 e2 e3 e4 place = rw (e1, e2, e3, e4) place

celled : (b : Problem) (items : List Item) (stacks : List (List ℕ)) (homes : List ℕ) (high : ℕ) (f g : Front) (c : Cell) → AreHomes b (in_stacks b items stacks) homes → Mirrors b homes f g → CanStand b high f c →
    Celled b (in_stacks b items stacks) homes high f g c
celled b items stacks homes high f g (alone p) are m can =
    let o : Problem = in_stacks b items stacks in
    let one : Picked b o homes f g p = picked b items stacks homes f g p are m can.0 in
    record {
      can = (one.there, stands_as b.params.waste (pick_width b f p) (pick_height b f p) high (pick_width o g (moved homes p)) (pick_height o g (moved homes p)) one.wide one.high can.1);
      wide = one.wide;
      placed = λ plate left low top places.
          place_as b plate left low top (pick_width b f p) (pick_height b f p) low top (pick_width o g (moved homes p)) (pick_height o g (moved homes p)) refl refl one.wide one.high places;
      behind = one.behind;
    }
celled b items stacks homes high f g (pair p q) are m can =
    let o : Problem = in_stacks b items stacks in
    let f1 : Front = next f p.stack in
    let g1 : Front = next g (home_of homes p.stack) in
    let one : Picked b o homes f g p = picked b items stacks homes f g p are m can.0 in
    let two : Picked b o homes f1 g1 q = picked b items stacks homes f1 g1 q are one.behind can.1 in
    record {
      can = (one.there, two.there, two.wide ∙ can.2 ∙ sym one.wide, omega (arith, one.high, two.high, can.3));
      wide = one.wide;
      placed = λ plate left low top places. (
        place_as b plate left low (low + pick_height b f p) (pick_width b f p) (pick_height b f p) low (low + pick_height o g (moved homes p)) (pick_width o g (moved homes p)) (pick_height o g (moved homes p))
            refl (omega (arith, one.high)) one.wide one.high places.0,
        place_as b plate left (low + pick_height b f p) top (pick_width b f1 q) (pick_height b f1 q) (low + pick_height o g (moved homes p)) top (pick_width o g1 (moved homes q)) (pick_height o g1 (moved homes q))
            (omega (arith, one.high)) refl two.wide two.high places.1,
      );
      behind = two.behind;
    }

-- the same of cells one behind the other
record Row (b other : Problem) (homes : List ℕ) (high : ℕ) (f g : Front) (cells : List Cell) : Type 0 where
  many : length (moved_cells homes cells) ≡ length cells
  stand : AllStand other high g (moved_cells homes cells)
  wide : cells_width other g (moved_cells homes cells) ≡ cells_width b f cells
  placed : (plate low top from right : ℕ) → CellPlaces b plate low top f from right cells → CellPlaces other plate low top g from right (moved_cells homes cells)
  behind : Mirrors b homes (after_cells f cells) (after_cells g (moved_cells homes cells))

in_row : (b : Problem) (items : List Item) (stacks : List (List ℕ)) (homes : List ℕ) (high : ℕ) (f g : Front) (cells : List Cell) → AreHomes b (in_stacks b items stacks) homes → Mirrors b homes f g → AllStand b high f cells →
    Row b (in_stacks b items stacks) homes high f g cells
in_row b items stacks homes high f g [] are m stand =
    record { many = refl; stand = tt; wide = refl; placed = λ plate low top from right places. places; behind = m }
in_row b items stacks homes high f g (c ∷ cells) are m stand =
    let o : Problem = in_stacks b items stacks in
    let first : Celled b o homes high f g c = celled b items stacks homes high f g c are m stand.0 in
    let rest : Row b o homes high (after_cell f c) (after_cell g (moved_cell homes c)) cells = in_row b items stacks homes high (after_cell f c) (after_cell g (moved_cell homes c)) cells are first.behind stand.1 in
    record {
      many = ap suc rest.many;
      stand = (first.can, rest.stand);
      wide = omega (arith, first.wide, rest.wide);
      placed = λ plate low top from right places. (
        places.0,
        places.1,
        first.placed plate places.0 low top places.2,
        subst (λ n. CellPlaces o plate low top (after_cell g (moved_cell homes c)) (places.0 + n) right (moved_cells homes cells)) (sym first.wide)
            (rest.placed plate low top (places.0 + cell_width b f c) right places.3),
      );
      behind = rest.behind;
    }

-- and of bands one above the other, in a strip of this width
record Stack (b other : Problem) (homes : List ℕ) (width : ℕ) (f g : Front) (bands : List Band) : Type 0 where
  many : length (moved_bands homes bands) ≡ length bands
  are : AreBands other width g (moved_bands homes bands)
  high : bands_height (moved_bands homes bands) ≡ bands_height bands
  placed : (plate left right from : ℕ) → BandPlaces b plate left right f from bands → BandPlaces other plate left right g from (moved_bands homes bands)
  behind : Mirrors b homes (after_bands f bands) (after_bands g (moved_bands homes bands))

in_stack : (b : Problem) (items : List Item) (stacks : List (List ℕ)) (homes : List ℕ) (width : ℕ) (f g : Front) (bands : List Band) → AreHomes b (in_stacks b items stacks) homes → Mirrors b homes f g → AreBands b width f bands →
    Stack b (in_stacks b items stacks) homes width f g bands
in_stack b items stacks homes width f g [] are m each =
    record { many = refl; are = tt; high = refl; placed = λ plate left right from places. places; behind = m }
in_stack b items stacks homes width f g (band ∷ bands) are m each =
    let o : Problem = in_stacks b items stacks in
    let row : Row b o homes band.high f g band.cells = in_row b items stacks homes band.high f g band.cells are m each.0.stand in
    let f1 : Front = after_cells f band.cells in
    let g1 : Front = after_cells g (moved_cells homes band.cells) in
    let rest : Stack b o homes width f1 g1 bands = in_stack b items stacks homes width f1 g1 bands are row.behind each.1 in
    record {
      many = ap suc rest.many;
      are = (
        record {
          some = omega (arith, row.many, each.0.some);
          tall = each.0.tall;
          stand = row.stand;
          fill = subst (λ n. Gap b.params.waste n width) (sym row.wide) each.0.fill;
        },
        rest.are,
      );
      high = omega (arith, rest.high);
      placed = λ plate left right from places.
          (places.0, places.1, row.placed plate places.0 (places.0 + band.high) left right places.2, rest.placed plate left right (places.0 + band.high) places.3);
      behind = rest.behind;
    }

-- a strip, and the one in its place
pub record Copied (b other : Problem) (homes : List ℕ) (width : ℕ) (f g : Front) (bands : List Band) : Type 0 where
  pub is_strip : IsStrip other width g (moved_bands homes bands)
  pub placed : (plate left right from : ℕ) → BandPlaces b plate left right f from bands → BandPlaces other plate left right g from (moved_bands homes bands)
  pub behind : Mirrors b homes (after_bands f bands) (after_bands g (moved_bands homes bands))

pub copied : (b : Problem) (items : List Item) (stacks : List (List ℕ)) (homes : List ℕ) (width : ℕ) (f g : Front) (bands : List Band) → AreHomes b (in_stacks b items stacks) homes → Mirrors b homes f g → IsStrip b width f bands →
    Copied b (in_stacks b items stacks) homes width f g bands
copied b items stacks homes width f g bands are m is =
    let rest = in_stack b items stacks homes width f g bands are m is.each in
    record {
      is_strip = record {
        some = omega (arith, rest.many, is.some);
        wide = is.wide;
        narrow = is.narrow;
        each = rest.are;
        fill = subst (λ n. Gap b.params.waste n b.params.height) (sym rest.high) is.fill;
      };
      placed = rest.placed;
      behind = rest.behind;
    }
