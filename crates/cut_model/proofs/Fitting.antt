-- Room that is used up piece by piece.
use Rattle.std.proofs.Common.{◌≡◌, ℕ, ◌+◌, ◌<◌, ◌≤◌, refl, subst, arith, List, [], ◌∷◌}
use Rattle.cut_model.specs.declared.family.Sort.{Sort}
use Rattle.cut_model.specs.declared.plan.Plate.{Plate}
use Rattle.cut_model.specs.Tree.{Forest, nothing, piece, count, total_size, plates_of}
use Rattle.cut_model.specs.Fits.{Fits}
use Rattle.cut_model.specs.inner.Room.{FitsIn, Leaves, FitsPiece, LeavesPiece}
use Rattle.glass_base.specs.declared.limits.TheConstants.{MOST_ROWS, MOST_SIDE}

-- all pieces fit in the room at the start just if those that are left fit in the room that is left
pub record Fitting (whole : Forest) (start length room : ℕ) (left : Forest) : Type 0 where
  pub onward : FitsIn MOST_SIDE start whole → FitsIn length room left
  pub back : FitsIn length room left → FitsIn MOST_SIDE start whole
  pub short : length ≤ MOST_SIDE
  pub room_is : room + count whole ≡ start + count left

pub fitting_start : (whole : Forest) (start : ℕ) → Fitting whole start MOST_SIDE start whole
fitting_start whole start = record { onward = λ h. h; back = λ h. h; short = omega arith; room_is = refl }

-- the next piece fits
pub fitting_more : {whole left inner later : Forest} {start length length' room room' size : ℕ} {sort : Sort} →
    left ≡ piece size sort inner later → Fitting whole start length room left → length' + size ≡ length → LeavesPiece room sort inner room' →
    Fitting whole start length' room' later
fitting_more {whole} {left} {inner} {later} {start} {length} {length'} {room} {room'} {size} {sort} is h sum here =
    let P : Forest → Type 0 = λ t. Fitting whole start length room t in
    let h' : Fitting whole start length room (piece size sort inner later) = subst P is h in
    record {
      onward = λ all. let all' = h'.onward all in record { in_range = all'.in_range.4; total = omega (arith, all'.total, sum); few = omega (arith, all'.few, here.left_is) };
      back = λ rest. h'.back (record {
        in_range = (omega (arith, sum, h'.short), here.fits.numbered, here.fits.inside.total, here.fits.inside.in_range, rest.in_range);
        total = omega (arith, rest.total, sum);
        few = omega (arith, rest.few, here.left_is);
      });
      short = omega (arith, h'.short, sum);
      room_is = omega (arith, h'.room_is, here.left_is);
    }

pub fitting_end : {whole left : Forest} {start length room : ℕ} → left ≡ nothing → Fitting whole start length room left → Leaves MOST_SIDE start whole room
fitting_end {whole} {left} {start} {length} {room} is h =
    let P : Forest → Type 0 = λ t. Fitting whole start length room t in
    let h' : Fitting whole start length room nothing = subst P is h in
    record { fits = h'.back (record { in_range = tt; total = omega arith; few = omega arith }); left_is = omega (arith, h'.room_is) }

-- the next piece is too long, or does not fit by itself
pub too_long : {whole left inner later : Forest} {start length room size : ℕ} {sort : Sort} →
    left ≡ piece size sort inner later → Fitting whole start length room left → length < size → ¬ FitsIn MOST_SIDE start whole
too_long {whole} {left} {inner} {later} {start} {length} {room} {size} {sort} is h long all =
    let P : Forest → Type 0 = λ t. FitsIn length room t in
    let all' : FitsIn length room (piece size sort inner later) = subst P is (h.onward all) in
    omega (arith, all'.total, long)

pub misfit : {whole left inner later : Forest} {start length room size : ℕ} {sort : Sort} →
    left ≡ piece size sort inner later → Fitting whole start length room left → ¬ FitsPiece room sort inner → ¬ FitsIn MOST_SIDE start whole
misfit {whole} {left} {inner} {later} {start} {length} {room} {size} {sort} is h bad all =
    let P : Forest → Type 0 = λ t. FitsIn length room t in
    let all' : FitsIn length room (piece size sort inner later) = subst P is (h.onward all) in
    bad (record {
      numbered = all'.in_range.1;
      some = omega (arith, all'.few);
      inside = record { in_range = all'.in_range.3; total = all'.in_range.2; few = omega (arith, all'.few) };
    })

no_length : (plates : List Plate) → total_size (plates_of plates) ≡ 0
no_length [] = refl
no_length (p ∷ ps) = omega (arith, no_length ps)

-- the plates of a plan, which have no size of their own
pub plates_fit : (plates : List Plate) → Fits (plates_of plates) → FitsIn MOST_SIDE MOST_ROWS (plates_of plates)
plates_fit plates h = record { in_range = h.in_range; total = omega (arith, no_length plates); few = h.few }

pub fits_plates : (plates : List Plate) → FitsIn MOST_SIDE MOST_ROWS (plates_of plates) → Fits (plates_of plates)
fits_plates plates h = record { in_range = h.in_range; few = h.few }
