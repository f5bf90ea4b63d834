-- A walk over neighbours that tells the families of each.
use Rattle.std.proofs.Common.{◌≡◌, ℕ, ◌+◌, ◌*◌, ◌≤◌, List, [], ◌∷◌, ◌++◌, Bool, true, false, refl, sym, ap, subst, ◌∙◌, append_assoc, append-nil, arith}
use Rattle.cut_model.specs.declared.family.Sort.{Sort}
use Rattle.cut_model.specs.declared.family.Along.{Along}
use Rattle.cut_model.specs.declared.family.Area.{Area}
use Rattle.cut_model.specs.declared.family.Family.{Family}
use Rattle.cut_model.specs.Tree.{Forest, nothing, piece, is_nothing, children_in, count, total_size}
use Rattle.cut_model.specs.Families.{families, family_with, inside, behind, moved, width_at, height_at}
use Rattle.cut_model.specs.Fits.{InRange}
use Rattle.cut_model.specs.inner.Room.{FitsIn}
use Rattle.cut_model.specs.Visits.{Tells}
use Rattle.cut_model.specs.inner.Walks.{Walked, IsStart, NextWithin}
use Rattle.glass_base.specs.declared.limits.TheConstants.{MOST_ROWS, MOST_SIDE}

pub tells_none : {S : Type 0} {HasSeen : S → S → List Family → Type 0} (it : S) → Tells HasSeen it it []
tells_none {HasSeen = HasSeen} it = record { after = λ start seen h. subst (HasSeen start it) (sym (append-nil seen)) h }

pub tells_then : {S : Type 0} {HasSeen : S → S → List Family → Type 0} {old mid new : S} {xs ys : List Family} → Tells HasSeen old mid xs → Tells HasSeen mid new ys → Tells HasSeen old new (xs ++ ys)
tells_then {HasSeen = HasSeen} {new = new} {xs = xs} {ys} a b = record {
  after = λ start seen h. subst (HasSeen start new) (append_assoc seen xs ys) (b.after start (seen ++ xs) (a.after start seen h));
}

-- the families of one piece: its own, then those inside it
abbrev pub told : Area → Bool → Bool → ℕ → ℕ → Sort → Forest → List Family
told at first ends node size sort inner =
    let f : Family = family_with at first ends node size sort (children_in inner) in
    f ∷ families (inside f) true (node + 1) inner

-- what a walk has told, and what is still to come
pub record Walking {S : Type 0} (HasSeen : S → S → List Family → Type 0) (old new : S) (whole : List Family) (end : ℕ) (at : Area) (first : Bool) (node : ℕ) (left : Forest) : Type 0 where
  pub done : List Family
  pub tells : Tells HasSeen old new done
  pub whole_is : done ++ families at first node left ≡ whole
  pub end_is : node + count left ≡ end

pub walking_start : {S : Type 0} {HasSeen : S → S → List Family → Type 0} (it : S) (at : Area) (node : ℕ) (left : Forest) → Walking HasSeen it it (families at true node left) (node + count left) at true node left
walking_start it at node left = record { done = []; tells = tells_none it; whole_is = refl; end_is = refl }

-- one piece: its family, then those inside it
pub walking_more : {S : Type 0} {HasSeen : S → S → List Family → Type 0} {old mid new : S} {whole : List Family} {end : ℕ} {at at' : Area} {first ends : Bool} {node next size : ℕ} {sort : Sort} {inner later left : Forest} →
    left ≡ piece size sort inner later → ends ≡ is_nothing later → at' ≡ behind at size →
    Walking HasSeen old mid whole end at first node left →
    Walked HasSeen mid new (told at first ends node size sort inner) next (node + 1 + count inner) →
    Walking HasSeen old new whole end at' false next later
unfolding families
walking_more {HasSeen = HasSeen} {old} {mid} {new} {whole} {end} {at} {at'} {first} {ends} {node} {next} {size} {sort} {inner} {later} {left} is last moved h step =
    let P : Forest → Type 0 = λ t. Walking HasSeen old mid whole end at first node t in
    let h' : Walking HasSeen old mid whole end at first node (piece size sort inner later) = subst P is h in
    let Q : Bool → Type 0 = λ b. Walked HasSeen mid new (told at first b node size sort inner) next (node + 1 + count inner) in
    let step' : Walked HasSeen mid new (told at first (is_nothing later) node size sort inner) next (node + 1 + count inner) = subst Q last step in
    record {
      done = h'.done ++ told at first (is_nothing later) node size sort inner;
      tells = tells_then h'.tells step'.tells;
      whole_is = rw (append_assoc, step.next_is, moved) h'.whole_is;
      end_is = omega (arith, h'.end_is, step.next_is);
    }

pub walking_end : {S : Type 0} {HasSeen : S → S → List Family → Type 0} {old new : S} {whole : List Family} {end : ℕ} {at : Area} {first : Bool} {node : ℕ} {left : Forest} →
    left ≡ nothing → Walking HasSeen old new whole end at first node left → Walked HasSeen old new whole node end
unfolding families
walking_end {HasSeen = HasSeen} {old} {new} {whole} {end} {at} {first} {node} is h =
    let P : Forest → Type 0 = λ t. Walking HasSeen old new whole end at first node t in
    let h' : Walking HasSeen old new whole end at first node nothing = subst P is h in
    record {
      next_is = omega (arith, h'.end_is);
      tells = subst (λ (fs : List Family). Tells HasSeen old new fs) (sym (append-nil h'.done) ∙ h'.whole_is) h'.tells;
    }

-- the pieces from here on are in range
pub record Within (level node : ℕ) (at : Area) (left : Forest) : Type 0 where
  pub cut : at.cut ≡ level
  pub plate : at.plate ≤ node
  pub x : at.x + total_size left ≤ MOST_SIDE * level + MOST_SIDE
  pub y : at.y + total_size left ≤ MOST_SIDE * level + MOST_SIDE
  pub width : at.width ≤ MOST_SIDE
  pub height : at.height ≤ MOST_SIDE
  pub total : total_size left ≤ MOST_SIDE
  pub in_range : InRange left
  pub few : count left ≤ MOST_ROWS

pub within_start : {level node : ℕ} {at : Area} {left : Forest} → IsStart level node at → FitsIn MOST_SIDE MOST_ROWS left → Within level node at left
within_start s f = record {
  cut = s.cut;
  plate = s.plate;
  x = omega (arith, s.x, f.total);
  y = omega (arith, s.y, f.total);
  width = s.width;
  height = s.height;
  total = f.total;
  in_range = f.in_range;
  few = f.few;
}

pub behind_plate : (at : Area) (along : Along) (size : ℕ) → (moved along at size).plate ≤ at.plate + 1
behind_plate at Along.Plates size = omega arith
behind_plate at Along.X size = omega arith
behind_plate at Along.Y size = omega arith

pub behind_x : (at : Area) (along : Along) (size : ℕ) → (moved along at size).x ≤ at.x + size
behind_x at Along.Plates size = omega arith
behind_x at Along.X size = omega arith
behind_x at Along.Y size = omega arith

pub behind_y : (at : Area) (along : Along) (size : ℕ) → (moved along at size).y ≤ at.y + size
behind_y at Along.Plates size = omega arith
behind_y at Along.X size = omega arith
behind_y at Along.Y size = omega arith

pub behind_rest : (at : Area) (along : Along) (size : ℕ) → ((moved along at size).cut ≡ at.cut) × ((moved along at size).width ≡ at.width) × ((moved along at size).height ≡ at.height)
behind_rest at Along.Plates size = (refl, refl, refl)
behind_rest at Along.X size = (refl, refl, refl)
behind_rest at Along.Y size = (refl, refl, refl)

pub within_more : {level node next size : ℕ} {at at' : Area} {sort : Sort} {inner later left : Forest} →
    left ≡ piece size sort inner later → at' ≡ behind at size → Within level node at left → node + 1 ≤ next → Within level next at' later
within_more {level} {node} {next} {size} {at} {at'} {sort} {inner} {later} is moved h lt =
    let P : Forest → Type 0 = λ t. Within level node at t in
    let h' : Within level node at (piece size sort inner later) = subst P is h in
    let rest = behind_rest at at.along size in
    rw moved (record {
      cut = rest.0 ∙ h'.cut;
      plate = omega (arith, h'.plate, lt, behind_plate at at.along size);
      x = omega (arith, h'.x, behind_x at at.along size);
      y = omega (arith, h'.y, behind_y at at.along size);
      width = omega (arith, h'.width, rest.1);
      height = omega (arith, h'.height, rest.2);
      total = omega (arith, h'.total);
      in_range = h'.in_range.4;
      few = omega (arith, h'.few);
    })

width_small : (along : Along) (size width : ℕ) → size ≤ MOST_SIDE → width ≤ MOST_SIDE → width_at along size width ≤ MOST_SIDE
width_small Along.Plates size width a b = a
width_small Along.X size width a b = a
width_small Along.Y size width a b = b

height_small : (along : Along) (size height : ℕ) → size ≤ MOST_SIDE → height ≤ MOST_SIDE → height_at along size height ≤ MOST_SIDE
height_small Along.Plates size height a b = b
height_small Along.X size height a b = b
height_small Along.Y size height a b = a

pub next_within : {level node size : ℕ} {at : Area} (first ends : Bool) {sort : Sort} {inner later left : Forest} →
    left ≡ piece size sort inner later → level ≤ 4 → Within level node at left → NextWithin level node at first ends size sort inner
next_within {level} {node} {size} {at} first ends {sort} {inner} {later} is shallow h =
    let P : Forest → Type 0 = λ t. Within level node at t in
    let h' : Within level node at (piece size sort inner later) = subst P is h in
    record {
      small = record {
        x = omega (arith, h'.x, shallow);
        y = omega (arith, h'.y, shallow);
        width = width_small at.along size at.width h'.in_range.0 h'.width;
        height = height_small at.along size at.height h'.in_range.0 h'.height;
        cut = omega (arith, h'.cut, shallow);
        total = h'.in_range.2;
      };
      start = record {
        cut = omega (arith, h'.cut);
        plate = omega (arith, h'.plate);
        x = omega (arith, h'.x);
        y = omega (arith, h'.y);
        width = width_small at.along size at.width h'.in_range.0 h'.width;
        height = height_small at.along size at.height h'.in_range.0 h'.height;
      };
      fits = record { in_range = h'.in_range.3; total = h'.in_range.2; few = omega (arith, h'.few) };
      short = h'.in_range.0;
    }

-- a piece with nothing inside
pub walked_nothing : {S : Type 0} {HasSeen : S → S → List Family → Type 0} (it : S) (at : Area) (first : Bool) (node : ℕ) → Walked HasSeen it it (families at first node nothing) node (node + count nothing)
unfolding families
walked_nothing it at first node = record { next_is = omega arith; tells = tells_none it }

-- the plates from here on are in range
pub record OnStock (node : ℕ) (at : Area) (left : Forest) : Type 0 where
  pub along : at.along ≡ Along.Plates
  pub cut : at.cut ≡ 0
  pub plate : at.plate ≤ node
  pub x : at.x ≡ 0
  pub y : at.y ≡ 0
  pub height : at.height ≤ MOST_SIDE
  pub in_range : InRange left
  pub few : node + count left ≤ MOST_ROWS

pub stock_more : {node next size : ℕ} {at at' : Area} {sort : Sort} {inner later left : Forest} →
    left ≡ piece size sort inner later → at' ≡ behind at size → OnStock node at left → next ≡ node + 1 + count inner → OnStock next at' later
stock_more {node} {next} {size} {at} {at'} {sort} {inner} {later} is moves h next_is =
    let P : Forest → Type 0 = λ t. OnStock node at t in
    let h' : OnStock node at (piece size sort inner later) = subst P is h in
    let there : behind at size ≡ moved Along.Plates at size = ap (λ (along : Along). moved along at size) h'.along in
    rw (moves ∙ there) (record {
      along = h'.along;
      cut = h'.cut;
      plate = omega (arith, h'.plate, next_is);
      x = h'.x;
      y = h'.y;
      height = h'.height;
      in_range = h'.in_range.4;
      few = omega (arith, h'.few, next_is);
    })

pub stock_next : {node size : ℕ} {at : Area} (first ends : Bool) {sort : Sort} {inner later left : Forest} →
    left ≡ piece size sort inner later → OnStock node at left → NextWithin 0 node at first ends size sort inner
stock_next {node} {size} {at} first ends {sort} {inner} {later} is h =
    let P : Forest → Type 0 = λ t. OnStock node at t in
    let h' : OnStock node at (piece size sort inner later) = subst P is h in
    let wide : width_at at.along size at.width ≤ MOST_SIDE = rw h'.along (h'.in_range.0) in
    let high : height_at at.along size at.height ≤ MOST_SIDE = rw h'.along (h'.height) in
    record {
      small = record {
        x = omega (arith, h'.x);
        y = omega (arith, h'.y);
        width = wide;
        height = high;
        cut = omega (arith, h'.cut);
        total = h'.in_range.2;
      };
      start = record {
        cut = omega (arith, h'.cut);
        plate = omega (arith, h'.plate);
        x = omega (arith, h'.x);
        y = omega (arith, h'.y);
        width = wide;
        height = high;
      };
      fits = record { in_range = h'.in_range.3; total = h'.in_range.2; few = omega (arith, h'.few) };
      short = h'.in_range.0;
    }
