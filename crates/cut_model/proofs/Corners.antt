-- Each piece stands in the one that it is cut from, behind those that are cut from it before.
use Rattle.std.proofs.Common.{◌≡◌, ◌≢◌, ℕ, zero, suc, ◌+◌, ◌<◌, ◌≤◌, ◌==◌, List, [], ◌∷◌, ◌++◌, length, take, Bool, true, false, refl, sym, ap, subst, ◌∙◌, arith, Option, Some, length-append, append-nil}
use Rattle.std.specs.Prelude.{slice_get, MatchOption}
use Rattle.std.proofs.lemmas.Bool.Decides.{nat_tests}
use Rattle.std.proofs.lemmas.List.{length-map, map-append}
use Rattle.std.proofs.lemmas.List.Elements.{filter-append}
use Rattle.std.proofs.lemmas.Option.{slice_get_within}
use Rattle.glass_base.specs.Plates.{Width}
use Rattle.glass_base.specs.Problem.{Problem}
use Rattle.cut_model.specs.declared.family.Along.{Along}
use Rattle.cut_model.specs.declared.family.Area.{Area}
use Rattle.cut_model.specs.declared.family.Family.{Family}
use Rattle.cut_model.specs.declared.family.Row.{Row}
use Rattle.cut_model.specs.declared.family.Sort.{Sort}
use Rattle.cut_model.specs.Families.{behind, families, families_of, family_with, height_at, inside, moved, row_at, rows_of, turned, width_at}
use Rattle.cut_model.specs.Lawful.{plate_rows}
use Rattle.cut_model.specs.Neighbourhood.{Follows, IsCutFrom, IsPlate, StandsInItsParent}
use Rattle.cut_model.specs.Parents.{is_number, rows_in, sum_along}
use Rattle.cut_model.specs.Sized.{sized}
use Rattle.cut_model.specs.Tree.{Forest, nothing, piece, children_in, count, is_nothing}
use Rattle.cut_model.proofs.Numbers.{length-families}
use Rattle.cut_model.proofs.Parents.{along_behind, cut_behind, none_in, parent_behind, rows}
use Rattle.cut_model.proofs.Places.{EachBefore, IsBelow, NamesBelow, at_place, before-append, below_after, below_later, below_next, own_number, plate_at}

-- where a list of pieces goes on in the piece that it is cut from
abbrev GoesOn : Along → Row → List Row → Area → Type 0
GoesOn Along.Plates whole before at = ⊥
GoesOn Along.X whole before at = (at.x ≡ whole.x + sum_along Along.X before) × (at.y ≡ whole.y) × (at.height ≡ whole.height)
GoesOn Along.Y whole before at = (at.y ≡ whole.y + sum_along Along.Y before) × (at.x ≡ whole.x) × (at.width ≡ whole.width)

-- the next piece stands there
follows : (along : Along) (whole : Row) (before : List Row) (at : Area) (node size : ℕ) (sort : Sort) → at.along ≡ along → GoesOn along whole before at → Follows along whole before (row_at at node size sort)
follows Along.Plates whole before at node size sort e h = h
follows Along.X whole before at node size sort e h = (h.0, h.1, ap (λ (a : Along). height_at a size at.height) e ∙ h.2)
follows Along.Y whole before at node size sort e h = (h.0, h.1, ap (λ (a : Along). width_at a size at.width) e ∙ h.2)

sum-push : (along : Along) (before : List Row) (r : Row) → sum_along along (before ++ r ∷ []) ≡ sum_along along before + sum_along along (r ∷ [])
sum-push along [] r = omega arith
sum-push along (s ∷ before) r = omega (arith, sum-push along before r)

-- behind it the list goes on
goes_behind : (along : Along) (whole : Row) (before : List Row) (at : Area) (node size : ℕ) (sort : Sort) → at.along ≡ along → GoesOn along whole before at →
    GoesOn along whole (before ++ row_at at node size sort ∷ []) (moved along at size)
goes_behind Along.Plates whole before at node size sort e h = h
goes_behind Along.X whole before at node size sort e h =
    (omega (arith, h.0, sum-push Along.X before (row_at at node size sort), ap (λ (a : Along). width_at a size at.width) e), h.1, h.2)
goes_behind Along.Y whole before at node size sort e h =
    (omega (arith, h.0, sum-push Along.Y before (row_at at node size sort), ap (λ (a : Along). height_at a size at.height) e), h.1, h.2)

-- the pieces inside a piece begin in its corner
goes_inside : (along : Along) (f : Family) → GoesOn (turned along) f.row [] (inside f)
goes_inside Along.Plates f = (omega arith, refl, refl)
goes_inside Along.X f = (omega arith, refl, refl)
goes_inside Along.Y f = (omega arith, refl, refl)

-- so it goes on, told along with the rows before
pub record IsInside (told : List Row) (number : ℕ) (whole : Row) (at : Area) : Type 0 where
  pub parent : at.parent ≡ Some number
  pub stands : slice_get told number ≡ Some whole
  pub number_is : whole.node ≡ number
  pub plate : at.plate ≡ whole.plate
  pub cut : at.cut ≡ whole.cut + 1
  pub corner : GoesOn at.along whole (rows_in number told) at

-- a row keeps its place when more are told
pub get_kept : (told more : List Row) (n : ℕ) (r : Row) → slice_get told n ≡ Some r → slice_get (told ++ more) n ≡ Some r
get_kept [] more n r is = cc
get_kept (s ∷ told) more zero r is = is
get_kept (s ∷ told) more (suc n) r is = get_kept told more n r is

get_push : (told : List Row) (r : Row) → slice_get (told ++ r ∷ []) (length told) ≡ Some r
get_push [] r = refl
get_push (s ∷ told) r = get_push told r

-- of a list of pieces it goes on in the same piece, on its plate
plate_behind : (along : Along) (whole : Row) (before : List Row) (at : Area) (size : ℕ) → GoesOn along whole before at → (moved along at size).plate ≡ at.plate
plate_behind Along.Plates whole before at size h = absurd h
plate_behind Along.X whole before at size h = refl
plate_behind Along.Y whole before at size h = refl

-- a piece of the list
one_cornered : (b : Problem) (told : List Row) (number : ℕ) (whole : Row) (at : Area) (first ends : Bool) (node size : ℕ) (sort : Sort) (inner : Forest) →
    IsInside told number whole at → StandsInItsParent b told (family_with at first ends node size sort (children_in inner))
one_cornered b told number whole at first ends node size sort inner h =
    let f : Family = family_with at first ends node size sort (children_in inner) in
    let from : IsCutFrom told f number = record {
      whole = whole;
      stands = h.stands;
      node = h.number_is;
      plate = h.plate;
      cut = h.cut;
      corner = follows at.along whole (rows_in number told) at node size sort refl h.corner;
    } in
    subst (λ (parent : Option ℕ). MatchOption parent (IsPlate b told f.row) (IsCutFrom told f)) (sym h.parent) from

-- the pieces inside it
within_inside : (told : List Row) (f : Family) → length told ≡ f.row.node → rows_in f.row.node (told ++ f.row ∷ []) ≡ [] → IsInside (told ++ f.row ∷ []) f.row.node f.row (inside f)
within_inside told f many none = record {
  parent = refl;
  stands = subst (λ (n : ℕ). slice_get (told ++ f.row ∷ []) n ≡ Some f.row) many (get_push told f.row);
  number_is = refl;
  plate = refl;
  cut = refl;
  corner = subst (λ (l : List Row). GoesOn (turned f.along) f.row l (inside f)) (sym none) (goes_inside f.along f);
}

-- the rows that name the piece, once those of one piece more are told
one_more : (told within : List Row) (number : ℕ) (r : Row) → is_number number r.parent ≡ true → rows_in number within ≡ [] → rows_in number ((told ++ r ∷ []) ++ within) ≡ rows_in number told ++ r ∷ []
one_more told within number r is none =
    let names : Row → Bool = λ s. is_number number s.parent in
    filter-append names (told ++ r ∷ []) within
    ∙ ap (λ (l : List Row). rows_in number (told ++ r ∷ []) ++ l) none
    ∙ append-nil (rows_in number (told ++ r ∷ []))
    ∙ filter-append names told (r ∷ [])
    ∙ ap (λ (l : List Row). rows_in number told ++ l) (rw is refl)

-- the pieces behind it
behind_inside : (told within : List Row) (number : ℕ) (whole : Row) (at : Area) (node size : ℕ) (sort : Sort) → IsInside told number whole at → rows_in number within ≡ [] →
    IsInside ((told ++ row_at at node size sort ∷ []) ++ within) number whole (behind at size)
behind_inside told within number whole at node size sort h none =
    let r : Row = row_at at node size sort in
    let is : is_number number r.parent ≡ true = ap (is_number number) h.parent ∙ own_number number in
    let Going : Along → List Row → Type 0 = λ a l. GoesOn a whole l (behind at size) in
    record {
      parent = parent_behind at at.along size ∙ h.parent;
      stands = get_kept (told ++ r ∷ []) within number whole (get_kept told (r ∷ []) number whole h.stands);
      number_is = h.number_is;
      plate = plate_behind at.along whole (rows_in number told) at size h.corner ∙ h.plate;
      cut = cut_behind at.along at size ∙ h.cut;
      corner = subst (Going (behind at size).along) (sym (one_more told within number r is none))
          (subst (λ (a : Along). Going a (rows_in number told ++ r ∷ [])) (sym (along_behind at at.along size))
          (goes_behind at.along whole (rows_in number told) at node size sort refl h.corner));
    }

-- how many rows are told behind a piece and those inside it
many_told : (told : List Row) (r : Row) (at : Area) (node : ℕ) (inner : Forest) → length told ≡ node → length ((told ++ r ∷ []) ++ rows (families at true (node + 1) inner)) ≡ node + 1 + count inner
many_told told r at node inner many =
    omega (
      arith,
      length-append (told ++ r ∷ []) (rows (families at true (node + 1) inner)),
      length-append told (r ∷ []),
      length-map (families at true (node + 1) inner) (λ (f : Family). f.row),
      length-families at true (node + 1) inner,
      many,
    )

inside_cornered : (b : Problem) (told : List Row) (number : ℕ) (whole : Row) (at : Area) (first : Bool) (node : ℕ) (forest : Forest) →
    IsInside told number whole at → length told ≡ node → NamesBelow node told → EachBefore (StandsInItsParent b) told (families at first node forest)
unfolding families
inside_cornered b told number whole at first node nothing h many named = tt
inside_cornered b told number whole at first node (piece size sort inner later) h many named =
    let f : Family = family_with at first (is_nothing later) node size sort (children_in inner) in
    let here : List Row = told ++ f.row ∷ [] in
    let next : ℕ = node + 1 + count inner in
    let within : List Family = families (inside f) true (node + 1) inner in
    let after : List Family = families (behind at size) false next later in
    let earlier : number < node = omega (arith, slice_get_within told number whole h.stands, many) in
    let parent : IsBelow node at.parent = λ n le. ap (is_number n) h.parent ∙ other number n (omega (arith, earlier, le)) in
    let told_here : NamesBelow node here = below_next node told f.row named parent in (
      one_cornered b told number whole at first (is_nothing later) node size sort inner h,
      before-append (StandsInItsParent b) here within after
          (inside_cornered b here node f.row (inside f) true (node + 1) inner (within_inside told f many (told_here node (omega arith))) (omega (arith, length-append told (f.row ∷ []), many)) (below_after node here told_here))
          (inside_cornered b (here ++ rows within) number whole (behind at size) false next later
          (behind_inside told (rows within) number whole at node size sort h (none_in number (inside f) true (node + 1) inner (other node number (omega (arith, earlier))) (omega (arith, earlier))))
          (many_told told f.row (inside f) node inner many) (below_later node here (inside f) inner told_here refl)),
    )
  where
    other : (m n : ℕ) → m ≢ n → is_number n (Some m) ≡ false
    other m n ne = grind (arith, nat_tests)

-- no piece of a plate is a plate
no_plates : (at : Area) (first : Bool) (node : ℕ) (forest : Forest) → 1 ≤ at.cut → plate_rows (rows (families at first node forest)) ≡ []
unfolding families
no_plates at first node nothing le = refl
no_plates at first node (piece size sort inner later) le =
    let f : Family = family_with at first (is_nothing later) node size sort (children_in inner) in
    let within : List Family = families (inside f) true (node + 1) inner in
    let after : List Family = families (behind at size) false (node + 1 + count inner) later in
    let is_plate : Row → Bool = λ r. r.cut == 0 in
    let test : (at.cut == 0) ≡ false = grind (arith, nat_tests) in
    rw (test, map-append (λ (g : Family). g.row) within after)
    (filter-append is_plate (rows within) (rows after)
    ∙ ap (λ (l : List Row). l ++ plate_rows (rows after)) (no_plates (inside f) true (node + 1) inner (omega arith))
    ∙ no_plates (behind at size) false (node + 1 + count inner) later (omega (arith, cut_behind at.along at size, le)))

-- the rows of the plates, once those of a plate and its pieces are told
one_plate_more : (told within : List Row) (r : Row) → r.cut ≡ 0 → plate_rows within ≡ [] → length (plate_rows ((told ++ r ∷ []) ++ within)) ≡ length (plate_rows told) + 1
one_plate_more told within r is none =
    let is_plate : Row → Bool = λ s. s.cut == 0 in
    let test : (r.cut == 0) ≡ true = grind (arith, nat_tests) in
    let one : plate_rows (r ∷ []) ≡ r ∷ [] = rw test refl in
    let all : plate_rows ((told ++ r ∷ []) ++ within) ≡ plate_rows told ++ r ∷ [] =
    filter-append is_plate (told ++ r ∷ []) within
    ∙ ap (λ (l : List Row). plate_rows (told ++ r ∷ []) ++ l) none
    ∙ append-nil (plate_rows (told ++ r ∷ []))
    ∙ filter-append is_plate told (r ∷ [])
    ∙ ap (λ (l : List Row). plate_rows told ++ l) one in
    omega (arith, ap length all, length-append (plate_rows told) (r ∷ []))

plates_cornered : (b : Problem) (told : List Row) (plate : ℕ) (first : Bool) (node : ℕ) (plan : Forest) → length told ≡ node → NamesBelow node told → plate ≡ length (plate_rows told) →
    EachBefore (StandsInItsParent b) told (families (plate_at b plate) first node (sized b plate plan))
unfolding families
plates_cornered b told plate first node nothing many named number = tt
plates_cornered b told plate first node (piece size sort inner later) many named number =
    let at : Area = plate_at b plate in
    let f : Family = family_with at first (is_nothing (sized b (plate + 1) later)) node (Width b plate) sort (children_in inner) in
    let here : List Row = told ++ f.row ∷ [] in
    let next : ℕ = node + 1 + count inner in
    let within : List Family = families (inside f) true (node + 1) inner in
    let after : List Family = families (plate_at b (plate + 1)) false next (sized b (plate + 1) later) in
    let told_here : NamesBelow node here = below_next node told f.row named (λ n le. refl) in
    let itself : IsPlate b told f.row = record { number = number; cut = refl; x = refl; y = refl; width = refl; height = refl } in (
      itself,
      before-append (StandsInItsParent b) here within after
          (inside_cornered b here node f.row (inside f) true (node + 1) inner (within_inside told f many (told_here node (omega arith))) (omega (arith, length-append told (f.row ∷ []), many)) (below_after node here told_here))
          (plates_cornered b (here ++ rows within) (plate + 1) false next later (many_told told f.row (inside f) node inner many) (below_later node here (inside f) inner told_here refl)
          (omega (arith, number, one_plate_more told (rows within) f.row refl (no_plates (inside f) true (node + 1) inner (omega arith))))),
    )

pub stand_in_their_parents : (b : Problem) (plan : Forest) (place : ℕ) (f : Family) → slice_get (families_of b plan) place ≡ Some f → StandsInItsParent b (take place (rows_of b plan)) f
stand_in_their_parents b plan place f is =
    at_place (StandsInItsParent b) [] (families_of b plan) place f (plates_cornered b [] 0 true 0 plan refl (λ n le. refl) refl) is
