-- A table that follows the sheet of a plan makes its pieces.
use Rattle.std.proofs.Common.{◌≡◌, ℕ, ◌+◌, ◌<◌, ◌≤◌, List, [], ◌∷◌, ◌++◌, map, Bool, true, false, refl, sym, ap, subst, ◌∙◌, append_assoc, append-nil, arith, Ok, All}
use Rattle.std.specs.Prelude.{◌==◌, ◌&&◌, ◌||◌, ◌-◌, nat_le, nat_lt, filter}
use Rattle.std.proofs.lemmas.Bool.Decides.{nat_tests}
use Rattle.std.proofs.lemmas.List.{map-append}
use Rattle.std.proofs.lemmas.List.Elements.{All-cons, All-head, All-nil, All-tail, filter-append}
use Rattle.glass_base.specs.Plates.{Width}
use Rattle.glass_base.specs.Problem.{Problem}
use Rattle.cut_model.specs.declared.family.Along.{Along}
use Rattle.cut_model.specs.declared.family.Area.{Area}
use Rattle.cut_model.specs.declared.family.Family.{Family}
use Rattle.cut_model.specs.declared.family.Row.{Row}
use Rattle.cut_model.specs.declared.family.Sort.{Sort}
use Rattle.cut_model.specs.Families.{behind, families, families_of, family_with, first_plate, height_at, inside, moved, row_at, side_along, turned, width_at}
use Rattle.cut_model.specs.Shape.{IsOfLevel, IsShaped}
use Rattle.cut_model.specs.Sized.{sized}
use Rattle.cut_model.specs.Tree.{Forest, nothing, piece, children_in, count, is_nothing, neighbour_count, total_size, type_number}
use Rattle.cut_model.proofs.Places.{plate_at}
use Rattle.cut_sheet.specs.declared.instr.Instr.{Instr}
use Rattle.cut_sheet.specs.declared.instr.Made.{Made}
use Rattle.cut_sheet.specs.declared.piece.Piece.{Piece}
use Rattle.cut_sheet.specs.Pieces.{is_upright}
use Rattle.cut_sheet.specs.Replays.{replayed, replayed_from}
use Rattle.cut_sheet.specs.Sheets.{CanBeCut, IsCuttable, finished, is_uncut, made_of, parted, parts_sheet, pieces_in, pieces_of, plates_sheet, sheet_in}
use Rattle.cut_sheet.specs.Table.{Table, bare, done, plate_piece}
use Rattle.cut_sheet.proofs.Makes.{Makes, makes_both, makes_none, makes_one}

-- a table
abbrev table : List Piece → ℕ → List Made → Table
table pile loaded made = record { pile = pile; loaded = loaded; made = made }

-- what is left of a piece of this level at the place of the next part
abbrev left_at : ℕ → Area → ℕ → Bool → Piece
left_at level at size begun = record {
  plate = at.plate;
  x = at.x;
  y = at.y;
  width = width_at at.along size at.width;
  height = height_at at.along size at.height;
  level = level;
  begun = begun;
}

-- the piece of a row, of which nothing was cut off
abbrev lying : Row → Piece
lying r = record { plate = r.plate; x = r.x; y = r.y; width = r.width; height = r.height; level = r.cut; begun = false }

-- the pieces that these families are to make
abbrev made_in : List Family → List Made
made_in fs = pieces_in (map (λ f. f.row) fs)

made_in-append : (xs ys : List Family) → made_in (xs ++ ys) ≡ made_in xs ++ made_in ys
made_in-append xs ys =
    ap pieces_in (map-append (λ (f : Family). f.row) xs ys)
    ∙ ap (λ (rows : List Row). map made_of rows) (filter-append is_uncut (map (λ (f : Family). f.row) xs) (map (λ (f : Family). f.row) ys))
    ∙ map-append made_of (filter is_uncut (map (λ (f : Family). f.row) xs)) (filter is_uncut (map (λ (f : Family). f.row) ys))

-- parts of a piece of this level lie so
abbrev LieSo : ℕ → Along → Type 0
LieSo level Along.Plates = ⊥
LieSo level Along.X = is_upright level ≡ true
LieSo level Along.Y = is_upright level ≡ false

next_lies : (level : ℕ) (along : Along) → LieSo level along → LieSo (level + 1) (turned along)
next_lies level Along.Plates lies = absurd lies
next_lies level Along.X lies = grind (arith, nat_tests)
next_lies level Along.Y lies = grind (arith, nat_tests)

-- the family of a piece
abbrev pub family_at : Area → Bool → ℕ → ℕ → Sort → Forest → Forest → Family
family_at at first node size sort inner later = family_with at first (is_nothing later) node size sort (children_in inner)

abbrev pub below_of : Area → Bool → ℕ → ℕ → Sort → Forest → Forest → List Family
below_of at first node size sort inner later = families (inside (family_at at first node size sort inner later)) true (node + 1) inner

abbrev pub after_of : Area → ℕ → ℕ → Forest → Forest → List Family
after_of at node size inner later = families (behind at size) false (node + 1 + count inner) later

pub families_piece : (at : Area) (first : Bool) (node size : ℕ) (sort : Sort) (inner later : Forest) →
    families at first node (piece size sort inner later) ≡ family_at at first node size sort inner later ∷ (below_of at first node size sort inner later ++ after_of at node size inner later)
unfolding families
families_piece at first node size sort inner later = refl

pub families_nothing : (at : Area) (first : Bool) (node : ℕ) → families at first node nothing ≡ []
unfolding families
families_nothing at first node = refl

-- what holds of a piece, of those inside it and of those behind it
pub record HoldOf (P : Family → Type 0) (at : Area) (first : Bool) (node size : ℕ) (sort : Sort) (inner later : Forest) : Type 0 where
  pub here : P (family_at at first node size sort inner later)
  pub below : All P (below_of at first node size sort inner later)
  pub after : All P (after_of at node size inner later)

all_both : {X : Type 0} (P : X → Type 0) (xs ys : List X) → All P (xs ++ ys) → All P xs × All P ys
all_both P [] ys h = (All-nil P, h)
all_both P (x ∷ xs) ys h =
    let rest = all_both P xs ys (All-tail P x (xs ++ ys) h) in
    (All-cons P x xs (All-head P x (xs ++ ys) h) rest.0, rest.1)

pub hold_of : (P : Family → Type 0) (at : Area) (first : Bool) (node size : ℕ) (sort : Sort) (inner later : Forest) →
    All P (families at first node (piece size sort inner later)) → HoldOf P at first node size sort inner later
unfolding families
hold_of P at first node size sort inner later h =
    let f : Family = family_at at first node size sort inner later in
    let below : List Family = below_of at first node size sort inner later in
    let after : List Family = after_of at node size inner later in
    let rest = all_both P below after (All-tail P f (below ++ after) h) in
    record { here = All-head P f (below ++ after) h; below = rest.0; after = rest.1 }

-- the last part is all that is left
whole_step : (b : Problem) (level : ℕ) (at : Area) (node size : ℕ) (sort : Sort) (begun : Bool) (under : List Piece) (loaded : ℕ) (made : List Made) → at.cut ≡ level + 1 → level ≤ 3 →
    done b (table (left_at level at size begun ∷ under) loaded made) Instr.Whole ≡ Ok (table (lying (row_at at node size sort) ∷ under) loaded made)
whole_step b level at node size sort begun under loaded made cut shallow =
    let isnt : (level == 4) ≡ false = grind (arith, nat_tests) in
    rw (isnt, cut) refl

-- another part is cut off
off_step : (b : Problem) (level : ℕ) (at : Area) (along : Along) (node size more : ℕ) (sort : Sort) (begun : Bool) (under : List Piece) (loaded : ℕ) (made : List Made) → at.along ≡ along → LieSo level along →
    at.cut ≡ level + 1 → level ≤ 3 → 0 < size → 0 < more →
    done b (table (left_at level at (size + more) begun ∷ under) loaded made) (Instr.Off size)
    ≡ Ok (table (lying (row_at at node size sort) ∷ left_at level (moved along at size) more true ∷ under) loaded made)
off_step b level at Along.Plates node size more sort begun under loaded made is lies cut shallow some some_more = absurd lies
off_step b level at Along.X node size more sort begun under loaded made is lies cut shallow some some_more =
    let isnt : (level == 4) ≡ false = grind (arith, nat_tests) in
    let fits : ((size == 0) || nat_le (size + more) size) ≡ false = grind (arith, nat_tests) in
    let left : size + more - size ≡ more = omega arith in
    rw (is, isnt, lies, fits, left, cut) refl
off_step b level at Along.Y node size more sort begun under loaded made is lies cut shallow some some_more =
    let isnt : (level == 4) ≡ false = grind (arith, nat_tests) in
    let fits : ((size == 0) || nat_le (size + more) size) ≡ false = grind (arith, nat_tests) in
    let left : size + more - size ≡ more = omega arith in
    rw (is, isnt, lies, fits, left, cut) refl

-- a piece that is not cut leaves the table
done_step : (b : Problem) (level : ℕ) (r : Row) (under : List Piece) (loaded : ℕ) (made : List Made) → r.cut ≡ level + 1 →
    done b (table (lying r ∷ under) loaded made) (Instr.Done r.kind) ≡ Ok (table under loaded (made ++ made_of r ∷ []))
done_step b level r under loaded made cut =
    let isnt : (r.cut == 0) ≡ false = grind (arith, nat_tests) in
    rw isnt refl

-- the piece of a row is all that is left of it, for its own parts
lying_left : (level : ℕ) (along : Along) (at : Area) (f : Family) (total : ℕ) → f.along ≡ along → LieSo level along → f.row.cut ≡ level + 1 → total ≡ side_along (turned along) f.row →
    lying f.row ≡ left_at (level + 1) (inside f) total false
lying_left level Along.Plates at f total is lies cut sum = absurd lies
lying_left level Along.X at f total is lies cut sum = rw (is, cut, sum) refl
lying_left level Along.Y at f total is lies cut sum = rw (is, cut, sum) refl

-- what is done with a piece that lies on the table leaves what is under it, and its own pieces are made
abbrev MakesPiece : Problem → Area → Bool → ℕ → ℕ → Sort → Forest → Forest → Type 0
MakesPiece b at first node size sort inner later =
    (under : List Piece) (loaded : ℕ) (made : List Made) →
    Makes b (table (lying (row_at at node size sort) ∷ under) loaded made) (finished sort (parts_sheet inner))
    (table under loaded (made ++ made_in (family_at at first node size sort inner later ∷ below_of at first node size sort inner later)))

-- and so it is with all parts of a piece
abbrev MakesParts : Problem → ℕ → Area → Bool → ℕ → Forest → Type 0
MakesParts b level at first node forest =
    (begun : Bool) (under : List Piece) (loaded : ℕ) (made : List Made) →
    Makes b (table (left_at level at (total_size forest) begun ∷ under) loaded made) (parts_sheet forest)
    (table under loaded (made ++ made_in (families at first node forest)))

-- a piece that is not cut
uncut_piece : (b : Problem) (level : ℕ) (at : Area) (first : Bool) (node size : ℕ) (sort : Sort) (inner later : Forest) → at.cut ≡ level + 1 → inner ≡ nothing →
    finished sort (parts_sheet inner) ≡ Instr.Done (type_number sort) ∷ [] →
    made_in (family_at at first node size sort inner later ∷ []) ≡ made_of (row_at at node size sort) ∷ [] → MakesPiece b at first node size sort inner later
uncut_piece b level at first node size sort inner later cut none sheet alone under loaded made =
    let f : Family = family_at at first node size sort inner later in
    let below : below_of at first node size sort inner later ≡ [] = ap (λ (forest : Forest). families (inside f) true (node + 1) forest) none ∙ families_nothing (inside f) true (node + 1) in
    let same : made ++ made_of (row_at at node size sort) ∷ [] ≡ made ++ made_in (f ∷ below_of at first node size sort inner later) =
    ap (λ (ms : List Made). made ++ ms) (sym (ap (λ (fs : List Family). made_in (f ∷ fs)) below ∙ alone)) in
    let old : Table = table (lying (row_at at node size sort) ∷ under) loaded made in
    subst (λ (s : List Instr). Makes b old s (table under loaded (made ++ made_in (f ∷ below_of at first node size sort inner later)))) (sym sheet)
    (subst (λ (ms : List Made). Makes b old (Instr.Done (type_number sort) ∷ []) (table under loaded ms)) same
    (makes_one b old (table under loaded (made ++ made_of (row_at at node size sort) ∷ [])) (Instr.Done (type_number sort)) (done_step b level (row_at at node size sort) under loaded made cut)))

-- a piece that is cut
cut_piece : (b : Problem) (level : ℕ) (at : Area) (first : Bool) (node size : ℕ) (inner later : Forest) → at.cut ≡ level + 1 → LieSo level at.along →
    CanBeCut (family_at at first node size Sort.Branch inner later) → MakesParts b (level + 1) (inside (family_at at first node size Sort.Branch inner later)) true (node + 1) inner →
    MakesPiece b at first node size Sort.Branch inner later
cut_piece b level at first node size inner later cut lies can parts under loaded made =
    let f : Family = family_at at first node size Sort.Branch inner later in
    subst (λ (p : Piece). Makes b (table (p ∷ under) loaded made) (parts_sheet inner) (table under loaded (made ++ made_in (below_of at first node size Sort.Branch inner later))))
    (sym (lying_left level at.along at f (total_size inner) refl lies cut can.sums.1)) (parts false under loaded made)

-- a piece of any sort
any_piece : (b : Problem) (level : ℕ) (at : Area) (first : Bool) (node size : ℕ) (sort : Sort) (inner later : Forest) → at.cut ≡ level + 1 → LieSo level at.along → IsOfLevel (level + 1) sort inner →
    CanBeCut (family_at at first node size sort inner later) →
    (level + 1 ≤ 3 → is_nothing inner ≡ false → MakesParts b (level + 1) (inside (family_at at first node size sort inner later)) true (node + 1) inner) →
    MakesPiece b at first node size sort inner later
any_piece b level at first node size (Sort.Item number) inner later cut lies is can parts = uncut_piece b level at first node size (Sort.Item number) inner later cut is.empty refl refl
any_piece b level at first node size Sort.Waste inner later cut lies is can parts = uncut_piece b level at first node size Sort.Waste inner later cut is.empty refl refl
any_piece b level at first node size Sort.Residual inner later cut lies is can parts = uncut_piece b level at first node size Sort.Residual inner later cut is.empty refl refl
any_piece b level at first node size Sort.Branch inner later cut lies is can parts =
    cut_piece b level at first node size inner later cut lies can (parts is.shallow can.sums.0)

-- the place behind a piece is one for parts of the same level
pub behind_cut : (along : Along) (at : Area) (size : ℕ) → (moved along at size).cut ≡ at.cut
behind_cut Along.Plates at size = refl
behind_cut Along.X at size = refl
behind_cut Along.Y at size = refl

pub behind_along : (along : Along) (at : Area) (size : ℕ) → (moved along at size).along ≡ at.along
behind_along Along.Plates at size = refl
behind_along Along.X at size = refl
behind_along Along.Y at size = refl

-- a part has a size
some_size : (level : ℕ) (along : Along) (at : Area) (size : ℕ) → at.along ≡ along → LieSo level along → 0 < width_at at.along size at.width → 0 < height_at at.along size at.height → 0 < size
some_size level Along.Plates at size is lies width height = absurd lies
some_size level Along.X at size is lies width height = subst (λ (a : Along). 0 < width_at a size at.width) is width
some_size level Along.Y at size is lies width height = subst (λ (a : Along). 0 < height_at a size at.height) is height

-- so have all parts together
some_total : (level : ℕ) (at : Area) (first : Bool) (node : ℕ) (forest : Forest) → LieSo level at.along → is_nothing forest ≡ false → All CanBeCut (families at first node forest) → 0 < total_size forest
some_total level at first node nothing lies some can = cc
some_total level at first node (piece size sort inner later) lies some can =
    let h = (hold_of CanBeCut at first node size sort inner later can).here in
    omega (arith, some_size level at.along at size refl lies h.width h.height)

-- a last part, taken as a whole
last_part : (b : Problem) (level : ℕ) (at : Area) (first : Bool) (node size : ℕ) (sort : Sort) (inner : Forest) → at.cut ≡ level + 1 → level ≤ 3 →
    MakesPiece b at first node size sort inner nothing → MakesParts b level at first node (piece size sort inner nothing)
last_part b level at first node size sort inner cut shallow made_piece begun under loaded made =
    let f : Family = family_at at first node size sort inner nothing in
    let below : List Family = below_of at first node size sort inner nothing in
    let all : size + 0 ≡ size = omega arith in
    let lies : Table = table (lying (row_at at node size sort) ∷ under) loaded made in
    let new : Table = table under loaded (made ++ made_in (f ∷ below)) in
    let start : Makes b (table (left_at level at size begun ∷ under) loaded made) (Instr.Whole ∷ []) lies =
    makes_one b _ lies Instr.Whole (whole_step b level at node size sort begun under loaded made cut shallow) in
    let rest : Makes b lies (finished sort (parts_sheet inner) ++ []) new =
    makes_both b lies new new (finished sort (parts_sheet inner)) [] (made_piece under loaded made) (makes_none b new) in
    let families_are : f ∷ below ≡ families at first node (piece size sort inner nothing) =
    sym (families_piece at first node size sort inner nothing ∙ ap (λ (fs : List Family). f ∷ (below ++ fs)) (families_nothing (behind at size) false (node + 1 + count inner)) ∙ ap (λ (fs : List Family). f ∷ fs) (append-nil below)) in
    subst (λ (fs : List Family). Makes b (table (left_at level at (size + 0) begun ∷ under) loaded made) (parts_sheet (piece size sort inner nothing)) (table under loaded (made ++ made_in fs))) families_are
    (subst (λ (n : ℕ). Makes b (table (left_at level at n begun ∷ under) loaded made) (parts_sheet (piece size sort inner nothing)) new) (sym all)
    (makes_both b _ lies new (Instr.Whole ∷ []) (finished sort (parts_sheet inner) ++ []) start rest))

-- a part that is cut off, and those behind it
next_part : (b : Problem) (level : ℕ) (at : Area) (first : Bool) (node size : ℕ) (sort : Sort) (inner later : Forest) → at.cut ≡ level + 1 → LieSo level at.along → level ≤ 3 → is_nothing later ≡ false →
    0 < size → 0 < total_size later → MakesPiece b at first node size sort inner later → MakesParts b level (behind at size) false (node + 1 + count inner) later →
    MakesParts b level at first node (piece size sort inner later)
next_part b level at first node size sort inner later cut lies shallow some some_here some_later made_piece made_later begun under loaded made =
    let f : Family = family_at at first node size sort inner later in
    let below : List Family = below_of at first node size sort inner later in
    let after : List Family = after_of at node size inner later in
    let rest : Piece = left_at level (behind at size) (total_size later) true in
    let first_table : Table = table (left_at level at (size + total_size later) begun ∷ under) loaded made in
    let cut_table : Table = table (lying (row_at at node size sort) ∷ rest ∷ under) loaded made in
    let piece_table : Table = table (rest ∷ under) loaded (made ++ made_in (f ∷ below)) in
    let last_table : Table = table under loaded ((made ++ made_in (f ∷ below)) ++ made_in after) in
    let start : Makes b first_table (Instr.Off size ∷ []) cut_table =
    makes_one b first_table cut_table (Instr.Off size) (off_step b level at at.along node size (total_size later) sort begun under loaded made refl lies cut shallow some_here some_later) in
    let inside_it : Makes b cut_table (finished sort (parts_sheet inner)) piece_table = made_piece (rest ∷ under) loaded made in
    let behind_it : Makes b piece_table (parts_sheet later) last_table = made_later true under loaded (made ++ made_in (f ∷ below)) in
    let whole : Makes b first_table (Instr.Off size ∷ (finished sort (parts_sheet inner) ++ parts_sheet later)) last_table =
    makes_both b first_table cut_table last_table (Instr.Off size ∷ []) (finished sort (parts_sheet inner) ++ parts_sheet later) start
    (makes_both b cut_table piece_table last_table (finished sort (parts_sheet inner)) (parts_sheet later) inside_it behind_it) in
    let made_is : (made ++ made_in (f ∷ below)) ++ made_in after ≡ made ++ made_in (families at first node (piece size sort inner later)) =
    append_assoc made (made_in (f ∷ below)) (made_in after)
    ∙ ap (λ (ms : List Made). made ++ ms) (sym (ap made_in (families_piece at first node size sort inner later) ∙ made_in-append (f ∷ below) after)) in
    let instr : Instr.Off size ≡ parted (is_nothing later) size = ap (λ (last : Bool). parted last size) (sym some) in
    subst (λ (ms : List Made). Makes b first_table (parts_sheet (piece size sort inner later)) (table under loaded ms)) made_is
    (subst (λ (i : Instr). Makes b first_table (i ∷ (finished sort (parts_sheet inner) ++ parts_sheet later)) last_table) instr whole)

-- a part, whether or not others are behind it
one_part : (b : Problem) (level : ℕ) (at : Area) (first : Bool) (node size : ℕ) (sort : Sort) (inner later : Forest) → at.cut ≡ level + 1 → LieSo level at.along → level ≤ 3 →
    All CanBeCut (families at first node (piece size sort inner later)) → MakesPiece b at first node size sort inner later →
    (is_nothing later ≡ false → MakesParts b level (behind at size) false (node + 1 + count inner) later) → MakesParts b level at first node (piece size sort inner later)
one_part b level at first node size sort inner nothing cut lies shallow can made_piece made_later = last_part b level at first node size sort inner cut shallow made_piece
one_part b level at first node size sort inner (piece size2 sort2 inner2 later2) cut lies shallow can made_piece made_later =
    let later : Forest = piece size2 sort2 inner2 later2 in
    let h = hold_of CanBeCut at first node size sort inner later can in
    let lies_behind : LieSo level (behind at size).along = subst (LieSo level) (sym (behind_along at.along at size)) lies in
    next_part b level at first node size sort inner later cut lies shallow refl
    (some_size level at.along at size refl lies h.here.width h.here.height)
    (some_total level (behind at size) false (node + 1 + count inner) later lies_behind refl h.after) made_piece (made_later refl)

-- the parts of a piece are cut off one after the other, and what each is cut into before the next one
parts_made : (b : Problem) (level : ℕ) (at : Area) (first : Bool) (node : ℕ) (forest : Forest) → at.cut ≡ level + 1 → LieSo level at.along → level ≤ 3 → is_nothing forest ≡ false →
    IsShaped (level + 1) forest → All CanBeCut (families at first node forest) → MakesParts b level at first node forest
parts_made b level at first node nothing cut lies shallow some shape can = cc
parts_made b level at first node (piece size sort inner later) cut lies shallow some shape can =
    let h = hold_of CanBeCut at first node size sort inner later can in
    let lies_behind : LieSo level (behind at size).along = subst (LieSo level) (sym (behind_along at.along at size)) lies in
    one_part b level at first node size sort inner later cut lies shallow can
    (any_piece b level at first node size sort inner later cut lies shape.1 h.here
    (λ deep some_inner. parts_made b (level + 1) (inside (family_at at first node size sort inner later)) true (node + 1) inner (ap (λ n. n + 1) cut) (next_lies level at.along lies) deep some_inner shape.2 h.below))
    (λ some_later. parts_made b level (behind at size) false (node + 1 + count inner) later (behind_cut at.along at size ∙ cut) lies_behind shallow some_later shape.3 h.after)

-- the family of a plate
abbrev plate_family : Problem → ℕ → Bool → ℕ → Forest → Forest → Family
plate_family b plate first node strips later = family_at (plate_at b plate) first node (Width b plate) Sort.Branch strips later

-- a plate is loaded where it is the next one, and one of those that there are
load_step : (b : Problem) (plate : ℕ) (made : List Made) → plate < b.params.plates →
    done b (table [] plate made) (Instr.Load plate) ≡ Ok (table (plate_piece b plate ∷ []) (plate + 1) made)
load_step b plate made few =
    let next : ((plate == plate) && nat_lt plate b.params.plates) ≡ true = grind (arith, nat_tests) in
    rw next refl

-- a plate and the plates behind it
next_plate : (b : Problem) (plate : ℕ) (first : Bool) (node : ℕ) (strips later rest : Forest) (made : List Made) (loaded : ℕ) → plate < b.params.plates →
    CanBeCut (plate_family b plate first node strips later) →
    MakesParts b 0 (inside (plate_family b plate first node strips later)) true (node + 1) strips →
    Makes b (table [] (plate + 1) (made ++ made_in (below_of (plate_at b plate) first node (Width b plate) Sort.Branch strips later))) (plates_sheet (plate + 1) rest)
    (table [] loaded ((made ++ made_in (below_of (plate_at b plate) first node (Width b plate) Sort.Branch strips later)) ++ made_in (after_of (plate_at b plate) node (Width b plate) strips later))) →
    Makes b (table [] plate made) (Instr.Load plate ∷ (parts_sheet strips ++ plates_sheet (plate + 1) rest))
    (table [] loaded (made ++ made_in (families (plate_at b plate) first node (piece (Width b plate) Sort.Branch strips later))))
next_plate b plate first node strips later rest made loaded few can made_parts made_later =
    let f : Family = plate_family b plate first node strips later in
    let below : List Family = below_of (plate_at b plate) first node (Width b plate) Sort.Branch strips later in
    let after : List Family = after_of (plate_at b plate) node (Width b plate) strips later in
    let old : Table = table [] plate made in
    let full : Table = table (plate_piece b plate ∷ []) (plate + 1) made in
    let empty : Table = table [] (plate + 1) (made ++ made_in below) in
    let new : Table = table [] loaded ((made ++ made_in below) ++ made_in after) in
    let total : total_size strips ≡ Width b plate = can.sums.1 in
    let parts : Makes b full (parts_sheet strips) empty =
    subst (λ (n : ℕ). Makes b (table (left_at 0 (inside f) n false ∷ []) (plate + 1) made) (parts_sheet strips) empty) total (made_parts false [] (plate + 1) made) in
    let whole : Makes b old (Instr.Load plate ∷ (parts_sheet strips ++ plates_sheet (plate + 1) rest)) new =
    makes_both b old full new (Instr.Load plate ∷ []) (parts_sheet strips ++ plates_sheet (plate + 1) rest) (makes_one b old full (Instr.Load plate) (load_step b plate made few))
    (makes_both b full empty new (parts_sheet strips) (plates_sheet (plate + 1) rest) parts made_later) in
    let made_is : (made ++ made_in below) ++ made_in after ≡ made ++ made_in (families (plate_at b plate) first node (piece (Width b plate) Sort.Branch strips later)) =
    append_assoc made (made_in below) (made_in after)
    ∙ ap (λ (ms : List Made). made ++ ms) (sym (ap made_in (families_piece (plate_at b plate) first node (Width b plate) Sort.Branch strips later) ∙ made_in-append (f ∷ below) after)) in
    subst (λ (ms : List Made). Makes b old (Instr.Load plate ∷ (parts_sheet strips ++ plates_sheet (plate + 1) rest)) (table [] loaded ms)) made_is whole

-- the plates from this number on
plates_made : (b : Problem) (plate : ℕ) (first : Bool) (node : ℕ) (plan : Forest) (made : List Made) → plate + neighbour_count plan ≤ b.params.plates → IsShaped 0 plan →
    All CanBeCut (families (plate_at b plate) first node (sized b plate plan)) →
    Makes b (table [] plate made) (plates_sheet plate plan) (table [] (plate + neighbour_count plan) (made ++ made_in (families (plate_at b plate) first node (sized b plate plan))))
plates_made b plate first node nothing made few shape can =
    let none : made ≡ made ++ made_in (families (plate_at b plate) first node nothing) =
    sym (ap (λ (fs : List Family). made ++ made_in fs) (families_nothing (plate_at b plate) first node) ∙ append-nil made) in
    let same : plate ≡ plate + 0 = omega arith in
    subst (λ (n : ℕ). Makes b (table [] plate made) [] (table [] n (made ++ made_in (families (plate_at b plate) first node nothing)))) same
    (subst (λ (ms : List Made). Makes b (table [] plate made) [] (table [] plate ms)) none (makes_none b (table [] plate made)))
plates_made b plate first node (piece size (Sort.Item number) strips later) made few shape can = absurd (let below = shape.1.below in omega arith)
plates_made b plate first node (piece size Sort.Waste strips later) made few shape can = absurd (let below = shape.1.below in omega arith)
plates_made b plate first node (piece size Sort.Residual strips later) made few shape can = absurd (let strip = shape.1.strip in omega arith)
plates_made b plate first node (piece size Sort.Branch strips later) made few shape can =
    let sized_later : Forest = sized b (plate + 1) later in
    let h = hold_of CanBeCut (plate_at b plate) first node (Width b plate) Sort.Branch strips sized_later can in
    let f : Family = plate_family b plate first node strips sized_later in
    let some : is_nothing strips ≡ false = h.here.sums.0 in
    let made_parts = parts_made b 0 (inside f) true (node + 1) strips refl refl (omega arith) some shape.2 h.below in
    let below : List Family = below_of (plate_at b plate) first node (Width b plate) Sort.Branch strips sized_later in
    let count_is : plate + 1 + neighbour_count later ≡ plate + (1 + neighbour_count later) = omega arith in
    let made_later = plates_made b (plate + 1) false (node + 1 + count strips) later (made ++ made_in below) (omega arith) shape.3 h.after in
    let goes = next_plate b plate first node strips sized_later later made (plate + 1 + neighbour_count later) (omega arith) h.here made_parts made_later in
    subst (λ (n : ℕ). Makes b (table [] plate made) (plates_sheet plate (piece size Sort.Branch strips later)) (table [] n (made ++ made_in (families (plate_at b plate) first node (sized b plate (piece size Sort.Branch strips later)))))) count_is goes

-- a table that follows the sheet of a plan is never stuck, and makes its pieces
pub sheet_made : (b : Problem) (plan : Forest) → IsShaped 0 plan → IsCuttable b plan → replayed b (sheet_in plan) ≡ Ok (pieces_of b plan)
sheet_made b plan shape can =
    let goes = (plates_made b 0 true 0 plan [] (omega (arith, can.few)) shape can.pieces).goes 1 [] in
    ap (λ (s : List Instr). replayed_from b 1 bare s) (sym (append-nil (sheet_in plan))) ∙ goes.1
