-- No glass is lost at the table: what lies on it and what left it make up the plates that were loaded.
use Rattle.std.proofs.Common.{◌≡◌, ℕ, zero, suc, ◌+◌, ◌*◌, ◌<◌, ◌≤◌, ◌==◌, ◌||◌, ◌&&◌, nat_lt, nat_le, List, [], ◌∷◌, ◌++◌, length, take, get_or, Bool, true, false, cond, refl, sym, ap, subst, ◌∙◌, arith, mul-le-mul, Ok, Err, ◌^◌, IfOk}
use Rattle.std.specs.Prelude.{ℤ, pos, negsuc, ◌-◌, Result}
use Rattle.std.specs.List.{sum_by}
use Rattle.std.proofs.lemmas.Bool.Decides.{nat_tests}
use Rattle.std.proofs.lemmas.List.Sums.{sum_by-append, sum_by-cons, sum_by_more_le_part}
use Rattle.glass_base.specs.Plates.{Before, Width}
use Rattle.glass_base.specs.Problem.{Problem, IsProblem}
use Rattle.glass_base.specs.Run.{Listed}
use Rattle.glass_base.proofs.PlateLemmas.{before-next, before-zero, before_within}
use Rattle.cut_model.specs.declared.family.Row.{Row}
use Rattle.cut_model.specs.Families.{rows_of}
use Rattle.cut_model.specs.Loss.{loss_of, waste_of}
use Rattle.cut_model.specs.Tree.{Forest}
use Rattle.cut_sheet.specs.declared.instr.Instr.{Instr}
use Rattle.cut_sheet.specs.declared.instr.Made.{Made}
use Rattle.cut_sheet.specs.declared.instr.Stuck.{Stuck}
use Rattle.cut_sheet.specs.declared.piece.Piece.{Piece}
use Rattle.cut_sheet.specs.declared.why.Why.{Why}
use Rattle.cut_sheet.specs.Areas.{MakesUp, area, area_wasted, made_area, waste_area, wasted}
use Rattle.cut_sheet.specs.Pieces.{cut_off, deeper, is_upright, made_as, side_cut, without}
use Rattle.cut_sheet.specs.Replays.{ended, made_items, replayed, replayed_from, stuck}
use Rattle.cut_sheet.specs.Sheets.{made_of, pieces_in, pieces_of}
use Rattle.cut_sheet.specs.Table.{Table, bare, done, load, off, plate_piece, take_off, whole}
use Rattle.cut_sheet.proofs.Makes.{behind_step, step_is}

-- the area of a pile
abbrev pile_area : List Piece → ℕ
pile_area pile = sum_by (λ p. p.width * p.height) pile

-- the area of a pile by its top piece
pile_cons : (p : Piece) (pile : List Piece) → pile_area (p ∷ pile) ≡ p.width * p.height + pile_area pile
pile_cons p pile = sum_by-cons (λ (q : Piece). q.width * q.height) p pile

-- what lies in this pile and what left the table make up the plates that were loaded
record IsBalanced (b : Problem) (pile : List Piece) (loaded : ℕ) (made : List Made) : Type 0 where
  few : loaded ≤ b.params.plates
  glass : pile_area pile + made_area made ≡ b.params.height * Before b loaded

-- a test that was passed
passed : {A : Type 0} (test : Bool) (why : Why) (step : Result A Why) (next : A) → cond test (Err why) step ≡ Ok next → (test ≡ false) × (step ≡ Ok next)
passed true why step next is = absurd cc
passed false why step next is = (refl, is)

allowed : {A : Type 0} (test : Bool) (why : Why) (step : Result A Why) (next : A) → cond test step (Err why) ≡ Ok next → (test ≡ true) × (step ≡ Ok next)
allowed true why step next is = (refl, is)
allowed false why step next is = absurd cc

stepped : {A E : Type 0} (a b : A) → (let x : Result A E = Ok a in x) ≡ Ok b → a ≡ b
stepped a b is = cc

-- a piece is what is cut off it and what is left
parts_area : (size : ℕ) (p : Piece) → size ≤ side_cut p → (cut_off size p).width * (cut_off size p).height + (without size p).width * (without size p).height ≡ p.width * p.height
parts_area size p few = by (is_upright p.level) few
  where
    by : (upright : Bool) → size ≤ cond upright p.width p.height →
        (cond upright (record p { width = size; level = p.level + 1; begun = false }) (record p { height = size; level = p.level + 1; begun = false })).width
        * (cond upright (record p { width = size; level = p.level + 1; begun = false }) (record p { height = size; level = p.level + 1; begun = false })).height
        + (cond upright (record p { x = p.x + size; width = p.width - size; begun = true }) (record p { y = p.y + size; height = p.height - size; begun = true })).width
        * (cond upright (record p { x = p.x + size; width = p.width - size; begun = true }) (record p { y = p.y + size; height = p.height - size; begun = true })).height
        ≡ p.width * p.height
    by true few = let all : p.width ≡ size + (p.width - size) = omega arith in omega (arith, ap (λ n. n * p.height) all)
    by false few = let all : p.height ≡ size + (p.height - size) = omega arith in omega (arith, ap (λ n. p.width * n) all)

load_balanced : (b : Problem) (plate : ℕ) (t next : Table) (pile : List Piece) → load b plate t pile ≡ Ok next → IsBalanced b pile t.loaded t.made → IsBalanced b next.pile next.loaded next.made
load_balanced b plate t next (p ∷ pile) is h = absurd cc
load_balanced b plate t next [] is h =
    let test = allowed ((plate == t.loaded) && nat_lt plate b.params.plates) Why.Plate _ next is in
    let same : plate ≡ t.loaded = grind (arith, nat_tests, test.0) in
    let few : plate < b.params.plates = grind (arith, nat_tests, test.0) in
    let glass = ap (λ n. b.params.height * n) (before-next b t.loaded) in
    let width = ap (λ n. Width b n * b.params.height) same in
    subst (λ (u : Table). IsBalanced b u.pile u.loaded u.made) (stepped _ next test.1)
    (record { few = omega arith; glass = omega (arith, h.glass, glass, width, pile_cons (plate_piece b plate) []) })

off_balanced : (b : Problem) (size : ℕ) (t next : Table) (pile : List Piece) → off size t pile ≡ Ok next → IsBalanced b pile t.loaded t.made → IsBalanced b next.pile next.loaded next.made
off_balanced b size t next [] is h = absurd cc
off_balanced b size t next (top ∷ under) is h =
    let deep = passed (top.level == 4) Why.Deep _ next is in
    let test = passed ((size == 0) || nat_le (side_cut top) size) Why.Size _ next deep.1 in
    let few : size ≤ side_cut top = grind (arith, nat_tests, test.0) in
    subst (λ (u : Table). IsBalanced b u.pile u.loaded u.made) (stepped _ next test.1)
    (record {
      few = h.few;
      glass = omega (arith, h.glass, parts_area size top few, pile_cons top under, pile_cons (cut_off size top) (without size top ∷ under), pile_cons (without size top) under);
    })

whole_balanced : (b : Problem) (t next : Table) (pile : List Piece) → whole t pile ≡ Ok next → IsBalanced b pile t.loaded t.made → IsBalanced b next.pile next.loaded next.made
whole_balanced b t next [] is h = absurd cc
whole_balanced b t next (top ∷ under) is h =
    let deep = passed (top.level == 4) Why.Deep _ next is in
    subst (λ (u : Table). IsBalanced b u.pile u.loaded u.made) (stepped _ next deep.1)
    (record { few = h.few; glass = omega (arith, h.glass, pile_cons top under, pile_cons (deeper top) under) })

take_balanced : (b : Problem) (kind : ℤ) (t next : Table) (pile : List Piece) → take_off kind t pile ≡ Ok next → IsBalanced b pile t.loaded t.made → IsBalanced b next.pile next.loaded next.made
take_balanced b kind t next [] is h = absurd cc
take_balanced b kind t next (top ∷ under) is h =
    let test = passed ((top.level == 0) || top.begun) Why.Begun _ next is in
    subst (λ (u : Table). IsBalanced b u.pile u.loaded u.made) (stepped _ next test.1)
    (record { few = h.few; glass = omega (arith, h.glass, pile_cons top under, sum_by-append area t.made (made_as kind top ∷ []), sum_by-cons area (made_as kind top) []) })

step_balanced : (b : Problem) (t next : Table) (instr : Instr) → done b t instr ≡ Ok next → IsBalanced b t.pile t.loaded t.made → IsBalanced b next.pile next.loaded next.made
step_balanced b t next (Instr.Load plate) is h = load_balanced b plate t next t.pile is h
step_balanced b t next (Instr.Off size) is h = off_balanced b size t next t.pile is h
step_balanced b t next Instr.Whole is h = whole_balanced b t next t.pile is h
step_balanced b t next (Instr.Done kind) is h = take_balanced b kind t next t.pile is h

ended_balanced : (b : Problem) (lines loaded : ℕ) (out made : List Made) (pile : List Piece) → ended lines out pile ≡ Ok made → IsBalanced b pile loaded out → MakesUp b made
ended_balanced b lines loaded out made (p ∷ pile) is h = absurd cc
ended_balanced b lines loaded out made [] is h = subst (MakesUp b) (stepped out made is) (record { plates = loaded; few = h.few; glass = omega (arith, h.glass) })

from_balanced : (b : Problem) (lines : ℕ) (t : Table) (sheet : List Instr) (made : List Made) → replayed_from b lines t sheet ≡ Ok made → IsBalanced b t.pile t.loaded t.made → MakesUp b made
from_balanced b lines t [] made is h = ended_balanced b lines t.loaded t.made made t.pile is h
from_balanced b lines t (instr ∷ later) made is h =
    by (done b t instr) refl (λ next. from_balanced b (lines + 1) next later made) (sym (step_is b lines t instr later) ∙ is)
  where
    by : (step : Result Table Why) → done b t instr ≡ step → ((next : Table) → replayed_from b (lines + 1) next later ≡ Ok made → IsBalanced b next.pile next.loaded next.made → MakesUp b made) →
        behind_step b lines later step ≡ Ok made → MakesUp b made
    by (Ok next) said goes was = goes next was (step_balanced b t next instr said h)
    by (Err why) said goes was = absurd cc

-- the pieces of a sheet make up the plates that it loads
pub sheet_balanced : (b : Problem) (sheet : List Instr) (made : List Made) → replayed b sheet ≡ Ok made → MakesUp b made
sheet_balanced b sheet made is = from_balanced b 1 bare sheet made is (record { few = omega arith; glass = omega (arith, ap (λ n. b.params.height * n) (before-zero b)) })

-- so their area fits in 64 bits
pub small_area : (b : Problem) (made : List Made) → IsProblem b → MakesUp b made → made_area made ≤ 400000000000
small_area b made rules up =
    let long : Before b up.plates ≤ 20000000 = omega (arith, before_within b up.plates rules, up.few, b.params.accepted.few_plates) in
    omega (arith, up.glass, mul-le-mul b.params.accepted.height_limit long)

-- so it is with a replay's answer
pub whole_of : (b : Problem) (sheet : List Instr) (answer : Result (Listed Made) Stuck) → made_items answer ≡ replayed b sheet → IfOk answer (λ made. MakesUp b made.items)
whole_of b sheet (Ok made) is = sheet_balanced b sheet made.items (sym is)
whole_of b sheet (Err stuck) is = tt

pub small_of : (b : Problem) (sheet : List Instr) (answer : Result (Listed Made) Stuck) → IsProblem b → made_items answer ≡ replayed b sheet → IfOk answer (λ made. made_area made.items < 2 ^ 64)
small_of b sheet (Ok made) rules is = omega (arith, small_area b made.items rules (sheet_balanced b sheet made.items (sym is)))
small_of b sheet (Err stuck) rules is = tt

area_of_waste : (kind : ℤ) (area : ℕ) → area_wasted kind area ≤ area
area_of_waste (negsuc zero) area = omega arith
area_of_waste (negsuc (suc n)) area = omega arith
area_of_waste (pos n) area = omega arith

-- what was wasted so far and with the next piece is no more than all glass
pub waste_within : (made : List Made) (i : ℕ) (d : Made) → i < length made → waste_area (take i made) + wasted (get_or made i d) ≤ made_area made
waste_within made i d within =
    let m : Made = get_or made i d in
    omega (arith, sum_by_more_le_part wasted area made i d within (λ (n : Made). area_of_waste n.kind (area n)), area_of_waste m.kind (area m))

-- a row more: one that is cut is left out, and has no waste of its own
row_waste : (r : Row) (rows : List Row) (kind : ℤ) → r.kind ≡ kind → waste_area (pieces_in rows) ≡ waste_of rows → waste_area (pieces_in (r ∷ rows)) ≡ waste_of (r ∷ rows)
row_waste r rows (pos number) is h = rw is (omega (arith, h, sum_by-cons wasted (record (made_of r) { kind = pos number }) (pieces_in rows)))
row_waste r rows (negsuc zero) is h = rw is (omega (arith, h, sum_by-cons wasted (record (made_of r) { kind = negsuc zero }) (pieces_in rows)))
row_waste r rows (negsuc (suc zero)) is h = rw is (omega (arith, h))
row_waste r rows (negsuc (suc (suc zero))) is h = rw is (omega (arith, h, sum_by-cons wasted (record (made_of r) { kind = negsuc (suc (suc zero)) }) (pieces_in rows)))
row_waste r rows (negsuc (suc (suc (suc below)))) is h = rw is (omega (arith, h, sum_by-cons wasted (record (made_of r) { kind = negsuc (suc (suc (suc below))) }) (pieces_in rows)))

-- the wastes among the rows that are not cut any further are the wastes among all rows
rows_waste : (rows : List Row) → waste_area (pieces_in rows) ≡ waste_of rows
rows_waste [] = refl
rows_waste (r ∷ rows) = row_waste r rows r.kind refl (rows_waste rows)

pub waste_is_loss : (b : Problem) (plan : Forest) → waste_area (pieces_of b plan) ≡ loss_of b plan
waste_is_loss b plan = rows_waste (rows_of b plan)
