-- The kind of an item's step: the outermost level at which its piece is not that of the item before.
use Rattle.std.proofs.Common.{◌≡◌, ◌⊎◌, inl, inr, ℕ, zero, suc, ◌+◌, ◌<◌, ◌≤◌, List, [], ◌∷◌, sym, ◌∙◌, arith, Option, Some, None}
use Rattle.std.specs.Prelude.{Contains}
use Rattle.std.specs.List.{AllByRecursion}
use Rattle.cut_model.specs.declared.family.Row.{Row}
use Rattle.cut_model.specs.declared.steps.Step.{Step}
use Rattle.cut_model.specs.ItemSteps.{HasKind, IsPieceOf, LiesIn, itself, deeper, SharePiece}
use Rattle.cut_model.specs.Traces.{next_kind}
use Rattle.cut_model.proofs.StepRows.{all_weaker}

-- the pieces around the pieces that cuts of this level make of this parent, from the inmost one to the plate
abbrev pub Around : List Row → ℕ → Option ℕ → List Row → Type 0
Around all zero parent [] = Unit {0}
Around all zero parent (_ ∷ _) = ⊥
Around all (suc level) parent [] = ⊥
Around all (suc level) parent (o ∷ outer) = Contains all o × (parent ≡ Some o.node) × (o.cut ≡ level) × Around all level o.parent outer

-- what lies in a piece lies in what the piece lies in
pub lies_further : (all : List Row) (x y z : Row) → LiesIn all x y → LiesIn all y z → LiesIn all x z
lies_further all x y z (itself row) k = k
lies_further all x y z (deeper row outer piece known named h) k = deeper row outer z known named (lies_further all outer y z h k)

-- so it lies in the piece that the piece is cut from
pub lies_out : (all : List Row) (x y o : Row) → Contains all o → y.parent ≡ Some o.node → LiesIn all x y → LiesIn all x o
lies_out all x y o known named h = lies_further all x y o h (deeper y o o known named (itself o))

-- how the last item before stands to a piece around what comes next: both lie in it where it is of a level below the kind, and at
-- this kind's level it stands behind the item's piece
pub record PassesBy (all : List Row) (kind : ℕ) (last piece outer : Row) : Type 0 where
  pub shared : outer.cut < kind → LiesIn all last outer
  pub apart : outer.cut ≡ kind → piece.node < outer.node

-- what is left behind an item: its piece at this kind's level, which stands before this node
pub record IsLeftBehind (all outer : List Row) (node kind : ℕ) (last : Row) : Type 0 where
  pub piece : Row
  pub around : LiesIn all last piece
  pub made : piece.cut ≡ kind
  pub past : piece.node < node
  pub passed : AllByRecursion (PassesBy all kind last piece) outer

-- what is known of the last item where a list of this level goes on
abbrev pub CameTo : List Row → List Row → ℕ → ℕ → ℕ → Option Row → Type 0
CameTo all outer level node kind None = kind ≡ 0
CameTo all outer level node kind (Some last) = (kind ≤ level) × IsLeftBehind all outer node kind last

-- the kind is no deeper than the list
pub kind_below : (all outer : List Row) (level node kind : ℕ) (before : Option Row) → CameTo all outer level node kind before → kind ≤ level
kind_below all outer level node kind None h = omega (arith, h)
kind_below all outer level node kind (Some last) h = h.0

-- further on in the list
pub came_further : (all outer : List Row) (level node more kind : ℕ) (before : Option Row) → node ≤ more → CameTo all outer level node kind before → CameTo all outer level more kind before
came_further all outer level node more kind None le h = h
came_further all outer level node more kind (Some last) le h =
    (h.0, record { piece = h.1.piece; around = h.1.around; made = h.1.made; past = omega (arith, h.1.past, le); passed = h.1.passed })

-- inside a piece of the list
pub came_inside : (all outer : List Row) (level node kind : ℕ) (row : Row) (before : Option Row) → row.cut ≡ level → row.node ≡ node →
    CameTo all outer level node kind before → CameTo all (row ∷ outer) (suc level) (node + 1) kind before
came_inside all outer level node kind row None cut number h = h
came_inside all outer level node kind row (Some last) cut number h =
    let here : PassesBy all kind last h.1.piece row = record { shared = λ lt. absurd (omega (arith, lt, cut, h.0)); apart = λ _. omega (arith, h.1.past, number) } in
    (omega (arith, h.0), record { piece = h.1.piece; around = h.1.around; made = h.1.made; past = omega (arith, h.1.past); passed = (here, h.1.passed) })

-- a row lies in all pieces around it, which are of outer levels
pub lies_within : (all : List Row) (top level : ℕ) (row x piece : Row) (outer : List Row) → level ≤ top → LiesIn all row x → Around all level x.parent outer →
    AllByRecursion (PassesBy all top row piece) outer
lies_within all top zero row x piece [] le lies h = tt
lies_within all top zero row x piece (o ∷ outer) le lies h = absurd h
lies_within all top (suc level) row x piece [] le lies h = absurd h
lies_within all top (suc level) row x piece (o ∷ outer) le lies h =
    let out : LiesIn all row o = lies_out all row x o h.0 h.1 lies in (
      record { shared = λ _. out; apart = λ e. absurd (omega (arith, e, le, h.2)) },
      lies_within all top level row o piece outer (omega (arith, le)) out h.3,
    )

-- behind an item
pub came_item : (all outer : List Row) (level node : ℕ) (row : Row) → Contains all row → row.cut ≡ level → row.node < node → Around all level row.parent outer →
    CameTo all outer level node level (Some row)
came_item all outer level node row known cut past h =
    (omega arith, record { piece = row; around = itself row; made = cut; past = past; passed = lies_within all level level row row row outer (omega arith) (itself row) h })

-- outer pieces are of outer levels
passed_out : (all : List Row) (top level : ℕ) (parent : Option ℕ) (last piece other : Row) (outer : List Row) → level ≤ top → Around all level parent outer →
    AllByRecursion (PassesBy all (suc top) last piece) outer → AllByRecursion (PassesBy all top last other) outer
passed_out all top zero parent last piece other [] le h k = tt
passed_out all top zero parent last piece other (o ∷ outer) le h k = absurd h
passed_out all top (suc level) parent last piece other [] le h k = absurd h
passed_out all top (suc level) parent last piece other (o ∷ outer) le h k = (
  record { shared = λ lt. k.0.shared (omega (arith, lt)); apart = λ e. absurd (omega (arith, e, le, h.2)) },
  passed_out all top level o.parent last piece other outer (omega (arith, le)) h.3 k.1,
)

-- behind a piece of the list with those inside it, from where the list inside ends
pub came_out : (all outer : List Row) (level node kind : ℕ) (row : Row) (steps : List Step) (last : Option Row) → row.cut ≡ level → row.node < node → kind ≤ level → Around all level row.parent outer →
    CameTo all (row ∷ outer) (suc level) node (next_kind steps kind (suc level)) last → CameTo all outer level node (next_kind steps kind level) last
came_out all outer level node kind row [] None cut past le around h = h
came_out all outer level node kind row [] (Some last) cut past le around h =
    (le, record { piece = h.1.piece; around = h.1.around; made = h.1.made; past = h.1.past; passed = h.1.passed.1 })
came_out all outer level node kind row (s ∷ steps) None cut past le around h = absurd (omega (arith, h))
came_out all outer level node kind row (s ∷ steps) (Some last) cut past le around h = (
  omega arith,
  record {
    piece = row;
    around = h.1.passed.0.shared (omega (arith, cut));
    made = cut;
    past = past;
    passed = passed_out all level level row.parent last h.1.piece row outer (omega arith) around h.1.passed.1;
  },
)

-- of a row and the pieces around it the one of this level
picked : (all : List Row) (P : Row → Type 0) (top level : ℕ) (row x : Row) (outer : List Row) → LiesIn all row x → x.cut ≡ top → Around all top x.parent outer → level ≤ top →
    (x.cut ≡ level → P x) → AllByRecursion (λ o. o.cut ≡ level → P o) outer → (piece : Row) × IsPieceOf all level row piece × P piece
picked all P zero level row x outer lies cut h le own others =
    let e : x.cut ≡ level = omega (arith, cut, le) in (x, record { around = lies; made = inl e }, own e)
picked all P (suc top) level row x [] lies cut h le own others = absurd h
picked all P (suc top) level row x (o ∷ outer) lies cut h le own others =
    by (cases level top le) (λ lower. picked all P top level row o outer (lies_out all row x o h.0 h.1 lies) h.2 h.3 lower others.0 others.1)
  where
    cases : (n m : ℕ) → n ≤ suc m → (n ≡ suc m) ⊎ (n ≤ m)
    cases n m le = grind arith

    by : (level ≡ suc top) ⊎ (level ≤ top) → (level ≤ top → (piece : Row) × IsPieceOf all level row piece × P piece) → (piece : Row) × IsPieceOf all level row piece × P piece
    by (inl is) further =
        let e : x.cut ≡ level = cut ∙ sym is in (x, record { around = lies; made = inl e }, own e)
    by (inr lower) further = further lower

-- the item's step has this kind
pub has_kind : (all outer : List Row) (level node kind : ℕ) (row : Row) (before : Option Row) → row.cut ≡ level → row.node ≡ node → Around all level row.parent outer →
    CameTo all outer level node kind before → HasKind all before row kind
has_kind all outer level node kind row None cut number around h = h
has_kind all outer level node kind row (Some last) cut number around h =
    let left : IsLeftBehind all outer node kind last = h.1 in
    let Behind : Row → Type 0 = λ o. left.piece.node < o.node in
    let next : (piece : Row) × IsPieceOf all kind row piece × Behind piece =
    picked all Behind level kind row row outer (itself row) cut around h.0 (λ _. omega (arith, left.past, number))
    (all_weaker (PassesBy all kind last left.piece) (λ o. o.cut ≡ kind → Behind o) outer (λ o p. p.apart) left.passed) in (
      record { piece = left.piece; next = next.0; of_row = record { around = left.around; made = inl left.made }; of_other = next.1; two = λ e. absurd (omega (arith, e, next.2)) },
      λ wide lt. share wide lt,
    )
  where
    share : (wide : ℕ) → wide < kind → SharePiece all wide last row
    share wide lt =
        let left : IsLeftBehind all outer node kind last = h.1 in
        let Shares : Row → Type 0 = λ o. IsPieceOf all wide last o in
        let one : (piece : Row) × IsPieceOf all wide row piece × Shares piece =
        picked all Shares level wide row row outer (itself row) cut around (omega (arith, lt, h.0)) (λ e. absurd (omega (arith, e, cut, lt, h.0)))
        (all_weaker (PassesBy all kind last left.piece) (λ o. o.cut ≡ wide → Shares o) outer (λ o p e. record { around = p.shared (omega (arith, e, lt)); made = inl e }) left.passed) in
        record { piece = one.0; of_row = one.2; of_other = one.1 }
