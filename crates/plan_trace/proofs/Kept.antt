-- Pieces that keep the rules on cuts where they lie, whatever their node numbers and parents.
use Rattle.std.proofs.Common.{◌≡◌, ℕ, zero, suc, ◌+◌, ◌-◌, ◌==◌, ◌<◌, ◌≤◌, inl, inr, refl, sym, subst, arith, Bool, true, false, cond, eqb-true, ◌&&◌, Option, Some, None, All}
use Rattle.std.proofs.lemmas.Bool.Decides.{nat_tests}
use Rattle.std.proofs.lemmas.List.Elements.{All-nil, All-cons, All-append, All-head}
use Rattle.glass_base.specs.declared.item.Item.{Item}
use Rattle.glass_base.specs.Plates.{Width}
use Rattle.glass_base.specs.Problem.{Problem}
use Rattle.cut_model.specs.declared.family.Row.{Row}
use Rattle.cut_model.specs.declared.family.Sort.{Sort}
use Rattle.cut_model.specs.declared.family.Along.{Along}
use Rattle.cut_model.specs.declared.family.Children.{Children}
use Rattle.cut_model.specs.declared.family.Area.{Area}
use Rattle.cut_model.specs.declared.family.Family.{Family}
use Rattle.cut_model.specs.Tree.{Forest, nothing, piece, is_nothing, holds_item, children_in, count, total_size}
use Rattle.cut_model.specs.Families.{families, family_with, row_at, inside, behind, side_along, turned}
use Rattle.cut_model.specs.Order.{item_with}
use Rattle.cut_model.specs.Rules.{IsTurnOf, HasBandHeight, HasClearBorder, HasStripWidth, HasItsSides, AvoidsDefects, KeepsCutRules}
use Rattle.defect_map.specs.Queries.{HitsNone, CrossesNoneX, CrossesNoneY}
use Rattle.plan_trace.specs.Canonical.{gap, hoisted}
use Rattle.plan_trace.specs.Marks.{item_width, item_height}

abbrev family_at : Row → Sort → Along → Bool → Bool → Children → Family
family_at row sort along first ends children = record { row = row; sort = sort; along = along; first = first; ends = ends; children = children }

-- the border before a piece is clear, where a neighbour stands there
abbrev Bordered : Problem → Along → Row → Bool → Type 0
Bordered b along row first = first ≡ false → HasClearBorder b.defects along row

-- the rules at a piece of each sort
waste_keeps : (b : Problem) (row : Row) (along : Along) (first ends : Bool) (children : Children) → Bordered b along row first → b.params.waste ≤ row.width → b.params.waste ≤ row.height →
    KeepsCutRules b (family_at row Sort.Waste along first ends children)
waste_keeps b row along first ends children border w h =
    record { l1 = tt; l2 = tt; l3 = (w, h); l4 = tt; l5 = tt; l6 = tt; l7 = tt; l8 = border }

residual_keeps : (b : Problem) (row : Row) (along : Along) (first ends : Bool) (children : Children) → Bordered b along row first → b.params.waste ≤ row.width → row.cut ≡ 1 → ends ≡ true →
    KeepsCutRules b (family_at row Sort.Residual along first ends children)
residual_keeps b row along first ends children border w strip end =
    record { l1 = tt; l2 = tt; l3 = w; l4 = tt; l5 = tt; l6 = (strip, end); l7 = tt; l8 = border }

branch_keeps : (b : Problem) (row : Row) (along : Along) (first ends : Bool) (children : Children) → Bordered b along row first →
    children.empty ≡ false → children.total ≡ side_along (turned along) row → HasStripWidth b.params row → HasBandHeight b.params row → (row.cut ≡ 3 → children.has_item ≡ true) →
    KeepsCutRules b (family_at row Sort.Branch along first ends children)
branch_keeps b row along first ends children border some total strip band item =
    record { l1 = (some, total); l2 = tt; l3 = tt; l4 = strip; l5 = band; l6 = item; l7 = tt; l8 = border }

item_keeps : (b : Problem) (row : Row) (number : ℕ) (along : Along) (first ends : Bool) (children : Children) → Bordered b along row first → HasStripWidth b.params row → HasBandHeight b.params row →
    HasItsSides b.items (family_at row (Sort.Item number) along first ends children) (Sort.Item number) → AvoidsDefects b.defects (family_at row (Sort.Item number) along first ends children) (Sort.Item number) →
    KeepsCutRules b (family_at row (Sort.Item number) along first ends children)
item_keeps b row number along first ends children border strip band sides sound =
    record { l1 = tt; l2 = sides; l3 = tt; l4 = strip; l5 = band; l6 = tt; l7 = sound; l8 = border }

-- a place
abbrev pub place : ℕ → Option ℕ → ℕ → Along → ℕ → ℕ → ℕ → ℕ → Bool → Area
place plate parent cut along x y width height last =
    record { plate = plate; cut = cut; along = along; parent = parent; x = x; y = y; width = width; height = height; last = last }

-- these neighbours keep the rules; the flags are whether nothing stands behind the piece they are in, and whether none stands before them
abbrev pub Kept : Problem → ℕ → ℕ → Along → ℕ → ℕ → ℕ → ℕ → Bool → Bool → Forest → Type 0
Kept b plate cut along x y width height last first forest =
    (parent : Option ℕ) (node : ℕ) → All (KeepsCutRules b) (families (place plate parent cut along x y width height last) first node forest)

-- so does a piece
abbrev pub KeptPiece : Problem → ℕ → ℕ → Along → ℕ → ℕ → ℕ → ℕ → Bool → Bool → ℕ → Sort → Forest → Forest → Type 0
KeptPiece b plate cut along x y width height last first size sort inner later =
    (parent : Option ℕ) (node : ℕ) →
    KeepsCutRules b (family_with (place plate parent cut along x y width height last) first (is_nothing later) node size sort (children_in inner))

pub kept_nothing : (b : Problem) (plate cut : ℕ) (along : Along) (x y width height : ℕ) (last first : Bool) → Kept b plate cut along x y width height last first nothing
unfolding families
kept_nothing b plate cut along x y width height last first parent node = All-nil (KeepsCutRules b)

kept_families : (b : Problem) (at : Area) (first : Bool) (node size : ℕ) (sort : Sort) (inner later : Forest) →
    let f : Family = family_with at first (is_nothing later) node size sort (children_in inner) in
    KeepsCutRules b f → All (KeepsCutRules b) (families (inside f) true (node + 1) inner) → All (KeepsCutRules b) (families (behind at size) false (node + 1 + count inner) later) →
    All (KeepsCutRules b) (families at first node (piece size sort inner later))
unfolding families
kept_families b at first node size sort inner later here below after =
    All-cons (KeepsCutRules b) _ _ here (All-append (KeepsCutRules b) _ _ below after)

first_keeps : (b : Problem) (at : Area) (first : Bool) (node size : ℕ) (sort : Sort) (inner later : Forest) →
    All (KeepsCutRules b) (families at first node (piece size sort inner later)) → KeepsCutRules b (family_with at first (is_nothing later) node size sort (children_in inner))
unfolding families
first_keeps b at first node size sort inner later h = All-head (KeepsCutRules b) _ _ h

-- a piece, what is inside it, and what is behind it
pub kept_plate : (b : Problem) (plate cut x y width height : ℕ) (last first : Bool) (size : ℕ) (sort : Sort) (inner later : Forest) →
    KeptPiece b plate cut Along.Plates x y width height last first size sort inner later → Kept b plate (cut + 1) Along.X x y size height (last && is_nothing later) true inner →
    Kept b (plate + 1) cut Along.Plates x y width height last false later →
    Kept b plate cut Along.Plates x y width height last first (piece size sort inner later)
kept_plate b plate cut x y width height last first size sort inner later here below after parent node =
    kept_families b (place plate parent cut Along.Plates x y width height last) first node size sort inner later
    (here parent node) (below (Some node) (node + 1)) (after parent (node + 1 + count inner))

pub kept_x : (b : Problem) (plate cut x y width height : ℕ) (last first : Bool) (size : ℕ) (sort : Sort) (inner later : Forest) →
    KeptPiece b plate cut Along.X x y width height last first size sort inner later → Kept b plate (cut + 1) Along.Y x y size height (last && is_nothing later) true inner →
    Kept b plate cut Along.X (x + size) y width height last false later →
    Kept b plate cut Along.X x y width height last first (piece size sort inner later)
kept_x b plate cut x y width height last first size sort inner later here below after parent node =
    kept_families b (place plate parent cut Along.X x y width height last) first node size sort inner later
    (here parent node) (below (Some node) (node + 1)) (after parent (node + 1 + count inner))

pub kept_y : (b : Problem) (plate cut x y width height : ℕ) (last first : Bool) (size : ℕ) (sort : Sort) (inner later : Forest) →
    KeptPiece b plate cut Along.Y x y width height last first size sort inner later → Kept b plate (cut + 1) Along.X x y width size (last && is_nothing later) true inner →
    Kept b plate cut Along.Y x (y + size) width height last false later →
    Kept b plate cut Along.Y x y width height last first (piece size sort inner later)
kept_y b plate cut x y width height last first size sort inner later here below after parent node =
    kept_families b (place plate parent cut Along.Y x y width height last) first node size sort inner later
    (here parent node) (below (Some node) (node + 1)) (after parent (node + 1 + count inner))

-- a gap by the test for it
pub gap_by : (P : Forest → Type 0) (from to : ℕ) (sort : Sort) (later : Forest) → from ≤ to → (from < to → P (piece (to - from) sort nothing later)) → (from ≡ to → P later) → P (gap from to sort later)
gap_by P from to sort later le there none = go (from == to) refl
  where
    go : (same : Bool) → (from == to) ≡ same → P (cond same later (piece (to - from) sort nothing later))
    go true e = none (eqb-true from to e)
    go false e = there (grind (arith, nat_tests))

-- what fills a gap, and what is behind it
pub gap_x : (b : Problem) (plate cut from to y width height : ℕ) (last first : Bool) (sort : Sort) (later : Forest) → from ≤ to →
    (from < to → KeptPiece b plate cut Along.X from y width height last first (to - from) sort nothing later) →
    (from < to → Kept b plate cut Along.X to y width height last false later) → (from ≡ to → Kept b plate cut Along.X to y width height last first later) →
    Kept b plate cut Along.X from y width height last first (gap from to sort later)
gap_x b plate cut from to y width height last first sort later le here there none =
    gap_by (Kept b plate cut Along.X from y width height last first) from to sort later le
    (λ lt. kept_x b plate cut from y width height last first (to - from) sort nothing later (here lt) (kept_nothing b plate (cut + 1) Along.Y from y (to - from) height (last && is_nothing later) true)
    (subst (λ (n : ℕ). Kept b plate cut Along.X n y width height last false later) (omega (arith, le)) (there lt)))
    (λ e. subst (λ (n : ℕ). Kept b plate cut Along.X n y width height last first later) (sym e) (none e))

pub gap_y : (b : Problem) (plate cut x from to width height : ℕ) (last first : Bool) (sort : Sort) (later : Forest) → from ≤ to →
    (from < to → KeptPiece b plate cut Along.Y x from width height last first (to - from) sort nothing later) →
    (from < to → Kept b plate cut Along.Y x to width height last false later) → (from ≡ to → Kept b plate cut Along.Y x to width height last first later) →
    Kept b plate cut Along.Y x from width height last first (gap from to sort later)
gap_y b plate cut x from to width height last first sort later le here there none =
    gap_by (Kept b plate cut Along.Y x from width height last first) from to sort later le
    (λ lt. kept_y b plate cut x from width height last first (to - from) sort nothing later (here lt) (kept_nothing b plate (cut + 1) Along.X x from width (to - from) (last && is_nothing later) true)
    (subst (λ (n : ℕ). Kept b plate cut Along.Y x n width height last false later) (omega (arith, le)) (there lt)))
    (λ e. subst (λ (n : ℕ). Kept b plate cut Along.Y x n width height last first later) (sym e) (none e))

-- a waste that stands beside its neighbours, or over them
pub waste_x : (b : Problem) (plate cut x y width height : ℕ) (last first : Bool) (size : ℕ) (later : Forest) →
    (first ≡ false → CrossesNoneX b.defects plate x y (y + height)) → b.params.waste ≤ size → b.params.waste ≤ height →
    KeptPiece b plate cut Along.X x y width height last first size Sort.Waste nothing later
waste_x b plate cut x y width height last first size later border w h parent node = waste_keeps b _ Along.X _ _ _ (λ e _. border e) w h

pub waste_y : (b : Problem) (plate cut x y width height : ℕ) (last first : Bool) (size : ℕ) (later : Forest) →
    (first ≡ false → CrossesNoneY b.defects plate y x (x + width)) → b.params.waste ≤ width → b.params.waste ≤ size →
    KeptPiece b plate cut Along.Y x y width height last first size Sort.Waste nothing later
waste_y b plate cut x y width height last first size later border w h parent node = waste_keeps b _ Along.Y _ _ _ (λ e _. border e) w h

pub residual_x : (b : Problem) (plate x y width height : ℕ) (last first : Bool) (size : ℕ) (later : Forest) →
    (first ≡ false → CrossesNoneX b.defects plate x y (y + height)) → b.params.waste ≤ size → (last && is_nothing later) ≡ true →
    KeptPiece b plate 1 Along.X x y width height last first size Sort.Residual nothing later
residual_x b plate x y width height last first size later border w end parent node = residual_keeps b _ Along.X _ _ _ (λ e _. border e) w refl end

-- an item has its sides by its turn
pub turn_of : (turn : ℕ) (item : Item) (row : Row) → row.width ≡ item_width turn (Some item) → row.height ≡ item_height turn (Some item) → IsTurnOf row item
turn_of zero item row w h = inl (w, h)
turn_of (suc _) item row w h = inr (w, h)

-- an item that a 4-cut makes
pub item_leaf : (b : Problem) (plate x y width height : ℕ) (last first : Bool) (size number turn : ℕ) (item : Item) (later : Forest) → item_with b.items number ≡ Some item →
    width ≡ item_width turn (Some item) → size ≡ item_height turn (Some item) →
    (first ≡ false → CrossesNoneY b.defects plate y x (x + width)) → HitsNone b.defects plate x y (x + width) (y + size) →
    KeptPiece b plate 4 Along.Y x y width height last first size (Sort.Item number) nothing later
item_leaf b plate x y width height last first size number turn item later found w h border clear parent node =
    item_keeps b _ number Along.Y _ _ _ (λ e _. border e) (λ e. absurd (omega (arith, e))) (λ e. absurd (omega (arith, e)))
    (rw found (turn_of turn item (row_at (place plate parent 4 Along.Y x y width height last) node size (Sort.Item number)) w h)) (λ _ _. clear)

-- what is asked of a piece that is cut, or that is the one item that it would be cut into
pub record MayStandX (b : Problem) (plate cut x y height : ℕ) (first : Bool) (size : ℕ) (inner : Forest) : Type 0 where
  pub some : is_nothing inner ≡ false
  pub total : total_size inner ≡ height
  pub border : first ≡ false → CrossesNoneX b.defects plate x y (y + height)
  pub strip : cut ≡ 1 → (b.params.min1 ≤ size) × (size ≤ b.params.max1)
  pub no_band : ¬ (cut ≡ 2)
  pub item : cut ≡ 3 → holds_item inner ≡ true

pub record MayStandY (b : Problem) (plate cut x y width : ℕ) (first : Bool) (size : ℕ) (inner : Forest) : Type 0 where
  pub some : is_nothing inner ≡ false
  pub total : total_size inner ≡ width
  pub border : first ≡ false → CrossesNoneY b.defects plate y x (x + width)
  pub band : cut ≡ 2 → b.params.min2 ≤ size
  pub no_strip : ¬ (cut ≡ 1)
  pub no_cell : ¬ (cut ≡ 3)

branch_x : (b : Problem) (plate cut x y width height : ℕ) (last first : Bool) (size : ℕ) (inner later : Forest) → MayStandX b plate cut x y height first size inner →
    Kept b plate (cut + 1) Along.Y x y size height (last && is_nothing later) true inner → Kept b plate cut Along.X (x + size) y width height last false later →
    Kept b plate cut Along.X x y width height last first (piece size Sort.Branch inner later)
branch_x b plate cut x y width height last first size inner later h below after =
    kept_x b plate cut x y width height last first size Sort.Branch inner later
    (λ parent node. branch_keeps b _ Along.X _ _ _ (λ e _. h.border e) h.some h.total h.strip (λ e. absurd (h.no_band e)) h.item) below after

branch_y : (b : Problem) (plate cut x y width height : ℕ) (last first : Bool) (size : ℕ) (inner later : Forest) → MayStandY b plate cut x y width first size inner →
    Kept b plate (cut + 1) Along.X x y width size (last && is_nothing later) true inner → Kept b plate cut Along.Y x (y + size) width height last false later →
    Kept b plate cut Along.Y x y width height last first (piece size Sort.Branch inner later)
branch_y b plate cut x y width height last first size inner later h below after =
    kept_y b plate cut x y width height last first size Sort.Branch inner later
    (λ parent node. branch_keeps b _ Along.Y _ _ _ (λ e _. h.border e) h.some h.total (λ e. absurd (h.no_strip e)) h.band (λ e. absurd (h.no_cell e))) below after

-- a piece that would be cut into one item has the item's rules
item_x : (b : Problem) (plate cut x y width height : ℕ) (last first : Bool) (size n number : ℕ) (later : Forest) → MayStandX b plate cut x y height first size (piece n (Sort.Item number) nothing nothing) →
    Kept b plate (cut + 1) Along.Y x y size height (last && is_nothing later) true (piece n (Sort.Item number) nothing nothing) → Kept b plate cut Along.X (x + size) y width height last false later →
    Kept b plate cut Along.X x y width height last first (piece size (Sort.Item number) nothing later)
item_x b plate cut x y width height last first size n number later h below after =
    let e : n ≡ height = omega (arith, h.total) in
    let own = first_keeps b _ true 0 n (Sort.Item number) nothing nothing (below None 0) in
    kept_x b plate cut x y width height last first size (Sort.Item number) nothing later
    (λ parent node. item_keeps b _ number Along.X _ _ _ (λ e _. h.border e) h.strip (λ e. absurd (h.no_band e)) (rw e at own.l2) (rw e at own.l7))
    (kept_nothing b plate (cut + 1) Along.Y x y size height (last && is_nothing later) true) after

item_y : (b : Problem) (plate cut x y width height : ℕ) (last first : Bool) (size n number : ℕ) (later : Forest) → MayStandY b plate cut x y width first size (piece n (Sort.Item number) nothing nothing) →
    Kept b plate (cut + 1) Along.X x y width size (last && is_nothing later) true (piece n (Sort.Item number) nothing nothing) → Kept b plate cut Along.Y x (y + size) width height last false later →
    Kept b plate cut Along.Y x y width height last first (piece size (Sort.Item number) nothing later)
item_y b plate cut x y width height last first size n number later h below after =
    let e : n ≡ width = omega (arith, h.total) in
    let own = first_keeps b _ true 0 n (Sort.Item number) nothing nothing (below None 0) in
    kept_y b plate cut x y width height last first size (Sort.Item number) nothing later
    (λ parent node. item_keeps b _ number Along.Y _ _ _ (λ e _. h.border e) (λ e. absurd (h.no_strip e)) h.band (rw e at own.l2) (rw e at own.l7))
    (kept_nothing b plate (cut + 1) Along.X x y width size (last && is_nothing later) true) after

-- a piece that is cut into these pieces, or that is the one item that it would be cut into
pub hoisted_x : (b : Problem) (plate cut x y width height : ℕ) (last first : Bool) (size : ℕ) (inner later : Forest) → MayStandX b plate cut x y height first size inner →
    Kept b plate (cut + 1) Along.Y x y size height (last && is_nothing later) true inner → Kept b plate cut Along.X (x + size) y width height last false later →
    Kept b plate cut Along.X x y width height last first (hoisted size inner later)
hoisted_x b plate cut x y width height last first size nothing later h below after = absurd (cc h.some)
hoisted_x b plate cut x y width height last first size (piece n (Sort.Item number) nothing nothing) later h below after = item_x b plate cut x y width height last first size n number later h below after
hoisted_x b plate cut x y width height last first size (piece n (Sort.Item number) nothing (piece m t i l)) later h below after = branch_x b plate cut x y width height last first size _ later h below after
hoisted_x b plate cut x y width height last first size (piece n (Sort.Item number) (piece m t i l) more) later h below after = branch_x b plate cut x y width height last first size _ later h below after
hoisted_x b plate cut x y width height last first size (piece n Sort.Waste inner more) later h below after = branch_x b plate cut x y width height last first size _ later h below after
hoisted_x b plate cut x y width height last first size (piece n Sort.Branch inner more) later h below after = branch_x b plate cut x y width height last first size _ later h below after
hoisted_x b plate cut x y width height last first size (piece n Sort.Residual inner more) later h below after = branch_x b plate cut x y width height last first size _ later h below after

pub hoisted_y : (b : Problem) (plate cut x y width height : ℕ) (last first : Bool) (size : ℕ) (inner later : Forest) → MayStandY b plate cut x y width first size inner →
    Kept b plate (cut + 1) Along.X x y width size (last && is_nothing later) true inner → Kept b plate cut Along.Y x (y + size) width height last false later →
    Kept b plate cut Along.Y x y width height last first (hoisted size inner later)
hoisted_y b plate cut x y width height last first size nothing later h below after = absurd (cc h.some)
hoisted_y b plate cut x y width height last first size (piece n (Sort.Item number) nothing nothing) later h below after = item_y b plate cut x y width height last first size n number later h below after
hoisted_y b plate cut x y width height last first size (piece n (Sort.Item number) nothing (piece m t i l)) later h below after = branch_y b plate cut x y width height last first size _ later h below after
hoisted_y b plate cut x y width height last first size (piece n (Sort.Item number) (piece m t i l) more) later h below after = branch_y b plate cut x y width height last first size _ later h below after
hoisted_y b plate cut x y width height last first size (piece n Sort.Waste inner more) later h below after = branch_y b plate cut x y width height last first size _ later h below after
hoisted_y b plate cut x y width height last first size (piece n Sort.Branch inner more) later h below after = branch_y b plate cut x y width height last first size _ later h below after
hoisted_y b plate cut x y width height last first size (piece n Sort.Residual inner more) later h below after = branch_y b plate cut x y width height last first size _ later h below after

-- a plate, and those behind it
pub plate_kept : (b : Problem) (plate height : ℕ) (first : Bool) (inner later : Forest) → is_nothing inner ≡ false → total_size inner ≡ Width b plate →
    Kept b plate 1 Along.X 0 0 (Width b plate) height (is_nothing later) true inner → Kept b (plate + 1) 0 Along.Plates 0 0 0 height true false later →
    Kept b plate 0 Along.Plates 0 0 0 height true first (piece (Width b plate) Sort.Branch inner later)
plate_kept b plate height first inner later some total below after =
    kept_plate b plate 0 0 0 0 height true first (Width b plate) Sort.Branch inner later
    (λ parent node. branch_keeps b _ Along.Plates _ _ _ (λ _. tt) some total (λ e. absurd (omega (arith, e))) (λ e. absurd (omega (arith, e))) (λ e. absurd (omega (arith, e))))
    below after
