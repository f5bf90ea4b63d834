-- What is tried of strips, and what is passed over.
use Rattle.std.proofs.Common.{◌≡◌, ℕ, ◌+◌, ◌*◌, ◌-◌, ◌<◌, ◌≤◌, List, [], length, get_or, ap, subst, arith, Contains}
use Rattle.std.proofs.Math.Nat.{mul-add}
use Rattle.std.proofs.lemmas.Nat.{mul-le}
use Rattle.front_table.specs.declared.ends.End.{End}
use Rattle.front_table.specs.declared.labels.FrontLabel.{FrontLabel}
use Rattle.front_table.specs.declared.levels.RowFacts.{RowFacts}
use Rattle.front_table.specs.declared.moves.Move.{Move}
use Rattle.front_table.specs.declared.rows.FrontRow.{FrontRow}
use Rattle.front_table.specs.declared.strips.Limits.{Limits}
use Rattle.front_table.specs.Sets.{Held}
use Rattle.front_table.specs.Ends.{Ended}
use Rattle.front_table.specs.Lattice.{area_at}
use Rattle.front_table.specs.Pools.{row_at, Spreads}
use Rattle.front_table.specs.Tries.{Tried, BandTried, Extended, ExtendedBy, RowExtended}
use Rattle.front_table.specs.Widths.{waste_of}
use Rattle.front_table.proofs.HeldLists.{least_first, fits_none}
use Rattle.front_table.proofs.PoolRows.{kept_at}

-- glass above a band of a strip that is no wider than this
pub less_glass : (w bound height used least : ℕ) → w ≤ bound → least ≤ used → w * (height - used) ≤ bound * (height - least)
less_glass w bound height used least narrow low = mul-le w (height - used) bound (height - least) narrow (omega (arith, low))

-- a band that leaves more waste than the strip can bear does not lead to an end that is near enough
pub least_waste : (top w height x d low own area between before behind : ℕ) → w ≤ top → low ≤ x → own ≤ d → x + d ≤ height → area ≤ before → before ≤ between + behind → behind ≤ w * (height - (x + d)) →
    top * own - between ≤ top * (height - low) - area
least_waste top w height x d low own area between before behind narrow lx ld sum near split rest =
    let above : ℕ = height - (low + own) in
    let most : w * (height - (x + d)) ≤ top * above = less_glass w top height (x + d) (low + own) narrow (omega (arith, lx, ld)) in
    let whole : top * (height - low) ≡ top * (above + own) = ap (λ n. top * n) (omega (arith, lx, ld, sum)) in
    omega (arith, most, whole, mul-add top above own, near, split, rest)

pub tried_kept : (levels : List RowFacts) (l : Limits) (g : ℕ) (old new : List (List FrontLabel)) (label : FrontLabel) (m : Move) → Spreads g old new → Tried levels l old label m → Tried levels l new label m
unfolding Tried
tried_kept levels l g old new label m s tried x d w to_go own next sum narrow tails near = kept_at g old new s m.to (x + d) w (tried x d w to_go own next sum narrow tails near)

pub band_kept : (rows : List FrontRow) (levels : List RowFacts) (l : Limits) (g : ℕ) (old new : List (List FrontLabel)) (n below : ℕ) (label : FrontLabel) (slack : ℕ) (m : Move) → Spreads g old new → BandTried rows levels l old n below label slack m → BandTried rows levels l new n below label slack m
unfolding BandTried
band_kept rows levels l g old new n below label slack m s tried down low = tried_kept levels l g old new label m s (tried down low)

pub extended_kept : (rows : List FrontRow) (levels : List RowFacts) (l : Limits) (g : ℕ) (old new : List (List FrontLabel)) (n below : ℕ) (bands : List Move) (ends : List End) (label : FrontLabel) → Spreads g old new → Extended rows levels l old n below bands ends label → Extended rows levels l new n below bands ends label
unfolding Extended
extended_kept rows levels l g old new n below bands ends label s extended m has x d w own next may = kept_at g old new s m.to (x + d) w (extended m has x d w own next may)

pub row_kept : (rows : List FrontRow) (levels : List RowFacts) (l : Limits) (g : ℕ) (old new : List (List FrontLabel)) (n below : ℕ) (bands : List Move) (ends : List End) → Spreads g old new → g ≤ n → ExtendedBy rows levels l old n below bands ends → ExtendedBy rows levels l new n below bands ends
unfolding ExtendedBy
row_kept rows levels l g old new n below bands ends s le extended x w held m has d next may =
    kept_at g old new s m.to (x + d) w (extended x w (subst (λ row. Held row x w) (s.same n le) held) m has d next may)

-- where no label leads to the row
pub row_empty : (rows : List FrontRow) (levels : List RowFacts) (l : Limits) (pool : List (List FrontLabel)) (n : ℕ) → row_at pool n ≡ [] → RowExtended rows levels l pool n
unfolding ExtendedBy
row_empty rows levels l pool n none x w held m has d next may = absurd (fits_none (row_at pool n) x w none held)

-- each label of a row is extended
pub row_extended : (rows : List FrontRow) (levels : List RowFacts) (l : Limits) (pool : List (List FrontLabel)) (n below : ℕ) (bands : List Move) (ends : List End) → ((k : ℕ) (d : FrontLabel) → k < length (row_at pool n) → Extended rows levels l pool n below bands ends (get_or (row_at pool n) k d)) →
    ExtendedBy rows levels l pool n below bands ends
unfolding ExtendedBy Extended Held
row_extended rows levels l pool n below bands ends each x w (label, (k, lt, is), fits) m has d next may =
    subst (λ (a : FrontLabel). Extended rows levels l pool n below bands ends a) is (each k label lt) m has x d w fits next may

-- each band is tried, or leaves more waste than the strip can bear
pub all_tried : (rows : List FrontRow) (levels : List RowFacts) (l : Limits) (pool : List (List FrontLabel)) (n below : ℕ) (bands : List Move) (ends : List End) (label : FrontLabel) (area slack : ℕ) → l.bound ≤ l.top → slack ≡ l.top * (l.height - label.along.least) - area →
    ((before to_go : ℕ) → Ended ends before to_go → to_go + label.across.least ≤ l.most → area ≤ before) →
    ((m : Move) → Contains bands m → m.label.across.least ≤ l.top → BandTried rows levels l pool n below label slack m) → Extended rows levels l pool n below bands ends label
unfolding Extended BandTried Tried
all_tried rows levels l pool n below bands ends label area slack bound is near tried m has x d w own next may =
    let wide : label.across.least ≤ w = least_first label.across w own.1 in
    let narrow : m.label.across.least ≤ l.top = omega (arith, least_first m.label.across w next.1, may.narrow, bound) in
    let least : waste_of rows n l.top m ≤ l.top * (l.height - label.along.least) - area =
    least_waste l.top w l.height x d label.along.least m.label.along.least area (area_at rows n - area_at rows m.to) may.before may.behind
    (omega (arith, may.narrow, bound)) (least_first label.along x own.0) (least_first m.label.along d next.0) may.sum (near may.before may.to_go may.here (omega (arith, may.near, wide))) may.split may.rest in
    tried m has narrow may.down (omega (arith, least, is)) x d w may.to_go own next may.sum may.narrow may.tails may.near
