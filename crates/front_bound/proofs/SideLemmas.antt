-- Right sides of strips.
use Rattle.std.proofs.Common.{◌≡◌, ℕ, suc, ◌==◌, ◌+◌, ◌-◌, ◌<◌, ◌≤◌, ◌⊎◌, inl, inr, List, [], ◌∷◌, Contains, length, get_or, refl, sym, ap, ◌∙◌, subst, arith, Bool, true, false, IsTrue}
use Rattle.std.proofs.lemmas.Bool.{cases_lt}
use Rattle.std.proofs.lemmas.Bool.Decides.{nat_tests}
use Rattle.glass_base.specs.Plates.{Before, Width}
use Rattle.glass_base.specs.Problem.{Problem}
use Rattle.plan_trace.specs.TraceRules.{Gap}
use Rattle.front_course.specs.Fronts.{Front}
use Rattle.front_course.specs.Strips.{Band}
use Rattle.front_table.specs.declared.labels.FrontLabel.{FrontLabel}
use Rattle.front_table.specs.declared.sets.SizeSet.{SizeSet}
use Rattle.front_table.specs.declared.levels.RowFacts.{RowFacts}
use Rattle.front_table.specs.declared.rows.FrontRow.{FrontRow}
use Rattle.front_table.specs.declared.strips.Limits.{Limits}
use Rattle.front_table.specs.Sets.{Has, Held}
use Rattle.front_table.specs.Lattice.{IsLattice}
use Rattle.front_table.specs.Levels.{bands_at, ends_at, to_go_at, IsToGo}
use Rattle.front_table.specs.Pools.{row_at, HeldAt, Spreads}
use Rattle.front_table.specs.Ready.{ReadyFrom, Fitting, Built, TailsBelow}
use Rattle.front_table.specs.Tries.{RowExtended, Searchable}
use Rattle.front_bound.specs.Sides.{EndsHeld, StripHeld, Placed, NextHeld, PlateGoesOn, ClassGoesOn, BeginGoesOn, RowGoesOn, SidesGoOn}
use Rattle.front_table.proofs.Paths.{leads_down}
use Rattle.front_table.proofs.PoolRows.{kept_at}
use Rattle.front_bound.proofs.PlacedRows.{one_held}
use Rattle.front_table.proofs.StripRuns.{strip_down, strips_held}
use Rattle.glass_base.specs.declared.limits.TheConstants.{MOST_PLATES}

pub gap_behind : (waste from to : ℕ) → Gap waste from to → from ≤ to
gap_behind waste from to (inl same) = omega (arith, same)
gap_behind waste from to (inr least) = omega (arith, least)

pub ends_kept : (b : Problem) (far most g : ℕ) (old new : List (List FrontLabel)) (m plate from width : ℕ) → Spreads g old new → EndsHeld b far most old m plate from width → EndsHeld b far most new m plate from width
unfolding EndsHeld
ends_kept b far most g old new m plate from width s held right gap within near = kept_at g old new s m right plate (held right gap within near)

-- no right side is on the plate, or near enough
pub ends_wide : (b : Problem) (far most : ℕ) (sides : List (List FrontLabel)) (m plate from width : ℕ) → Width b plate < from + width → EndsHeld b far most sides m plate from width
unfolding EndsHeld
ends_wide b far most sides m plate from width wide right gap within near = absurd (omega (arith, wide, gap_behind b.params.waste (from + width) right gap, within))

pub ends_far : (b : Problem) (far most : ℕ) (sides : List (List FrontLabel)) (m plate from width : ℕ) → most < Before b plate + (from + width) + far → EndsHeld b far most sides m plate from width
unfolding EndsHeld
ends_far b far most sides m plate from width past right gap within near = absurd (omega (arith, past, gap_behind b.params.waste (from + width) right gap, near))

-- of strips whose items have places
pub strip_held : (b : Problem) (far most : ℕ) (sides : List (List FrontLabel)) (m plate from width : ℕ) (f : Front) (bands : List Band) → EndsHeld b far most sides m plate from width → StripHeld b far most sides m plate from width f bands
unfolding EndsHeld StripHeld
strip_held b far most sides m plate from width f bands held right placed gap within near = held right gap within near

strip_kept : (b : Problem) (far most g : ℕ) (old new : List (List FrontLabel)) (m plate from width : ℕ) (f : Front) (bands : List Band) → Spreads g old new → StripHeld b far most old m plate from width f bands → StripHeld b far most new m plate from width f bands
unfolding StripHeld
strip_kept b far most g old new m plate from width f bands s held right placed gap within near = kept_at g old new s m right plate (held right placed gap within near)

-- right sides that a set has are held where it is offered
pub ends_offered : (b : Problem) (far most : ℕ) (sides : List (List FrontLabel)) (m plate from width : ℕ) → ((right : ℕ) → Gap b.params.waste (from + width) right → HeldAt sides m right plate) → EndsHeld b far most sides m plate from width
unfolding EndsHeld
ends_offered b far most sides m plate from width each right gap within near = each right gap

-- a label of a plate
pub plate_only : (s : SizeSet) (plate plates : ℕ) → s.more ≡ 4294967295 → plates ≤ MOST_PLATES → Has s plate → plate < plates → plate ≡ s.least
plate_only s plate plates more few (inl same) lt = same
plate_only s plate plates more few (inr above) lt = absurd (omega (arith, more, few, above, lt))

pub true_false : (t : Bool) → IsTrue t → t ≡ false → ⊥
true_false t is not = let wrong : true ≡ false = sym is ∙ not in cc

-- strips of the widths below one, where no strip is so narrow
pub plate_none : (b : Problem) (rows : List FrontRow) (to_go : ℕ → ℕ) (most : ℕ) (sides : List (List FrontLabel)) (n : ℕ) (begins : List FrontLabel) (plate low : ℕ) → low ≤ b.params.min1 → PlateGoesOn b rows to_go most sides n begins plate low
unfolding PlateGoesOn
plate_none b rows to_go most sides n begins plate low le f at from held w bands is below m to = absurd (omega (arith, is.wide, below, le))

pub plate_kept : (b : Problem) (rows : List FrontRow) (to_go : ℕ → ℕ) (most g : ℕ) (old new : List (List FrontLabel)) (n : ℕ) (begins : List FrontLabel) (plate low : ℕ) → Spreads g old new → PlateGoesOn b rows to_go most old n begins plate low →
    PlateGoesOn b rows to_go most new n begins plate low
unfolding PlateGoesOn
plate_kept b rows to_go most g old new n begins plate low s goes f at from held w bands is below m to = strip_kept b (to_go m) most g old new m plate from w f bands s (goes f at from held w bands is below m to)

-- one class more; `first` is where strips begin at the earliest
pub plate_next : (b : Problem) (rows : List FrontRow) (to_go : ℕ → ℕ) (most : ℕ) (sides : List (List FrontLabel)) (n : ℕ) (begins : List FrontLabel) (plate low top room left first next : ℕ) → PlateGoesOn b rows to_go most sides n begins plate low →
    ClassGoesOn b rows to_go most sides n begins plate low top room left → ((from : ℕ) → Held begins from plate → first ≤ from) → Width b plate ≤ first + room → most ≤ Before b plate + first + left → next ≤ top + 1 →
    PlateGoesOn b rows to_go most sides n begins plate next
unfolding PlateGoesOn ClassGoesOn
plate_next b rows to_go most sides n begins plate low top room left first next before class least wide far ends f at from held w bands is below m to =
    elim (cases_lt w low) [
      | inl narrower ↦ before f at from held w bands is narrower m to
      | inr enough ↦
          elim (cases_lt room w) [
            | inl wider ↦ strip_held b (to_go m) most sides m plate from w f bands (ends_wide b (to_go m) most sides m plate from w (omega (arith, wider, wide, least from held)))
            | inr fits ↦
                elim (cases_lt left (w + to_go m)) [
                  | inl further ↦ strip_held b (to_go m) most sides m plate from w f bands (ends_far b (to_go m) most sides m plate from w (omega (arith, further, far, least from held)))
                  | inr near ↦ class f at from held w bands is enough (omega (arith, below, ends)) fits m to near
                ]
          ]
    ]

-- no strip is wider than the greatest width
pub plate_all : (b : Problem) (rows : List FrontRow) (to_go : ℕ → ℕ) (most : ℕ) (sides : List (List FrontLabel)) (n : ℕ) (begins : List FrontLabel) (plate low other : ℕ) → b.params.max1 < low → PlateGoesOn b rows to_go most sides n begins plate low → PlateGoesOn b rows to_go most sides n begins plate other
unfolding PlateGoesOn
plate_all b rows to_go most sides n begins plate low other past goes f at from held w bands is below m to = goes f at from held w bands is (omega (arith, is.narrow, past)) m to

-- where strips begin too far on
pub plate_far : (b : Problem) (rows : List FrontRow) (to_go : ℕ → ℕ) (most : ℕ) (sides : List (List FrontLabel)) (n : ℕ) (begins : List FrontLabel) (plate first low : ℕ) → ((from : ℕ) → Held begins from plate → first ≤ from) → most < Before b plate + first →
    PlateGoesOn b rows to_go most sides n begins plate low
unfolding PlateGoesOn
plate_far b rows to_go most sides n begins plate first low least past f at from held w bands is below m to = strip_held b (to_go m) most sides m plate from w f bands (ends_far b (to_go m) most sides m plate from w (omega (arith, past, least from held)))

-- a class of strips that are held where they end
pub class_goes_on : (b : Problem) (rows : List FrontRow) → IsLattice b rows → (levels : List RowFacts) (l : Limits) (cover : ℕ) → Fitting b l cover → (start : ℕ) → ReadyFrom b rows levels cover (to_go_at levels) start → TailsBelow b rows levels l.class l.bound (to_go_at levels) start → (pool : List (List FrontLabel)) →
    ((n : ℕ) → n ≤ start → RowExtended rows levels l pool n) → (low : ℕ) → ((x w : ℕ) → (x ≡ 0) ⊎ (0 + b.params.waste ≤ x) → low ≤ w → HeldAt pool start x w) → (most : ℕ) (sides : List (List FrontLabel)) (begins : List FrontLabel) (plate top room : ℕ) →
    ((w : ℕ) → w ≤ top → w ≤ b.params.max1 → w ≤ room → w ≤ l.bound) → ((m from width : ℕ) → m < start → Held begins from plate → HeldAt pool m b.params.height width → EndsHeld b (to_go_at levels m) most sides m plate from width) →
    ClassGoesOn b rows (to_go_at levels) most sides start begins plate low top room l.most
unfolding ClassGoesOn
class_goes_on b rows h levels l cover fit start r under pool extended low begun most sides begins plate top room bound ends f at from held w bands is wide narrow fits m to near =
    strip_held b (to_go_at levels m) most sides m plate from w f bands (ends m from w (strip_down b rows h f start at w bands is m to) held
    (subst (λ k. HeldAt pool m k w) fit.height (strips_held b rows h levels l cover fit (to_go_at levels) start start (bands_at levels start) (ends_at levels start) r under pool (extended start (omega arith)) (λ n lt. extended n (omega (arith, lt))) low begun f at w bands is wide (bound w narrow is.narrow fits) m to near)))

-- strips on all plates are held where they end, so those from the row are
pub row_goes_on : (b : Problem) (rows : List FrontRow) (levels : List RowFacts) (most : ℕ) (sides : List (List FrontLabel)) (n : ℕ) (behind begins : List FrontLabel) → IsToGo b rows (to_go_at levels) n →
    ((from plate : ℕ) → Held behind from plate → Held begins from plate) → ((from plate : ℕ) → Held behind from plate → NextHeld b (to_go_at levels n) most begins from plate) →
    ((plate : ℕ) → plate < b.params.plates → PlateGoesOn b rows (to_go_at levels) most sides n begins plate (b.params.max1 + 1)) → RowGoesOn b rows (to_go_at levels) most behind sides n
unfolding RowGoesOn PlateGoesOn StripHeld
row_goes_on b rows levels most sides n behind begins far own next each f at plate from held strip follows m to near =
    let w : ℕ = strip.width in
    let below : w < b.params.max1 + 1 = omega (arith, follows.is_strip.narrow) in
    let leaves = far f at w strip.bands follows.is_strip m to in
    let placed : Placed b strip.plate strip.right w f strip.bands = record { places = follows.places; end = follows.end } in
    elim follows.behind [
      | inl here ↦
          let begin : Held begins from strip.plate = subst (λ k. Held begins from k) (sym here.0) (own from plate held) in
          each strip.plate follows.few f at from begin w strip.bands follows.is_strip below m to strip.right placed here.1 follows.within near
      | inr there ↦
          let few : suc plate < b.params.plates = omega (arith, there.0, follows.few) in
          let before : Before b (suc plate) + to_go_at levels n ≤ most = omega (arith, ap (Before b) there.0, near, leaves, gap_behind b.params.waste w strip.right there.2) in
          let begin : Held begins 0 strip.plate = subst (λ k. Held begins 0 k) (sym there.0) (next from plate held few there.1 before) in
          each strip.plate follows.few f at 0 begin w strip.bands follows.is_strip below m to strip.right placed (subst (λ k. Gap b.params.waste k strip.right) (omega arith) there.2) follows.within near
    ]

-- what a table of all rows says to a search
pub built_searchable : (b : Problem) (rows : List FrontRow) (tops : List ℕ) (cover : ℕ) (levels : List RowFacts) → Built b rows tops cover levels → (start : ℕ) → start < length levels → (l : Limits) →
    l.bound ≤ l.top → Searchable levels l start start (bands_at levels start) (ends_at levels start)
built_searchable b rows tops cover levels o start within l bound = record {
  low = omega arith;
  len = omega (arith, within);
  bound = bound;
  falls = λ n lt. (o.each n (omega (arith, lt, within))).falls;
  rises = λ n lt. (o.each n (omega (arith, lt, within))).rises;
  own_falls = (o.each start within).falls;
  own_rises = (o.each start within).rises;
}

pub built_ready : (b : Problem) (rows : List FrontRow) → IsLattice b rows → (tops : List ℕ) (cover : ℕ) (levels : List RowFacts) → Built b rows tops cover levels → (start : ℕ) → start < length levels → ReadyFrom b rows levels cover (to_go_at levels) start
built_ready b rows h tops cover levels o start within = record {
  lead = (o.each start within).bands;
  behind = λ f at stacks some takes m to area left few. o.ends start within f at stacks takes m to area left few;
  beneath = leads_down b rows h start;
  leads_below = λ n lt. (o.each n (omega (arith, lt, within))).bands;
  ends_below = λ n lt. o.ends n (omega (arith, lt, within));
}

-- what is held in one pool is in another
pub row_joined : (b : Problem) (rows : List FrontRow) (to_go : ℕ → ℕ) (most : ℕ) (begins : List FrontLabel) (old new : List (List FrontLabel)) (n : ℕ) → ((m x y : ℕ) → HeldAt old m x y → HeldAt new m x y) → RowGoesOn b rows to_go most begins old n → RowGoesOn b rows to_go most begins new n
unfolding RowGoesOn
row_joined b rows to_go most begins old new n joined goes f at plate from held strip follows m to near = joined m strip.right strip.plate (goes f at plate from held strip follows m to near)

pub row_kept : (b : Problem) (rows : List FrontRow) (to_go : ℕ → ℕ) (most g : ℕ) (begins : List FrontLabel) (old new : List (List FrontLabel)) (n : ℕ) → Spreads g old new → RowGoesOn b rows to_go most begins old n → RowGoesOn b rows to_go most begins new n
row_kept b rows to_go most g begins old new n s goes = row_joined b rows to_go most begins old new n (kept_at g old new s) goes

-- what was found behind the sides of a row, where that row has not changed since
pub sides_joined : (b : Problem) (rows : List FrontRow) (to_go : ℕ → ℕ) (most g : ℕ) (old offered new : List (List FrontLabel)) (n : ℕ) → Spreads g old new → g ≤ n → ((m x y : ℕ) → HeldAt offered m x y → HeldAt new m x y) → RowGoesOn b rows to_go most (row_at old n) offered n → SidesGoOn b rows to_go most new n
sides_joined b rows to_go most g old offered new n s le joined goes = subst (λ l. RowGoesOn b rows to_go most l new n) (sym (s.same n le)) (row_joined b rows to_go most (row_at old n) offered new n joined goes)

pub sides_kept : (b : Problem) (rows : List FrontRow) (to_go : ℕ → ℕ) (most g : ℕ) (old new : List (List FrontLabel)) (n : ℕ) → Spreads g old new → g ≤ n → SidesGoOn b rows to_go most old n → SidesGoOn b rows to_go most new n
sides_kept b rows to_go most g old new n s le goes = sides_joined b rows to_go most g old old new n s le (kept_at g old new s) goes

-- the rows of one level more
pub sides_next : (b : Problem) (rows : List FrontRow) (to_go : ℕ → ℕ) (most first end all : ℕ) (old new : List (List FrontLabel)) → Spreads end old new → ((n : ℕ) → first ≤ n → n < end → SidesGoOn b rows to_go most new n) → ((n : ℕ) → end ≤ n → n < all → SidesGoOn b rows to_go most old n) →
    (n : ℕ) → first ≤ n → n < all → SidesGoOn b rows to_go most new n
sides_next b rows to_go most first end all old new s goes before n from lt =
    elim (cases_lt n end) [
      | inl below ↦ goes n from below
      | inr above ↦ sides_kept b rows to_go most end old new n s above (before n above lt)
    ]

-- a class behind each begin: those that are clear of defects, and each of the others
pub class_joined : (b : Problem) (rows : List FrontRow) (to_go : ℕ → ℕ) (most : ℕ) (sides : List (List FrontLabel)) (n : ℕ) (begins clear : List FrontLabel) (plate low top room left : ℕ) →
    ((k : ℕ) (d : FrontLabel) → k < length begins → Contains clear (get_or begins k d) ⊎ ClassGoesOn b rows to_go most sides n (get_or begins k d ∷ []) plate low top room left) → ClassGoesOn b rows to_go most sides n clear plate low top room left →
    ClassGoesOn b rows to_go most sides n begins plate low top room left
unfolding ClassGoesOn Held
class_joined b rows to_go most sides n begins clear plate low top room left each goes f at from (l, (k, lt, is), fits) w bands is_strip wide narrow roomy m to near =
    elim (each k l lt) [
      | inl has ↦ goes f at from (l, subst (Contains clear) is has, fits) w bands is_strip wide narrow roomy m to near
      | inr own ↦ own f at from (l, (0, omega arith, is), fits) w bands is_strip wide narrow roomy m to near
    ]

pub class_kept : (b : Problem) (rows : List FrontRow) (to_go : ℕ → ℕ) (most g : ℕ) (old new : List (List FrontLabel)) (n : ℕ) (begins : List FrontLabel) (plate low top room left : ℕ) → Spreads g old new → ClassGoesOn b rows to_go most old n begins plate low top room left →
    ClassGoesOn b rows to_go most new n begins plate low top room left
unfolding ClassGoesOn
class_kept b rows to_go most g old new n begins plate low top room left s goes f at from held w bands is wide narrow roomy m to near = strip_kept b (to_go m) most g old new m plate from w f bands s (goes f at from held w bands is wide narrow roomy m to near)

-- no strip begins there
pub class_none : (b : Problem) (rows : List FrontRow) (to_go : ℕ → ℕ) (most : ℕ) (sides : List (List FrontLabel)) (n : ℕ) (begin : FrontLabel) (plate low top room left : ℕ) → (Has begin.across plate → ⊥) → ClassGoesOn b rows to_go most sides n (begin ∷ []) plate low top room left
unfolding ClassGoesOn
class_none b rows to_go most sides n begin plate low top room left none f at from held w bands is wide narrow roomy m to near = absurd (none (one_held begin from plate held).1)

-- no strip of the class is so narrow
pub class_narrow : (b : Problem) (rows : List FrontRow) (to_go : ℕ → ℕ) (most : ℕ) (sides : List (List FrontLabel)) (n : ℕ) (begins : List FrontLabel) (plate low top room left bound : ℕ) → bound < low → ((w : ℕ) → w ≤ top → w ≤ b.params.max1 → w ≤ room → w ≤ bound) →
    ClassGoesOn b rows to_go most sides n begins plate low top room left
unfolding ClassGoesOn
class_narrow b rows to_go most sides n begins plate low top room left bound below fits f at from held w bands is wide narrow roomy m to near = absurd (omega (arith, fits w narrow is.narrow roomy, wide, below))

pub none_left : (n : ℕ) → true ≡ (n == 0) → n ≡ 0
none_left n e = grind (arith, nat_tests)

pub class_empty : (b : Problem) (rows : List FrontRow) (to_go : ℕ → ℕ) (most : ℕ) (sides : List (List FrontLabel)) (n : ℕ) (begins : List FrontLabel) (plate low top room left : ℕ) → length begins ≡ 0 → ClassGoesOn b rows to_go most sides n begins plate low top room left
unfolding ClassGoesOn Held
class_empty b rows to_go most sides n begins plate low top room left none f at from (l, (k, lt, is), fits) w bands is_strip wide narrow roomy m to near = absurd (omega (arith, lt, none))

-- one begin more
pub begin_case : {A B : Type 0} (done : Bool) → (done ≡ false → A) → (done ≡ true → B) → A ⊎ B
begin_case true clear own = inr (own refl)
begin_case false clear own = inl (clear refl)

pub begin_kept : (b : Problem) (rows : List FrontRow) (to_go : ℕ → ℕ) (most g : ℕ) (old new : List (List FrontLabel)) (n : ℕ) (clear more : List FrontLabel) (begin : FrontLabel) (plate low top room left : ℕ) → Spreads g old new → ((l : FrontLabel) → Contains clear l → Contains more l) →
    BeginGoesOn b rows to_go most old n clear begin plate low top room left → BeginGoesOn b rows to_go most new n more begin plate low top room left
begin_kept b rows to_go most g old new n clear more begin plate low top room left s kept (inl has) = inl (kept begin has)
begin_kept b rows to_go most g old new n clear more begin plate low top room left s kept (inr own) = inr (class_kept b rows to_go most g old new n (begin ∷ []) plate low top room left s own)

-- a class behind each of the begins
pub class_whole : (b : Problem) (rows : List FrontRow) (to_go : ℕ → ℕ) (most g : ℕ) (old new : List (List FrontLabel)) (n : ℕ) (begins clear : List FrontLabel) (plate low top room left : ℕ) → Spreads g old new →
    ((k : ℕ) (d : FrontLabel) → k < length begins → BeginGoesOn b rows to_go most old n clear (get_or begins k d) plate low top room left) → ClassGoesOn b rows to_go most new n clear plate low top room left → ClassGoesOn b rows to_go most new n begins plate low top room left
class_whole b rows to_go most g old new n begins clear plate low top room left s each goes =
    class_joined b rows to_go most new n begins clear plate low top room left (λ k d lt. begin_kept b rows to_go most g old new n clear clear (get_or begins k d) plate low top room left s (λ l has. has) (each k d lt)) goes
