-- What is to go behind stacks of bands.
use Rattle.std.proofs.Common.{◌≡◌, ℕ, ◌+◌, ◌*◌, ◌-◌, ◌<◌, ◌≤◌, inl, inr, List, [], ◌∷◌, ◌++◌, length, length-append, get_or, ap, ◌∙◌, refl, sym, subst, arith, Contains}
use Rattle.std.proofs.Math.Seq.{get_or-append_seam}
use Rattle.std.proofs.Math.ListN.{get_or-eq_default}
use Rattle.std.proofs.lemmas.List.{get_or_append_left, get_or_default}
use Rattle.std.proofs.Math.Nat.{mul-add, mul_comm}
use Rattle.std.proofs.lemmas.Bool.{cases_lt}
use Rattle.std.proofs.lemmas.Nat.{mul-le}
use Rattle.glass_base.specs.Problem.{Problem}
use Rattle.front_course.specs.Fronts.{Front}
use Rattle.front_course.specs.Cells.{after_cells}
use Rattle.front_course.specs.Strips.{bands_height}
use Rattle.front_table.specs.declared.levels.RowFacts.{RowFacts}
use Rattle.front_table.specs.declared.moves.Move.{Move}
use Rattle.front_table.specs.declared.rows.FrontRow.{FrontRow}
use Rattle.front_table.specs.Lattice.{At}
use Rattle.front_table.specs.Leads.{BandsLead, Moved, cells_area}
use Rattle.front_table.specs.Levels.{to_go_at}
use Rattle.front_table.specs.Ready.{ClassTails}
use Rattle.front_table.specs.Tails.{unit_in, tail_at, tails_at, IsLower, AreBehind, AreBehindBand, AreBehindBands, AllBehind, AllLower, HasTails, HasTailsBehind, tails_of_all}
use Rattle.front_table.specs.Ends.{LeadsBelow}
use Rattle.front_table.proofs.HeldLists.{least_first}
use Rattle.front_table.proofs.StripRuns.{bands_below}

-- what is lowered further is still no more
behind_lower : (tails new others : List ℕ) (unit low : ℕ) → IsLower new tails → AreBehind tails others unit low → AreBehind new others unit low
unfolding AreBehind
behind_lower tails new others unit low less (q, within, behind) = (q, within, λ j. omega (arith, less (j + q), behind j))

-- where all tails are nothing
pub behind_all : (tails others : List ℕ) (unit low : ℕ) → ((k : ℕ) → tail_at tails k ≤ 0) → AreBehind tails others unit low
unfolding AreBehind
behind_all tails others unit low none = (0, omega arith, λ j. omega (arith, none (j + 0)))

pub behind_by : (tails others : List ℕ) (unit low q : ℕ) → q * unit ≤ low → ((j : ℕ) → tail_at tails (j + q) ≤ tail_at others j) → AreBehind tails others unit low
unfolding AreBehind
behind_by tails others unit low q within behind = (q, within, behind)

pub band_lower : (tails new : List ℕ) (levels : List RowFacts) (class unit : ℕ) (m : Move) → IsLower new tails → AreBehindBand tails levels class unit m → AreBehindBand new levels class unit m
unfolding AreBehindBand
band_lower tails new levels class unit m less behind lt = behind_lower tails new (tails_at levels m.to class) unit m.label.along.least less (behind lt)

pub behind_bands : (tails : List ℕ) (levels : List RowFacts) (class top unit : ℕ) (bands : List Move) → ((m : Move) → Contains bands m → m.label.across.least ≤ top → AreBehindBand tails levels class unit m) → AreBehindBands tails levels class top unit bands
unfolding AreBehindBands
behind_bands tails levels class top unit bands each = each

-- whole units in a height that is below some units
units_below : (q k unit low : ℕ) → q * unit ≤ low → low < (k + 1) * unit → q ≤ k
units_below q k unit low within below =
    elim (cases_lt k q) [
      | inl more ↦ absurd (omega (arith, mul-le (k + 1) unit q unit (omega (arith, more)) (omega arith), within, below))
      | inr le ↦ le
    ]

-- what is left of a stack above its first band
rest_below : (q k unit low high rest : ℕ) → q ≤ k → q * unit ≤ low → low ≤ high → high + rest < (k + 1) * unit → rest < (k - q + 1) * unit
rest_below q k unit low high rest le within least below =
    let j : ℕ = k - q in
    let whole : (k + 1) * unit ≡ (j + 1) * unit + q * unit = ap (λ n. n * unit) (omega (arith, le)) ∙ add-mul (j + 1) q unit in
    omega (arith, whole, within, least, below)
  where
    add-mul : (a c n : ℕ) → (a + c) * n ≡ a * n + c * n
    add-mul a c n = mul_comm (a + c) n ∙ mul-add n a c ∙ ap (λ x. x + n * c) (mul_comm n a) ∙ ap (λ x. a * n + x) (mul_comm n c)

-- tails that are no more than those behind each band of a class are those of the row
pub has_tails_behind : (b : Problem) (rows : List FrontRow) (levels : List RowFacts) (class top unit : ℕ) (to_go : ℕ → ℕ) (n : ℕ) (bands : List Move) (tails : List ℕ) → LeadsBelow b rows n (length levels) → BandsLead b rows n bands →
    ((m : ℕ) → m < length levels → HasTails b rows top unit to_go m (tails_at levels m class)) → AreBehindBands tails levels class top unit bands → HasTailsBehind b rows top unit to_go n tails
unfolding AreBehindBands AreBehindBand AreBehind
has_tails_behind b rows levels class top unit to_go n bands tails leads lead later behind f at w [] some are narrow most within m to k below = absurd (omega (arith, some))
has_tails_behind b rows levels class top unit to_go n bands tails leads lead later behind f at w (band ∷ rest) some are narrow most within m to k below =
    let g : Front = after_cells f band.cells in
    let mv : Moved b rows n bands g band.high w (cells_area b f band.cells) = lead f at w band most (omega (arith, within)) are.0 in
    let down : mv.move.to < length levels = bands_below b rows n (length levels) leads f at w band [] (are.0, tt) mv.move.to mv.at in
    let one = behind mv.move mv.has (omega (arith, least_first mv.move.label.across w mv.fits.1, narrow)) down in
    let low : mv.move.label.along.least ≤ band.high = least_first mv.move.label.along band.high mv.fits.0 in
    let q : ℕ = one.0 in
    let few : q ≤ k = units_below q k unit band.high (omega (arith, one.1, low)) (omega (arith, below)) in
    let j : ℕ = k - q in
    let left : bands_height rest < (j + 1) * unit = rest_below q k unit mv.move.label.along.least band.high (bands_height rest) few one.1 low below in
    let go : tail_at (tails_at levels mv.move.to class) j ≤ to_go m = later mv.move.to down g mv.at w rest are.1 narrow most (omega (arith, within)) m to j left in
    let same : j + q ≡ k = omega (arith, few) in
    omega (arith, one.2 j, go, ap (tail_at tails) same)

-- with the stack of no bands
pub has_tails : (b : Problem) (rows : List FrontRow) (top unit : ℕ) (to_go : ℕ → ℕ) (n : ℕ) (behind tails : List ℕ) → ((m : ℕ) (f : Front) → At b rows n f → At b rows m f → n ≡ m) → IsLower tails behind → ((k : ℕ) → tail_at tails k ≤ to_go n) →
    HasTailsBehind b rows top unit to_go n behind → HasTails b rows top unit to_go n tails
has_tails b rows top unit to_go n behind tails one less least has f at w [] are narrow most within m to k below = omega (arith, least k, ap to_go (one m f at to))
has_tails b rows top unit to_go n behind tails one less least has f at w (band ∷ rest) are narrow most within m to k below =
    omega (arith, less k, has f at w (band ∷ rest) (omega arith) are narrow most within m to k below)

-- one class more is lowered, and those behind it are as they were
pub record LoweredTo (all old : List (List ℕ)) (most many : ℕ) : Type 0 where
  pub len : length all ≡ length old
  pub done : (k : ℕ) → k < many → IsLower (tails_of_all all k) (tails_of_all old k) × ((j : ℕ) → tail_at (tails_of_all all k) j ≤ most)
  pub rest : (k : ℕ) → many ≤ k → tails_of_all all k ≡ tails_of_all old k

pub lowered_none : (all : List (List ℕ)) (most : ℕ) → LoweredTo all all most 0
lowered_none all most = record { len = refl; done = λ k lt. absurd (omega (arith, lt)); rest = λ k le. refl }

pub lowered_next : (all other old : List (List ℕ)) (most many : ℕ) → LoweredTo all old most many → length other ≡ length all → ((k : ℕ) → (k ≡ many → ⊥) → tails_of_all other k ≡ tails_of_all all k) →
    IsLower (tails_of_all other many) (tails_of_all all many) → ((j : ℕ) → tail_at (tails_of_all other many) j ≤ most) → LoweredTo other old most (many + 1)
lowered_next all other old most many to len others lower low = record {
  len = len ∙ to.len;
  done = λ k le.
      elim (cases_lt k many) [
        | inl before ↦ subst (λ l. IsLower l (tails_of_all old k) × ((j : ℕ) → tail_at l j ≤ most)) (sym (others k (λ e. absurd (omega (arith, e, before))))) (to.done k before)
        | inr here ↦
            let same : many ≡ k = omega (arith, le, here) in
            subst (λ n. IsLower (tails_of_all other n) (tails_of_all old n) × ((j : ℕ) → tail_at (tails_of_all other n) j ≤ most)) same
            (subst (λ l. IsLower (tails_of_all other many) l) (to.rest many (omega arith)) lower, low)
      ];
  rest = λ k le. others k (λ e. absurd (omega (arith, e, le))) ∙ to.rest k (omega (arith, le));
}

-- no more than what is greater
pub lowered_all : (all old : List (List ℕ)) (most to_go many : ℕ) → LoweredTo all old most many → most ≤ to_go → length old ≤ many → AllLower all old to_go (length old)
unfolding AllLower
lowered_all all old most to_go many to le whole = (to.len, λ k lt. ((to.done k (omega (arith, lt, whole))).0, λ j. omega (arith, (to.done k (omega (arith, lt, whole))).1 j, le)))

pub lower_length : (all old : List (List ℕ)) (most many : ℕ) → AllLower all old most many → length all ≡ many
unfolding AllLower
lower_length all old most many has = has.0

pub behind_none : (levels : List RowFacts) (bands : List Move) (tops : List ℕ) (unit : ℕ) → AllBehind [] levels bands tops unit 0
unfolding AllBehind
behind_none levels bands tops unit = (refl, λ k lt. absurd (omega (arith, lt)))

-- no more than what is greater
pub lower_all : (all old : List (List ℕ)) (most to_go many whole : ℕ) → AllLower all old most many → most ≤ to_go → many ≡ whole → AllLower all old to_go whole
unfolding AllLower
lower_all all old most to_go many whole has le same = (omega (arith, has.0, same), λ k lt. ((has.1 k (omega (arith, lt, same))).0, λ j. omega (arith, (has.1 k (omega (arith, lt, same))).1 j, le)))

pub behind_next : (levels : List RowFacts) (bands : List Move) (tops : List ℕ) (unit : ℕ) (all other : List (List ℕ)) (tails : List ℕ) (many : ℕ) → AllBehind all levels bands tops unit many → other ≡ all ++ tails ∷ [] →
    AreBehindBands tails levels many (get_or tops many 0) unit bands → AllBehind other levels bands tops unit (many + 1)
unfolding AllBehind
behind_next levels bands tops unit all other tails many has is own = subst (λ l. AllBehind l levels bands tops unit (many + 1)) (sym is) (omega (arith, length-append all (tails ∷ []), has.0), each)
  where
    each : (k : ℕ) → k < many + 1 → AreBehindBands (get_or (all ++ tails ∷ []) k []) levels k (get_or tops k 0) unit bands
    each k le =
        elim (cases_lt k many) [
          | inl old ↦ subst (λ l. AreBehindBands l levels k (get_or tops k 0) unit bands) (sym (get_or_append_left all (tails ∷ []) [] k (omega (arith, old, has.0)))) (has.1 k old)
          | inr new ↦
              let here : many ≡ k = omega (arith, le, new) in
              let place : many ≡ length all = omega (arith, has.0) in
              let last : get_or (all ++ tails ∷ []) many [] ≡ tails = ap (λ i. get_or (all ++ tails ∷ []) i []) place ∙ get_or-append_seam all tails [] [] in
              subst (λ n. AreBehindBands (get_or (all ++ tails ∷ []) n []) levels n (get_or tops n 0) unit bands) here
              (subst (λ l. AreBehindBands l levels many (get_or tops many 0) unit bands) (sym last) own)
        ]

-- the same of each class
pub each_lower : (all old : List (List ℕ)) (most many : ℕ) → AllLower all old most many → (k : ℕ) → IsLower (get_or all k []) (get_or old k []) × ((j : ℕ) → tail_at (get_or all k []) j ≤ most)
unfolding AllLower
each_lower all old most many has k =
    elim (cases_lt k many) [
      | inl lt ↦ has.1 k lt
      | inr past ↦
          subst (λ l. IsLower l (get_or old k []) × ((j : ℕ) → tail_at l j ≤ most)) (sym (get_or-eq_default all [] (omega (arith, has.0, past)))) (λ j. omega arith, λ j. omega arith)
    ]

-- the tails of a row in each class
pub class_tails_behind : (b : Problem) (rows : List FrontRow) (tops : List ℕ) (levels : List RowFacts) (n : ℕ) (bands : List Move) (all : List (List ℕ)) (unit : ℕ) → LeadsBelow b rows n (length levels) → BandsLead b rows n bands →
    ((m : ℕ) → m < length levels → ClassTails b rows tops levels m) → AllBehind all levels bands tops unit (length tops) → unit ≡ unit_in b.params.height → (k d : ℕ) → k < length tops → HasTailsBehind b rows (get_or tops k d) (unit_in b.params.height) (to_go_at levels) n (get_or all k [])
unfolding AllBehind
class_tails_behind b rows tops levels n bands all unit leads lead built behind same k d lt =
    let top : get_or tops k 0 ≡ get_or tops k d = get_or_default tops k 0 d lt in
    subst (λ u. HasTailsBehind b rows (get_or tops k d) u (to_go_at levels) n (get_or all k [])) same
    (has_tails_behind b rows levels k (get_or tops k d) unit (to_go_at levels) n bands (get_or all k []) leads lead
    (λ m less. subst (λ u. HasTails b rows (get_or tops k d) u (to_go_at levels) m (tails_at levels m k)) (sym same) (built m less k d lt)) (subst (λ w. AreBehindBands (get_or all k []) levels k w unit bands) top (behind.1 k lt)))
