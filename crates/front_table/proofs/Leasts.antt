-- The least that strips leave to go, class by class.
use Rattle.std.proofs.Common.{◌≡◌, ℕ, ◌+◌, ◌*◌, ◌<◌, ◌≤◌, inl, inr, List, length, get_or, arith}
use Rattle.std.proofs.lemmas.Bool.{cases_lt}
use Rattle.std.proofs.lemmas.Nat.{mul-le}
use Rattle.glass_base.specs.Problem.{Problem}
use Rattle.front_table.specs.declared.levels.RowFacts.{RowFacts}
use Rattle.front_table.specs.declared.rows.FrontRow.{FrontRow}
use Rattle.front_table.specs.declared.strips.Limits.{Limits}
use Rattle.front_table.specs.Levels.{to_go_at}
use Rattle.front_table.specs.Packed.{unpacked_all}
use Rattle.front_table.specs.Ready.{Ready, TailsBelow, Fitting, Built, Opened, IsLeast, LeastBelow, LeavesLeast, tails_in}
use Rattle.front_course.specs.Strips.{bands_height}
use Rattle.front_table.specs.Tails.{tail_at, unit_in}
use Rattle.front_table.specs.Tries.{Searchable}
use Rattle.front_table.proofs.CellRuns.{gap_within}

-- no strip is narrower than the least width
pub least_none : (b : Problem) (rows : List FrontRow) (to_go : ℕ → ℕ) (start low most least : ℕ) → low ≤ b.params.min1 → LeastBelow b rows to_go start low most least
unfolding LeastBelow
least_none b rows to_go start low most least le f at w bands is below m to near = absurd (omega (arith, is.wide, below, le))

-- one class more
pub least_next : (b : Problem) (rows : List FrontRow) (to_go : ℕ → ℕ) (start low top limit found most least more next : ℕ) → LeastBelow b rows to_go start low limit found → IsLeast b rows to_go start low top most least →
    ((n : ℕ) → n ≤ limit → n < found → n ≤ most) → more ≤ found → more ≤ least → next ≤ top + 1 → LeastBelow b rows to_go start next limit more
unfolding LeastBelow
least_next b rows to_go start low top limit found most least more next before class near_most le_found le_least ends f at w bands is below m to near =
    elim (cases_lt w low) [
      | inl narrower ↦ omega (arith, before f at w bands is narrower m to near, le_found)
      | inr wide ↦
          elim (cases_lt (w + to_go m) found) [
            | inl less ↦ omega (arith, class f at w bands is wide (omega (arith, below, ends)) m to (near_most (w + to_go m) near less), le_least)
            | inr far ↦ omega (arith, far, le_found)
          ]
    ]

-- all classes
pub least_all : (b : Problem) (rows : List FrontRow) (to_go : ℕ → ℕ) (start low limit found least : ℕ) → LeastBelow b rows to_go start low limit found → b.params.max1 < low → least ≤ found → least ≤ limit + 1 → LeavesLeast b rows to_go start least
unfolding LeastBelow LeavesLeast
least_all b rows to_go start low limit found least below past le_found le_limit f at w bands is m to =
    elim (cases_lt limit (w + to_go m)) [
      | inl far ↦ omega (arith, far, le_limit)
      | inr near ↦ omega (arith, below f at w bands is (omega (arith, is.narrow, past)) m to near, le_found)
    ]

pub least_zero : (b : Problem) (rows : List FrontRow) (to_go : ℕ → ℕ) (start : ℕ) → LeavesLeast b rows to_go start 0
unfolding LeavesLeast
least_zero b rows to_go start f at w bands is m to = omega arith

-- strips are no wider than the greatest width anyway
pub least_wider : (b : Problem) (rows : List FrontRow) (to_go : ℕ → ℕ) (start low bound top most least : ℕ) → ((w : ℕ) → w ≤ top → w ≤ b.params.max1 → w ≤ bound) → IsLeast b rows to_go start low bound most least → IsLeast b rows to_go start low top most least
least_wider b rows to_go start low bound top most least within is_least f at w bands is wide narrow m to near = is_least f at w bands is wide (within w narrow is.narrow) m to near

-- what an opened table says to a search
pub opened_searchable : (b : Problem) (rows : List FrontRow) (tops : List ℕ) (cover : ℕ) (levels : List RowFacts) (start : ℕ) (level : RowFacts) → Opened b rows tops cover levels start level → (l : Limits) → l.bound ≤ l.top →
    Searchable levels l start (length levels) (unpacked_all level.bands.items) level.ends.items
opened_searchable b rows tops cover levels start level o l bound = record {
  low = o.low;
  len = omega arith;
  bound = bound;
  falls = λ n lt. (o.built.each n lt).falls;
  rises = λ n lt. (o.built.each n lt).rises;
  own_falls = o.is.falls;
  own_rises = o.is.rises;
}

pub opened_ready : (b : Problem) (rows : List FrontRow) (tops : List ℕ) (cover : ℕ) (levels : List RowFacts) (start : ℕ) (level : RowFacts) → Opened b rows tops cover levels start level →
    Ready b rows levels cover (to_go_at levels) start (length levels) (unpacked_all level.bands.items) level.ends.items
opened_ready b rows tops cover levels start level o = record {
  lead = o.is.bands;
  behind = o.is.behind;
  beneath = o.beneath;
  leads_below = λ n lt. (o.built.each n lt).bands;
  ends_below = o.built.ends;
}

pub fits : (b : Problem) (l : Limits) (cover : ℕ) → l.height ≡ b.params.height → l.bound ≤ b.params.max1 → b.params.max1 * b.params.height ≤ cover → Fitting b l cover
fits b l cover height bound enough = record {
  height = height;
  bound = bound;
  covered = omega (arith, mul-le l.bound l.height b.params.max1 b.params.height bound (omega (arith, height)), enough);
}

-- what a table says of the tails of a class
pub built_tails : (b : Problem) (rows : List FrontRow) (tops : List ℕ) (cover : ℕ) (levels : List RowFacts) → Built b rows tops cover levels → (below : ℕ) → below ≤ length levels → (class bound : ℕ) → class < length tops → bound ≤ get_or tops class 0 →
    TailsBelow b rows levels class bound (to_go_at levels) below
built_tails b rows tops cover levels built below within class bound lt top n less f at w bands are narrow most low m to k fits =
    built.tails n (omega (arith, less, within)) class 0 lt f at w bands are (omega (arith, narrow, top)) most low m to k fits

-- no strip of a class is near enough
pub class_beyond : (b : Problem) (rows : List FrontRow) (tops : List ℕ) (cover : ℕ) (levels : List RowFacts) (start : ℕ) (level : RowFacts) → Opened b rows tops cover levels start level → (class low most least tail k : ℕ) → class < length tops → tail ≤ tail_at (tails_in level class) k →
    b.params.height < (k + 1) * unit_in b.params.height → most < tail + low → IsLeast b rows (to_go_at levels) start low (get_or tops class 0) most least
class_beyond b rows tops cover levels start level o class low most least tail k lt is fits past f at w bands strip wide narrow m to near =
    let within : bands_height bands ≤ b.params.height = gap_within b.params.waste (bands_height bands) b.params.height strip.fill in
    absurd (omega (arith, near, wide, past, is, o.is.tails class 0 lt f at w bands strip.some strip.each narrow strip.narrow within m to k (omega (arith, within, fits))))
