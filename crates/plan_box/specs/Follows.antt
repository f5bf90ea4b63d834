-- Steps that are decided, one after another.
use Rattle.std.specs.Prelude.{ℕ, ◌+◌, ◌*◌, List, [], ◌∷◌}
use Rattle.glass_base.specs.Problem.{Problem}
use Rattle.plan_trace.specs.declared.level.Level.{Level}
use Rattle.plan_trace.specs.Marks.{Draw, Place, begins, place_of, band_width, cell_width, cell_height, strip_width, band_total}
use Rattle.plan_box.specs.declared.packed.Packed.{Packed}
use Rattle.plan_box.specs.Decisions.{draw_at}
use Rattle.plan_box.specs.Leasts.{Known, Fixed, fixed, next_known}
use Rattle.plan_box.specs.Packed.{unpacked}
use Rattle.plan_box.specs.Ranges.{Ranges}

-- the draws of decided steps of these ranges before others, the newest first
abbrev pub draws_before : List Packed → List Draw → List Draw
draws_before [] done = done
draws_before (r ∷ later) done = draws_before later (draw_at (unpacked r) ∷ done)

-- the draws of decided steps of these ranges, the newest first
abbrev pub draws_of : List Packed → List Draw
draws_of ranges = draws_before ranges []

-- the step of these ranges behind one that is known
abbrev pub next_fixed : Problem → List Draw → Known → Ranges → Fixed
next_fixed b before k r =
    let l : Level = begins before r.kind.low in fixed l (next_known b l (place_of b before k.place (draw_at r)) k r)

-- steps of these ranges, all decided, each as it and the earlier ones give it
abbrev pub follow : Problem → List Draw → Known → List Ranges → List Fixed
follow b before k [] = []
follow b before k (r ∷ rs) =
    let l : Level = begins before r.kind.low in
    let n : Known = next_known b l (place_of b before k.place (draw_at r)) k r in
    fixed l n ∷ follow b (draw_at r ∷ before) n rs

-- a place with the sizes of its cell, band and strip, and the areas, behind another one; `own` is the height that its item takes
abbrev pub grown_place : Level → Place → Place → ℕ → Place
grown_place l t p own =
    let band_w : ℕ = band_width l t.band_w p.w in
    record p {
      cell_w = cell_width l t.cell_w p.w;
      cell_h = cell_height l t.cell_h own;
      band_w = band_w;
      strip_w = strip_width l t.strip_w band_w;
      band_area = band_total l t.band_area (p.w * p.h);
      area = t.area + p.w * p.h;
    }
