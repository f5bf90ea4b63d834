-- The least length of a trace in a box, and the bound on its loss.
use Rattle.std.specs.Prelude.{ℕ, ◌+◌, ◌-◌, ◌*◌, ◌/◌, List, [], ◌∷◌, max}
use Rattle.glass_base.specs.Items.{area_of}
use Rattle.glass_base.specs.Plates.{Before}
use Rattle.glass_base.specs.Problem.{Problem}
use Rattle.plan_box.specs.Ranges.{Ranges}
use Rattle.plan_box.specs.Leasts.{Known, Fixed, fixed, known, last_known}

-- the quotient, rounded up
abbrev pub ceil_div : ℕ → ℕ → ℕ
ceil_div n d = (n + (d - 1)) / d

-- where the strip of the last decided step ends at least
abbrev pub end_of_strip : Problem → Known → ℕ
end_of_strip b k = Before b k.plate + k.least_b

-- where all items can lie at least: below the last step's band nothing but its strip's earlier bands lies, and the items of
-- this band and of all undecided steps still need room
abbrev pub end_of_items : Problem → ℕ → Known → ℕ
end_of_items b total k =
    Before b k.plate + (k.least_a + ceil_div (max b.params.min1 k.strip_w * k.least_c + (total - (k.area - k.band_area))) b.params.height)

-- the least length by the last decided step, for items of this area together
abbrev pub reached : Problem → ℕ → List Fixed → ℕ
reached b total [] = 0
reached b total (fixed l k ∷ later) =
    let last : Known = last_known k later in max (end_of_strip b last) (end_of_items b total last)

-- the least length of a trace in the box that has a step for each item
abbrev pub least_length : Problem → List Ranges → ℕ
least_length b rs = max (ceil_div (area_of b.items) b.params.height) (reached b (area_of b.items) (known b rs))

-- the bound on the loss of such a trace, in mm²
abbrev pub bound : Problem → List Ranges → ℕ
bound b rs = b.params.height * least_length b rs - area_of b.items
