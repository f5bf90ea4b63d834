-- The first plates of a plan, which are cut already, and those behind them.
use Rattle.std.specs.Prelude.{◌≡◌, ℕ, zero, suc}
use Rattle.cut_model.specs.Tree.{Forest, nothing, piece}

-- the first so many plates
abbrev pub first_plates : ℕ → Forest → Forest
first_plates zero plan = nothing
first_plates (suc k) nothing = nothing
first_plates (suc k) (piece size sort inner later) = piece size sort inner (first_plates k later)

-- the plates behind the first ones
abbrev pub later_plates : ℕ → Forest → Forest
later_plates zero plan = plan
later_plates (suc k) nothing = nothing
later_plates (suc k) (piece size sort inner later) = later_plates k later

-- some plates, and others behind them
abbrev pub joined : Forest → Forest → Forest
joined nothing others = others
joined (piece size sort inner later) others = piece size sort inner (joined later others)

-- a plan begins with the first plates of another one
abbrev pub BeginsWith : ℕ → Forest → Forest → Type 0
BeginsWith k plan other = first_plates k other ≡ first_plates k plan
