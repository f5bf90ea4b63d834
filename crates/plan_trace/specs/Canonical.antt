-- The canonical plan of a trace: each gap is one waste, the last plate ends in the residual where glass remains, and an item is
-- named at the shallowest level at which its piece is exactly the item.
use Rattle.std.specs.Prelude.{ℕ, zero, ◌-◌, ◌+◌, ◌==◌, List, [], ◌∷◌, Option, Some, None, cond}
use Rattle.glass_base.specs.declared.params.Params.{Params}
use Rattle.glass_base.specs.declared.item.Item.{Item}
use Rattle.glass_base.specs.Plates.{Width}
use Rattle.glass_base.specs.Problem.{Problem}
use Rattle.cut_model.specs.declared.family.Sort.{Sort}
use Rattle.cut_model.specs.declared.steps.Step.{Step}
use Rattle.cut_model.specs.Tree.{Forest, nothing, piece}
use Rattle.plan_trace.specs.Marks.{Level, NewPlate, NewStrip, NewBand, NewCell, Over, Cut, Spot, spot, spots}

-- what some last steps of a trace give: whole plates, and the strips, bands and cells that still lack what stands before them
pub record Grown : Type 0 where
  pub plates : Forest
  -- the strips, and the left side of the first
  pub strips : Forest
  pub left : ℕ
  -- the bands, and the lower side of the first
  pub bands : Forest
  pub low : ℕ
  -- the cells, and the left side of the first
  pub cells : Forest
  pub from : ℕ
  -- height and number of the item that stands over the one before
  pub above : Option (ℕ × ℕ)

abbrev pub no_growth : Grown
no_growth = record { plates = nothing; strips = nothing; left = 0; bands = nothing; low = 0; cells = nothing; from = 0; above = None }

-- what fills a gap, where there is one, before the later pieces
abbrev pub gap : ℕ → ℕ → Sort → Forest → Forest
gap from to sort later = cond (from == to) later (piece (to - from) sort nothing later)

-- where the first piece of a list begins, or the end of what is cut where there is none
abbrev pub start_of : Forest → ℕ → ℕ → ℕ
start_of nothing start end = end
start_of (piece _ _ _ _) start end = start

abbrev pub item_id : Option Item → ℕ
item_id None = 0
item_id (Some i) = i.id

-- a piece that would be cut into one whole item is the item
abbrev pub hoisted_sort : Forest → Sort
hoisted_sort (piece _ (Sort.Item number) nothing nothing) = Sort.Item number
hoisted_sort _ = Sort.Branch

abbrev pub hoisted_inner : Forest → Forest
hoisted_inner (piece _ (Sort.Item number) nothing nothing) = nothing
hoisted_inner inner = inner

abbrev pub hoisted : ℕ → Forest → Forest → Forest
hoisted size inner later = piece size (hoisted_sort inner) (hoisted_inner inner) later

-- what a cell of this height is cut into: an item with the one over it, or an item alone by its lift
abbrev pub cell_pieces : Option (ℕ × ℕ) → ℕ → ℕ → ℕ → ℕ → Forest
cell_pieces (Some above) lift height h number =
    piece h (Sort.Item number) nothing (piece above.0 (Sort.Item above.1) nothing nothing)
cell_pieces None zero height h number = piece h (Sort.Item number) nothing (gap h height Sort.Waste nothing)
cell_pieces None _ height h number = gap h height Sort.Waste (piece h (Sort.Item number) nothing nothing)

abbrev pub add_cell : Cut → Grown → Grown
add_cell s g = record g {
  cells = hoisted s.w (cell_pieces g.above s.draw.lift (s.d - s.c) s.h (item_id s.item)) (gap (s.e + s.w) (start_of g.cells g.from s.b) Sort.Waste g.cells);
  from = s.e;
  above = None;
}

abbrev pub add_band : Params → Cut → Grown → Grown
add_band p s g = record g {
  bands = hoisted (s.d - s.c) (gap s.a g.from Sort.Waste g.cells) (gap s.d (start_of g.bands g.low p.height) Sort.Waste g.bands);
  low = s.c;
  cells = nothing;
}

-- what remains behind a strip is the residual where no strip and no plate follow
abbrev pub end_sort : Forest → Forest → Sort
end_sort nothing nothing = Sort.Residual
end_sort _ _ = Sort.Waste

abbrev pub add_strip : Problem → Cut → Grown → Grown
add_strip b s g = record g {
  strips = hoisted (s.b - s.a) (gap 0 g.low Sort.Waste g.bands) (gap s.b (start_of g.strips g.left (Width b s.plate)) (end_sort g.plates g.strips) g.strips);
  left = s.a;
  bands = nothing;
}

abbrev pub add_plate : Grown → Grown
add_plate g = record g { plates = piece 0 Sort.Branch (gap 0 g.left Sort.Waste g.strips) g.plates; strips = nothing }

abbrev pub add_step : Problem → Level → Cut → Grown → Grown
add_step b NewPlate s g = add_plate (add_strip b s (add_band b.params s (add_cell s g)))
add_step b NewStrip s g = add_strip b s (add_band b.params s (add_cell s g))
add_step b NewBand s g = add_band b.params s (add_cell s g)
add_step b NewCell s g = add_cell s g
add_step b Over s g = record g { above = Some (s.h, item_id s.item) }

abbrev pub grown : Problem → List Spot → Grown
grown b [] = no_growth
grown b (spot l s ∷ later) = add_step b l s (grown b later)

-- the canonical plan of a trace, as a tree
abbrev pub canonical : Problem → List Step → Forest
canonical b steps = (grown b (spots b steps)).plates
