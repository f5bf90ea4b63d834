-- Parameters before their rules are checked.
use Rattle.glass_base.specs.BadParams.{HasSizes, Refuses}
use Rattle.glass_base.specs.Params.{Accepted}
use Rattle.glass_base.specs.declared.params.Params.{Params}
use Rattle.glass_base.specs.declared.params.BadParams.{BadParams}
use Rattle.glass_base.specs.declared.sizes.Sizes.{Sizes}

-- the challenge's parameters
abbrev pub usual_sizes : Sizes
usual_sizes = record { plates = 100; width = 6000; height = 3210; min1 = 100; max1 = 3500; min2 = 100; waste = 20 }

-- the sizes keep the rules that parameters keep
abbrev pub AreAccepted : Sizes → Type 0
AreAccepted s = Accepted s.plates s.width s.height s.min1 s.max1 s.min2 s.waste

-- the parameters are these sizes
abbrev pub AreSizes : Params → Sizes → Type 0
AreSizes p s = HasSizes p s.plates s.width s.height s.min1 s.max1 s.min2 s.waste

-- the sizes are refused for this reason, and for none that comes before it
abbrev pub RefusesSizes : BadParams → Sizes → Type 0
RefusesSizes reason s = Refuses reason s.plates s.width s.height s.min1 s.max1 s.min2 s.waste

-- the parameters are the challenge's
abbrev pub AreUsual : Params → Type 0
AreUsual p = AreSizes p usual_sizes
