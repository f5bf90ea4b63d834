use Rattle.std.proofs.Common.{true, refl, ◌∙◌}
use Rattle.cut_model.specs.Families.{first_plate}
use Rattle.cut_model.specs.Sized.{on_plates}
use Rattle.cut_model.specs.Tree.{tree}
use Rattle.cut_model.proofs.Numbers.{length-families}
use Rattle.cut_model.proofs.OnPlates.{count-on_plates}
use Rattle.plan_freeze.proofs.CallsLeft.{waste_frozen}
use Rattle.plan_freeze.proofs.WastesBefore.{wasted_end, wasted_none}
use Rattle.plan_freeze.proofs.losing.frozen_loss.Goals as goal

pub returns : goal.returns
returns c =
    let b = c.args.instance.now in
    let plan = tree c.args.plan.now in
    wasted_end (c.in-Ok.ensures.told (refl, wasted_none)).1 (length-families (first_plate b) true 0 (on_plates b plan) ∙ count-on_plates b plan) c.requires.fits.few
    ∙ waste_frozen b plan c.args.k c.walk.ensures.rules c.requires.lawful c.requires.fewer
