use Rattle.std.proofs.lemmas.Option.{unwrap_or-slice_get}
use Rattle.glass_base.specs.Plates.{Width}
use Rattle.glass_base.proofs.instance.Instance.width.Goals as goal

pub returns-clause-value : goal.returns-clause-value
unfolding Width
returns-clause-value c =
    let e = unwrap_or-slice_get c.self.inside.widths.items c.args.plate c.self.inside.params.width in
    let get = c.get.ensures in
    let copied = c.copied-width.ensures in
    let unwrapped = c.unwrap_or.ensures in cc
