use Rattle.glass_base.proofs.PlateLemmas.{before-start}
use Rattle.glass_base.specs.Problem.{problem_of}
use Rattle.glass_base.proofs.instance.Instance.before.Goals as goal

pub returns-clause-value : goal.returns-clause-value
returns-clause-value c =
    let i = c.self.inside in
    let e = before-start (problem_of i.params i.items.items i.defects.items i.widths.items i.stacks.items) i.starts.items c.args.plate c.min-within.result c.self.invariant.0 c.self.invariant.1 c.min-within.ensures in
    rw (← c.self.view_is, c.from.ensures, c.from-2.ensures, c.from-3.ensures, c.as_slice.ensures) e
