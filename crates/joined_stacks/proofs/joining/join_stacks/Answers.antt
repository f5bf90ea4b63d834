use Rattle.std.proofs.Common.{rules}
use Rattle.joined_stacks.specs.inner.Homes.{SamePlates, AreHomes}
use Rattle.joined_stacks.proofs.Courses.{bounds_too}
use Rattle.joined_stacks.proofs.joining.join_stacks.Goals as goal

pub returns-clause-bounds : goal.returns-clause-bounds
returns-clause-bounds c =
    let same : SamePlates c.args.instance.now c.in-Some.other = search rules in
    let are : AreHomes c.args.instance.now c.in-Some.other c.as_slice.result.now = search rules in
    bounds_too c.args.instance.now c.in-Some.other c.as_slice.result.now same are
