use Rattle.std.proofs.Common.{refl}
use Rattle.plan_draft.proofs.Taking.{few_begun, none_follows, one_more}
use Rattle.plan_draft.proofs.drafting.draft_item.Goals as goal

pub plates_behind-drafting-requires : goal.plates_behind-drafting-requires
plates_behind-drafting-requires c =
    let d = c.args.drafting.now in
    few_begun c.args.ground.instance.now d.steps.items d.plates d.right c.requires.under_way

pub returns-in-None : goal.returns-in-None
returns-in-None c =
    let d = c.args.drafting.now in
    (none_follows c.args.ground.instance.now d.steps.items d.plates d.right c.args.stack c.args.item.now c.requires.under_way c.requires.due c.in-None.ensures, refl)

pub returns-in_ok-append-in-Some : goal.returns-in_ok-append-in-Some
returns-in_ok-append-in-Some c =
    let d = c.args.drafting.now in
    one_more c.args.ground.instance.now d.steps.items c.append.new.run.items d.plates d.right c.args.stack c.plates_behind-drafting.result c.args.item.now c.in-Some.step c.requires.under_way c.requires.due c.in-Some.ensures
    c.in_ok-append-in-Some.ensures.ok c.plates_behind-drafting.ensures
