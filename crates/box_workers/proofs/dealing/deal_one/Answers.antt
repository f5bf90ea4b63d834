use Rattle.std.proofs.Common.{refl}
use Rattle.box_workers.proofs.Dealt.{gets_one}
use Rattle.box_workers.proofs.dealing.deal_one.Goals as goal

pub returns : goal.returns
returns c = gets_one c.args.members.now c.args.at c.index-members-at.result _ c.args.bx c.requires.at refl refl c.in-Ok.ensures.ok c.in-Ok.ensures.stays
