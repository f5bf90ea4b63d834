use Rattle.plan_picture.proofs.ToldLemmas.{told_more}
use Rattle.plan_picture.proofs.adding.add.Goals as goal

pub returns : goal.returns
returns c = told_more c.args.marks.now.items c.append.new.run.items c.args.mark c.append.result c.append.ensures.ok
