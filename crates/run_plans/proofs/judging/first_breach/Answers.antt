use Rattle.std.proofs.lemmas.Bool.{false≢true}
use Rattle.cut_model.specs.Tree.{tree}
use Rattle.run_plans.proofs.Judged.{broken_cuts}
use Rattle.run_plans.proofs.judging.first_breach.Goals as goal

pub returns-in-Err : goal.returns-in-Err
returns-in-Err c = broken_cuts c.args.ground.instance.now (tree c.args.plan.now) c.in-Err.broken (λ all. false≢true (c.in-Err.ensures.lawful.1 all)) c.in-Err.ensures.first
