-- The status of an answer to texts that say no instance, of whatever command.
use Rattle.run_frame.specs.Answers.{Answer}
use Rattle.run_frame.specs.Texts.{Texts}
use Rattle.run_frame.proofs.Statuses.{Refuses}
use Rattle.run_plans.proofs.Statuses.{instance_refused}
use Rattle.command_line.specs.declared.kinds.Verb.{Verb}
use Rattle.command_line.specs.declared.kinds.Verb.TheVariants as verb
use Rattle.glass_run.specs.Commands.{HasNoInstance}

-- it refuses one of them
pub none_refused : (of : Verb) (texts : Texts) (answer : Answer) → HasNoInstance of texts answer → Refuses answer
none_refused verb.Draft texts answer h = instance_refused texts _ answer h
none_refused verb.Plan texts answer h = instance_refused texts _ answer h
none_refused verb.Gen texts answer h = absurd h
none_refused verb.Judge texts answer h = instance_refused texts _ answer h
none_refused verb.Verify texts answer h = instance_refused texts _ answer h
none_refused verb.Convert texts answer h = instance_refused texts _ answer h
none_refused verb.Resume texts answer h = instance_refused texts _ answer h
none_refused verb.Freeze texts answer h = instance_refused texts _ answer h
none_refused verb.Sheet texts answer h = instance_refused texts _ answer h
none_refused verb.Replay texts answer h = instance_refused texts _ answer h
