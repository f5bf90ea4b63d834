-- What a user may conclude from how a run of the program that draws ended.
use Rattle.std.proofs.Common.{◌≡◌, ℕ, List, sym, subst, refl, inl, inr, Option}
use Rattle.std.specs.Prelude.{Ok, Err, IfErr, Result}
use Rattle.glass_base.specs.Problem.{Problem}
use Rattle.glass_base.specs.declared.role.Role.TheVariants as role
use Rattle.glass_io.specs.Told.{Contents}
use Rattle.cut_model.specs.Tree.{Forest}
use Rattle.plan_csv.specs.PlanTexts.{plan_said}
use Rattle.plan_csv.specs.declared.bad_plan.BadPlan.{BadPlan}
use Rattle.run_frame.specs.Answers.{Answer}
use Rattle.command_line.specs.Grammar.{PictureLine, files_of, stored_as}
use Rattle.command_line.specs.declared.kinds.Product.TheVariants as product
use Rattle.picture_run.specs.PictureHeadlines.{PictureEnded, StoresPicture}
use Rattle.picture_run.specs.Pictures.{Answers, Draws, DrawsSaid, DrawsTexts}
use Rattle.run_frame.specs.Runs.{AnswersTold, Completes, Prints, Stands, World}
use Rattle.run_frame.specs.Texts.{AnswersFetched, Texts, text_for, text_or_empty, texts_of}
use Rattle.run_frame.specs.declared.status.Status.TheVariants as status
use Rattle.run_frame.proofs.Statuses.{IsRefused, Refuses, texts_refuse}
use Rattle.run_frame.proofs.Stores.{one_stored}
use Rattle.run_plans.specs.Instances.{IsInstanceOf}
use Rattle.run_plans.proofs.Statuses.{instance_refused, plan_refused}

-- an answer that refuses nothing is one to the plan that was said
said_drawn : (b : Problem) (name : List ℕ) (said : Result Forest BadPlan) (answer : Answer) → ¬ Refuses answer → DrawsSaid b name said answer → (plan : Forest) × (said ≡ Ok plan) × Draws b name plan answer
said_drawn b name (Ok plan) answer accepts h = (plan, refl, h)
said_drawn b name (Err reason) answer accepts h = absurd (accepts (plan_refused reason answer h))

-- the texts of the files, the instance and the plan that they say, and the answer to it
record Says (line : PictureLine) (held : Contents) (answer : Answer) : Type 0 where
  texts : Texts
  b : Problem
  plan : Forest
  texts_are : texts_of held (files_of line) ≡ Ok texts
  instance_is : IsInstanceOf texts (text_for texts role.Defects) b
  said : plan_said b (text_or_empty texts role.Plan) ≡ Ok plan
  draws : Draws b (stored_as line product.Picture) plan answer

texts_say : (line : PictureLine) (held : Contents) (texts : Texts) (answer : Answer) → ¬ Refuses answer → texts_of held (files_of line) ≡ Ok texts → DrawsTexts (stored_as line product.Picture) texts answer → Says line held answer
texts_say line held texts answer accepts is (inl said) =
    let drawn = said_drawn said.0 (stored_as line product.Picture) (plan_said said.0 (text_or_empty texts role.Plan)) answer accepts said.2 in
    record { texts = texts; b = said.0; plan = drawn.0; texts_are = is; instance_is = said.1; said = drawn.1; draws = drawn.2 }
texts_say line held texts answer accepts is (inr refused) = absurd (accepts (instance_refused texts _ answer refused))

fetched_say : (line : PictureLine) (held : Contents) (answer : Answer) (fetched : Result Texts Answer) → ¬ Refuses answer → texts_of held (files_of line) ≡ fetched → IfErr fetched Refuses
    → AnswersFetched (DrawsTexts (stored_as line product.Picture)) fetched answer → Says line held answer
fetched_say line held answer (Ok texts) accepts is refuses h = texts_say line held texts answer accepts is h
fetched_say line held answer (Err refusal) accepts is refuses h = absurd (accepts (rw h refuses))

-- an answer that refuses no file and no text is one to a plan of an instance
answer_says : (line : PictureLine) (held : Contents) (answer : Answer) → ¬ Refuses answer → Answers held line answer → Says line held answer
answer_says line held answer accepts h = fetched_say line held answer (texts_of held (files_of line)) accepts refl (texts_refuse held (files_of line)) h

stores_picture : (line : PictureLine) (held : Contents) (old new : World) (answer : Answer) → Says line held answer → Stands answer.stores old.shelf.contents new.shelf.contents → Prints answer.lines old.paper new.paper
    → StoresPicture line held old new
stores_picture line held old new answer s stored prints =
    let d = s.draws in
    record {
      texts = s.texts;
      b = s.b;
      plan = s.plan;
      answer = answer;
      texts_are = s.texts_are;
      instance_is = s.instance_is;
      said = s.said;
      draws = d;
      stored = one_stored (record { name = stored_as line product.Picture; bytes = d.picture }) old.shelf.contents new.shelf.contents (subst (λ (a : Answer). Stands a.stores old.shelf.contents new.shelf.contents) d.answer_is stored);
      prints = subst (λ (a : Answer). Prints a.lines old.paper new.paper) d.answer_is prints;
    }

pub done_picture : (words : List (List ℕ)) (line : PictureLine) (held : Contents) (old new : World) → PictureEnded words line held old new status.Done → StoresPicture line held old new
done_picture words line held old new e =
    let c : Completes Answers line old new status.Done = e.runs in
    stores_picture line held old new c.answer
    (answer_says line held c.answer (λ h. subst IsRefused (sym c.status_is) h) (subst (λ (o : Option Contents). AnswersTold Answers o line c.answer) e.told c.answers))
    c.stored c.prints
