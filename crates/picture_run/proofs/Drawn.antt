-- The answer to a plan, from its picture and what was found of it, and that to the texts of the files.
use Rattle.std.proofs.Common.{◌≡◌, ℕ, List, ap, inl, inr, subst, sym, Option, Some, None, IfSome}
use Rattle.std.specs.Prelude.{Ok}
use Rattle.glass_base.specs.Problem.{Problem}
use Rattle.glass_base.specs.declared.role.Role.TheVariants as role
use Rattle.glass_io.specs.Told.{Contents}
use Rattle.command_line.specs.Grammar.{PictureLine, files_of, stored_as}
use Rattle.command_line.specs.declared.kinds.Product.TheVariants as product
use Rattle.cut_model.specs.Tree.{Forest}
use Rattle.cut_model.specs.declared.broken.Verdict.{Verdict}
use Rattle.plan_picture.specs.Pictures.{IsPicture}
use Rattle.run_frame.specs.Answers.{Answer}
use Rattle.run_frame.specs.Forms.{OnTold, Tells}
use Rattle.run_frame.specs.Texts.{Texts, text_for, text_or_empty, texts_of}
use Rattle.run_frame.specs.declared.notices.Stop.{Stop}
use Rattle.run_frame.specs.declared.notices.Stop.TheVariants as stop
use Rattle.run_plans.specs.Instances.{InstanceRefused, IsInstanceOf}
use Rattle.picture_run.specs.Pictures.{Answers, Draws, DrawsText, DrawsTexts, pictured}
use Rattle.run_plans.specs.Verdicts.{IsVerdict, verdict_line}

pub draws : (b : Problem) (plan : Forest) (name picture lines : List ℕ) (found : Verdict) → IsVerdict b plan found → lines ≡ verdict_line found → IsPicture b plan found picture →
    Draws b name plan (pictured name picture lines)
draws b plan name picture lines found is told drawn =
    record { picture = picture; found = found; judged = is; is_picture = drawn; answer_is = ap (pictured name picture) told }

-- the answer to the texts is that to the plan that one of them says
pub texts_drawn : (texts : Texts) (flaws : Option (List ℕ)) (text name : List ℕ) (b : Problem) (answer : Answer) → flaws ≡ text_for texts role.Defects → text ≡ text_or_empty texts role.Plan
    → IsInstanceOf texts flaws b → DrawsText b name text answer → DrawsTexts name texts answer
texts_drawn texts flaws text name b answer flawed says is h =
    inl (b, subst (λ (o : Option (List ℕ)). IsInstanceOf texts o b) flawed is, subst (λ (t : List ℕ). DrawsText b name t answer) says h)

-- or the refusal where they say no instance
pub texts_refused : (texts : Texts) (flaws : Option (List ℕ)) (name : List ℕ) (s : Stop) (answer : Answer) → flaws ≡ text_for texts role.Defects → OnTold (InstanceRefused texts flaws) s → Tells s answer
    → DrawsTexts name texts answer
texts_refused texts flaws name stop.Memory answer flawed refused is = absurd is
texts_refused texts flaws name (stop.Told notice) answer flawed refused is =
    inr (subst (λ (o : Option (List ℕ)). InstanceRefused texts o answer) flawed (subst (λ (a : Answer). InstanceRefused texts flaws a) (sym is) refused))

-- the answer to the texts that were fetched is the answer to what the files hold
pub with_texts : (told : Option Contents) (line : PictureLine) (texts : Texts) (answer : Answer) → IfSome told (λ contents. texts_of contents (files_of line) ≡ Ok texts)
    → DrawsTexts (stored_as line product.Picture) texts answer → IfSome told (λ contents. Answers contents line answer)
with_texts None line texts answer e h = tt
with_texts (Some contents) line texts answer e h = rw e h
