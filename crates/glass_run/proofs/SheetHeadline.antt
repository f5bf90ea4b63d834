-- What a user may conclude from how a run of `sheet` or of `replay` ended.
use Rattle.std.proofs.Common.{◌≡◌, ◌+◌, ◌≤◌, ℕ, List, refl, sym, ap, subst, ◌∙◌, inl, inr, arith, All}
use Rattle.std.specs.Prelude.{Ok, Err, Result}
use Rattle.glass_base.specs.Problem.{Problem}
use Rattle.glass_base.specs.declared.role.Role.TheVariants as role
use Rattle.glass_io.specs.Told.{Contents}
use Rattle.cut_model.specs.Tree.{Forest, neighbour_count}
use Rattle.cut_sheet.specs.declared.bad_sheet.BadSheet.{BadSheet}
use Rattle.cut_sheet.specs.declared.bad_sheet.BadSheet.TheVariants as bad
use Rattle.cut_sheet.specs.declared.instr.Instr.{Instr}
use Rattle.cut_sheet.specs.declared.instr.Made.{Made}
use Rattle.cut_sheet.specs.declared.instr.Stuck.{Stuck}
use Rattle.cut_sheet.specs.Replays.{replayed}
use Rattle.cut_sheet.specs.Sheets.{pieces_of, sheet_in}
use Rattle.cut_sheet.specs.Texts.{IsWritable, sheet_text}
use Rattle.cut_sheet.proofs.Balances.{sheet_balanced, waste_is_loss}
use Rattle.cut_sheet.proofs.Cuttables.{lawful_cuttable}
use Rattle.cut_sheet.proofs.Making.{sheet_made}
use Rattle.cut_sheet.proofs.OneText.{round_trip}
use Rattle.cut_sheet.proofs.Writables.{plates_writable}
use Rattle.plan_csv.specs.PlanTexts.{plan_said}
use Rattle.plan_csv.specs.declared.bad_plan.BadPlan.{BadPlan}
use Rattle.plan_csv.proofs.TreesInRange.{read_fits}
use Rattle.run_frame.specs.Answers.{Answer}
use Rattle.glass_run.specs.Commands.{Answers, AnswersInstance}
use Rattle.command_line.specs.declared.kinds.Product.TheVariants as product
use Rattle.command_line.specs.Grammar.{stored_as, Line}
use Rattle.command_line.specs.declared.kinds.Verb.{Verb}
use Rattle.command_line.specs.declared.kinds.Verb.TheVariants as verb
use Rattle.glass_run.specs.Headlines.{Ended, FindsUnlawful}
use Rattle.run_plans.specs.Replays.{Follows, ReplaysText, SheetRefused, followed}
use Rattle.run_frame.specs.Runs.{Completes, Prints, Stands, World}
use Rattle.glass_run.specs.SheetHeadlines.{FollowsSheet, StoresSheet}
use Rattle.run_plans.specs.Sheets.{Sheets, SheetsSaid, SheetsText}
use Rattle.run_frame.specs.Texts.{text_or_empty}
use Rattle.run_frame.specs.declared.status.Status.TheVariants as status
use Rattle.run_frame.proofs.Stores.{one_stored, unchanged}
use Rattle.glass_run.proofs.Headlines.{Says, completed_says, read_by, rules_of}
use Rattle.run_frame.proofs.Statuses.{IsRefused, Refuses}
use Rattle.run_plans.proofs.Statuses.{plan_refused}
use Rattle.glass_base.specs.declared.limits.TheConstants.{MOST_PLATES}

-- an answer that refuses nothing is one to the plan that was said
said_sheeted : (b : Problem) (name : List ℕ) (said : Result Forest BadPlan) (answer : Answer) → ¬ Refuses answer → SheetsSaid b name said answer → (plan : Forest) × (said ≡ Ok plan) × Sheets b name plan answer
said_sheeted b name (Ok plan) answer accepts h = (plan, refl, h)
said_sheeted b name (Err reason) answer accepts h = absurd (accepts (plan_refused reason answer h))

-- what `replay` answers to the text of a sheet that the table follows to its end
replays_again : (b : Problem) (sheet : List Instr) (made : List Made) (answer : Answer) → All IsWritable sheet → replayed b sheet ≡ Ok made → ReplaysText b (sheet_text sheet) answer → answer ≡ followed sheet made
replays_again b sheet made answer fits is (inl read) =
    let same : read.0 ≡ sheet = round_trip sheet (Ok read.0) fits read.1 in
    let follows = subst (λ (s : List Instr). Follows s (replayed b s) answer) same read.2 in
    subst (λ (r : Result (List Made) Stuck). Follows sheet r answer) is follows
replays_again b sheet made answer fits is (inr refused) =
    absurd (never refused.0 (round_trip sheet (Err refused.0) fits refused.1) refused.2)
  where
    never : (reason : BadSheet) → reason ≡ bad.Memory → SheetRefused reason answer → ⊥
    never reason memory h = subst (λ (r : BadSheet). SheetRefused r answer) memory h

stores_sheet : (line : Line) (held : Contents) (old new : World) (answer : Answer) → line.verb ≡ verb.Sheet → status.Done ≡ answer.status → Says line held answer →
    Stands answer.stores old.shelf.contents new.shelf.contents → Prints answer.lines old.paper new.paper → StoresSheet line held old new
stores_sheet line held old new answer of is s stored prints =
    let text : SheetsText s.b (stored_as line product.Sheet) (text_or_empty s.texts role.Plan) answer = subst (λ (v : Verb). AnswersInstance v line s.texts s.b answer) of s.answers in
    let said = said_sheeted s.b (stored_as line product.Sheet) (plan_said s.b (text_or_empty s.texts role.Plan)) answer (λ h. subst IsRefused (sym is) h) text in
    let plan = said.0 in
    elim said.2 [
      | inl l ↦
          let rules = rules_of line.verb line s.texts s.b s.reads.instance_is in
          let can = lawful_cuttable s.b plan rules l.0 in
          let makes = sheet_made s.b plan l.0.shape can in
          let few : 0 + neighbour_count plan ≤ MOST_PLATES = omega (arith, can.few, s.b.params.accepted.few_plates) in
          let fits = plates_writable 0 plan few (read_fits s.b (text_or_empty s.texts role.Plan) plan said.1).0.in_range in
          record {
            texts = s.texts;
            b = s.b;
            plan = plan;
            sheet = sheet_in plan;
            reads = read_by verb.Sheet line held s.texts s.b tt of s.reads;
            said = said.1;
            lawful = l.0;
            stored = one_stored (record { name = stored_as line product.Sheet; bytes = sheet_text (sheet_in plan) }) old.shelf.contents new.shelf.contents (subst (λ (a : Answer). Stands a.stores old.shelf.contents new.shelf.contents) l.1 stored);
            prints = subst (λ (a : Answer). Prints a.lines old.paper new.paper) l.1 prints;
            makes = makes;
            replays = λ other h. replays_again s.b (sheet_in plan) (pieces_of s.b plan) other fits makes h;
            loses = waste_is_loss s.b plan;
          }
      | inr broken ↦ let wrong = is ∙ ap (λ (a : Answer). a.status) broken.3 in cc wrong
    ]

-- an answer to a plan whose status is `Unlawful` tells its first breach
finds_broken : (line : Line) (held : Contents) (old new : World) (answer : Answer) → line.verb ≡ verb.Sheet → status.Unlawful ≡ answer.status → Says line held answer →
    Stands answer.stores old.shelf.contents new.shelf.contents → Prints answer.lines old.paper new.paper → FindsUnlawful line held old new
finds_broken line held old new answer of is s stored prints =
    let text : SheetsText s.b (stored_as line product.Sheet) (text_or_empty s.texts role.Plan) answer = subst (λ (v : Verb). AnswersInstance v line s.texts s.b answer) of s.answers in
    let said = said_sheeted s.b (stored_as line product.Sheet) (plan_said s.b (text_or_empty s.texts role.Plan)) answer (λ h. subst IsRefused (sym is) h) text in
    elim said.2 [
      | inl l ↦ let wrong = is ∙ ap (λ (a : Answer). a.status) l.1 in cc wrong
      | inr j ↦ record {
        texts = s.texts;
        b = s.b;
        plan = said.0;
        broken = j.0;
        reads = read_by verb.Sheet line held s.texts s.b tt of s.reads;
        said = said.1;
        unlawful = j.1;
        first = j.2;
        unchanged = unchanged old.shelf.contents new.shelf.contents (subst (λ (a : Answer). Stands a.stores old.shelf.contents new.shelf.contents) j.3 stored);
        prints = subst (λ (a : Answer). Prints a.lines old.paper new.paper) j.3 prints;
      }
    ]

-- a sheet that is followed to its end
record IsFollowed (b : Problem) (sheet : List Instr) (answer : Answer) : Type 0 where
  made : List Made
  makes : replayed b sheet ≡ Ok made
  answer_is : answer ≡ followed sheet made

done_followed : (b : Problem) (sheet : List Instr) (answer : Answer) → status.Done ≡ answer.status → (run : Result (List Made) Stuck) → replayed b sheet ≡ run → Follows sheet run answer → IsFollowed b sheet answer
done_followed b sheet answer is (Ok made) makes h = record { made = made; makes = makes; answer_is = h }
done_followed b sheet answer is (Err stuck) makes h = let wrong = is ∙ ap (λ (a : Answer). a.status) h in cc wrong

-- a refused text has another status
never_done : (reason : BadSheet) (answer : Answer) → status.Done ≡ answer.status → SheetRefused reason answer → ⊥
never_done bad.Memory answer is h = h
never_done bad.Head answer is h = let wrong = is ∙ ap (λ (a : Answer). a.status) h in cc wrong
never_done (bad.Line line) answer is h = let wrong = is ∙ ap (λ (a : Answer). a.status) h in cc wrong

follows_sheet : (line : Line) (held : Contents) (old new : World) (answer : Answer) → line.verb ≡ verb.Replay → status.Done ≡ answer.status → Says line held answer →
    Stands answer.stores old.shelf.contents new.shelf.contents → Prints answer.lines old.paper new.paper → FollowsSheet line held old new
follows_sheet line held old new answer of is s stored prints =
    let text : ReplaysText s.b (text_or_empty s.texts role.Sheet) answer = subst (λ (v : Verb). AnswersInstance v line s.texts s.b answer) of s.answers in
    elim text [
      | inl read ↦
          let k = done_followed s.b read.0 answer is (replayed s.b read.0) refl read.2 in
          record {
            texts = s.texts;
            b = s.b;
            sheet = read.0;
            made = k.made;
            reads = read_by verb.Replay line held s.texts s.b tt of s.reads;
            said = read.1;
            makes = k.makes;
            whole = sheet_balanced s.b read.0 k.made k.makes;
            unchanged = unchanged old.shelf.contents new.shelf.contents (subst (λ (a : Answer). Stands a.stores old.shelf.contents new.shelf.contents) k.answer_is stored);
            prints = subst (λ (a : Answer). Prints a.lines old.paper new.paper) k.answer_is prints;
          }
      | inr refused ↦ absurd (never_done refused.0 answer is refused.2)
    ]

pub done_sheet : (words : List (List ℕ)) (line : Line) (held : Contents) (old new : World) → Ended words verb.Sheet line held old new status.Done → StoresSheet line held old new
done_sheet words line held old new e =
    let c : Completes Answers line old new status.Done = e.runs in
    stores_sheet line held old new c.answer e.verb_is c.status_is (completed_says line held old new status.Done e.told (λ h. h) c) c.stored c.prints

pub done_replay : (words : List (List ℕ)) (line : Line) (held : Contents) (old new : World) → Ended words verb.Replay line held old new status.Done → FollowsSheet line held old new
done_replay words line held old new e =
    let c : Completes Answers line old new status.Done = e.runs in
    follows_sheet line held old new c.answer e.verb_is c.status_is (completed_says line held old new status.Done e.told (λ h. h) c) c.stored c.prints

pub unlawful_sheet : (words : List (List ℕ)) (line : Line) (held : Contents) (old new : World) → Ended words verb.Sheet line held old new status.Unlawful → FindsUnlawful line held old new
unlawful_sheet words line held old new e =
    let c : Completes Answers line old new status.Unlawful = e.runs in
    finds_broken line held old new c.answer e.verb_is c.status_is (completed_says line held old new status.Unlawful e.told (λ h. h) c) c.stored c.prints
