use Rattle.std.proofs.Common.{rules, tests}
use Rattle.std.proofs.lemmas.Iterator.{YieldsList-from_slice}
use Rattle.std.proofs.lemmas.Iterator.Search.{find_from_yields_List}
use Rattle.glass_base.specs.Roles.{is_role}
use Rattle.run_frame.specs.declared.texts.Text.{Text}
use Rattle.run_frame.proofs.TextsByRole.{text_for_found}
use Rattle.run_frame.proofs.texts.text_of_role.Goals as goal

pub returns : goal.returns
returns c =
    let found = find_from_yields_List (λ (text : Text). is_role c.args.role text.role) _ _ _ c.find.ensures.ran (YieldsList-from_slice c.args.texts.now (cc)) (λ x b q k. search (rules, tests)) in
    rw (text_for_found, ← found) (search (rules, tests))
