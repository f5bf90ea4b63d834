use Rattle.std.proofs.Common.{sym, ◌∙◌, arith}
use Rattle.std.specs.Prelude.{option_map}
use Rattle.cut_model.specs.Tree.{tree}
use Rattle.plan_box.specs.Ranges.{PlainBox}
use Rattle.cert_log.specs.declared.certificate.Certificate.{Certificate}
use Rattle.cert_log.specs.Good.{IsGood}
use Rattle.cert_log.specs.Lawful.{loss_of}
use Rattle.cert_resume.proofs.Numbered.{can_be_walked, left_counted}
use Rattle.box_workers.specs.Runs.{first_loss}
use Rattle.run_checks.specs.Checks.{root_ranges}
use Rattle.run_search.specs.Plans.{course_from}
use Rattle.run_search.proofs.Resumed.{resumed, searched_on, small_too, zip_length}
use Rattle.run_search.proofs.resuming.go_on.Goals as goal

pub left_boxes-requires : goal.left_boxes-requires
left_boxes-requires g c = can_be_walked c.args.ground.instance.now c.args.checked.now.certificate.loss (root_ranges c.args.ground.instance.now) c.in_ok-named.named c.in_ok-named.ensures.good

pub history_of_open-requires-clause-few : goal.history_of_open-requires-clause-few
history_of_open-requires-clause-few g c κs within =
    let counted = left_counted c.args.ground.instance.now c.args.checked.now.certificate.loss (root_ranges c.args.ground.instance.now) c.in_ok-named.named c.in_ok-named.ensures.good in
    omega (arith, c.in_ok-boxes.ensures.count, counted, c.in_ok-named.ensures.reasoned.left, c.requires.few)

pub join-requires-clause-parts : goal.join-requires-clause-parts
join-requires-clause-parts g c =
    let b = c.args.ground.instance.now in
    let s = course_from c.in_ok-boxes.boxes.items (first_loss b c.in_ok-begun.begun.first) c.args.workforce.now.options.budget c.max-floor.result in
    sym (zip_length (λ (x : PlainBox) (p : Certificate). IsGood b x.ranges (loss_of c.in_ok-history.history.best) p) c.in_ok-boxes.boxes.items c.in_ok-parts.parts.items (c.in_ok-parts.ensures.good s c.in_ok-history.ensures.lawful))
    ∙ c.in_ok-boxes.ensures.count

pub returns-clause-resumed : goal.returns-clause-resumed
returns-clause-resumed g c =
    let b = c.args.ground.instance.now in let first = c.in_ok-begun.begun.first in
    let floor = c.max-floor.result in let greater = c.max-floor.ensures in
    let s = course_from c.in_ok-boxes.boxes.items (first_loss b first) c.args.workforce.now.options.budget floor in
    let j = c.in_ok-certificate.ensures in
    resumed b c.args.workforce.now.options.budget (first_loss b first) floor c.args.workforce.now.options.fronts (option_map tree c.args.checked.now.plan) c.args.checked.now.certificate c.in_ok-named.named c.in_ok-history.history c.in_ok-parts.parts.items
    c.in_ok-certificate.certificate (option_map tree c.in_ok-plan.plan) c.items-items.ensures.rules c.requires.good
    (searched_on b c.args.workforce.now.options.budget (first_loss b first) floor c.args.checked.now.certificate c.in_ok-named.named c.in_ok-history.history c.in_ok-boxes.boxes.items c.in_ok-parts.parts.items c.best_loss.result
    c.in_ok-certificate.certificate (record { reasoned = c.in_ok-named.ensures.reasoned; good = c.in_ok-named.ensures.good }) c.in_ok-named.ensures.version
    (c.in_ok-boxes.ensures.boxes c.in_ok-named.ensures.good.tree c.in_ok-named.ensures.good.nodes_are) c.best_loss.ensures c.in_ok-history.ensures.lawful
    (c.in_ok-parts.ensures.good s c.in_ok-history.ensures.lawful) (c.in_ok-parts.ensures.searched s c.in_ok-history.ensures.lawful) c.in_ok-parts.ensures.nodes c.in_ok-parts.ensures.left
    j.joined j.right j.nodes j.head j.number)
    (omega (arith, greater)) (λ none. let zero = c.in_ok-begun.ensures.unasked none in omega (arith, greater, zero)) c.in_ok-begun.ensures.no_worse
    (small_too c.args.checked.now.plan first (first_loss b first) c.in_ok-begun.ensures.known c.in_ok-history.ensures.known)
    c.in_ok-plan.ensures.loss c.in_ok-plan.ensures.said c.in_ok-plan.ensures.short
