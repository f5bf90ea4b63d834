use Rattle.std.proofs.Common.{arith, refl, ap, ◌∙◌, ◌==◌, [], ◌+◌, ◌≤◌, ◌<◌, length}
use Rattle.cut_model.specs.Families.{behind, first_plate}
use Rattle.cut_model.specs.Sized.{on_plates}
use Rattle.cut_model.specs.Tree.{tree}
use Rattle.cut_model.proofs.OnPlates.{count-on_plates, few_plates, is_last_plate, next_plate, no_plate_left, sized_in_range}
use Rattle.cut_model.proofs.Walks.{stock_more, stock_next, walking_end, walking_more, walking_start}
use Rattle.cut_model.proofs.traversal.walk.Goals as goal
use Rattle.glass_base.specs.declared.limits.TheConstants.{MOST_SIDE}

pub loop-place-init : goal.loop-place-init
loop-place-init g c =
    let b = c.args.instance.now in
    let plan = tree c.args.plan.now in
    let high : b.params.height ≤ MOST_SIDE = b.params.accepted.height_limit in
    rw c.params.ensures.value (record {
      walking = walking_start c.args.visitor.now (first_plate b) 0 (on_plates b plan);
      within = record {
        along = refl;
        cut = refl;
        plate = omega arith;
        x = refl;
        y = refl;
        height = high;
        in_range = sized_in_range b 0 plan c.params.ensures.rules c.requires.in_range;
        few = omega (arith, count-on_plates b plan, c.requires.few);
      };
      number = c.len-last.ensures;
    })

pub overflow_cast-place : goal.overflow_cast-place
overflow_cast-place g c = omega (arith, few_plates c.args.plan.now.plates.items, c.requires.few, ap length c.as_slice-plate-items.ensures)

pub loop-place-preserved : goal.loop-place-preserved
loop-place-preserved g c =
    let b = c.args.instance.now in
    let plates = c.args.plan.now.plates.items in
    let i = c.loop-place.place in
    let lt : i < length plates = omega (arith, ap length c.as_slice-plate-items.ensures, c.loop-place-test.true) in
    let is = next_plate b plates i c.plate-item.result c.plate-item.result lt (rw c.as_slice-plate-items.ensures at c.plate-item.is) in
    let moved = c.behind-at.ensures ∙ ap (λ n. behind c.loop-place.at n) c.width.ensures.value in
    let told = rw c.width.ensures.value at c.in_ok-node.ensures in
    let last = ap (λ n. (i + 1) == n) c.loop-place.invariant.number ∙ is_last_plate b plates (i + 1) (omega arith) in
    record {
      walking = walking_more is last moved c.loop-place.invariant.walking told;
      within = stock_more is moved c.loop-place.invariant.within c.in_ok-node.ensures.next_is;
      number = c.loop-place.invariant.number;
    }

pub walk_piece-requires-clause-next : goal.walk_piece-requires-clause-next
walk_piece-requires-clause-next g c =
    let b = c.args.instance.now in
    let plates = c.args.plan.now.plates.items in
    let i = c.loop-place.place in
    let lt : i < length plates = omega (arith, ap length c.as_slice-plate-items.ensures, c.loop-place-test.true) in
    let is = next_plate b plates i c.plate-item.result c.plate-item.result lt (rw c.as_slice-plate-items.ensures at c.plate-item.is) in
    rw c.width.ensures.value (stock_next _ _ is c.loop-place.invariant.within)

pub returns-clause-told : goal.returns-clause-told
returns-clause-told g c =
    let none = no_plate_left c.args.instance.now c.args.plan.now.plates.items c.loop-place.place (omega (arith, ap length c.as_slice-plate-items.ensures, c.loop-place-test.false)) in
    (walking_end none c.loop-place.invariant.walking).tells.after c.args.visitor.now []
