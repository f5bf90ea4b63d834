use Rattle.std.proofs.Common.{rules, ◌≡◌, ◌∷◌, ◌∙◌, ◌-◌, ◌++◌, [], ap, map, List, ℕ, suc, sym, arith, false, true, length, reverse, slice_get, slice_set, take, Some}
use Rattle.std.proofs.lemmas.Option.{slice_get_within}
use Rattle.plan_box.specs.Packed.{unpacked}
use Rattle.plan_box.specs.Ranges.{Ranges}
use Rattle.cert_check.specs.declared.path.Turn.{Turn}
use Rattle.cert_check.specs.inner.Paths.{beside}
use Rattle.cert_check.proofs.Turns.{beside_upper, last_is, last_popped, last_set, to_upper, turned, turns_before}
use Rattle.cert_check.proofs.path.back.Goals as goal
use Rattle.cert_check.proofs.path.back.Goals.{In-Some}

-- the turn that is at hand is the last one
is_last : (c : In-Some) → slice_get c.loop-turn.turns.items (length c.loop-turn.turns.items - 1) ≡ Some c.in-Some.field-0.now
is_last c = rw (c.as_slice.ensures) at (sym c.in-Some.ensures.value)

count_is : (c : In-Some) → length c.loop-turn.turns.items ≡ suc (length c.loop-turn.turns.items - 1)
count_is c = omega (arith, slice_get_within c.loop-turn.turns.items (length c.loop-turn.turns.items - 1) c.in-Some.field-0.now (is_last c))

pub returns-then-not-turn-clause-boxes : goal.returns-then-not-turn-clause-boxes
returns-then-not-turn-clause-boxes c =
    let k = (goal.at.returns-then-not-turn-clause-boxes c).In-Some in
    let t = c.in-Some.field-0.now in
    let old : List Turn = c.loop-turn.turns.items in
    let low : t.upper ≡ false = search rules in
    let new : c.set.new.self.items ≡ take (length old - 1) old ++ turned t ∷ [] =
    c.set.ensures.new ∙ ap (λ (n : ℕ). slice_set old (n - 1) (turned t)) c.len-last.ensures ∙ last_set old (length old - 1) (turned t) (count_is k) in
    ap (λ (ts : List Turn). map unpacked c.replace.new.stored.items ∷ beside (map unpacked c.replace.new.stored.items) (reverse ts)) new
    ∙ to_upper (map unpacked c.loop-turn.stored.items) (map unpacked c.replace.new.stored.items) old (take (length old - 1) old) t (last_is old (length old - 1) t (count_is k) (is_last k)) low c.replace.ensures.ranges
    ∙ c.loop-turn.invariant.boxes

pub loop-turn-preserved : goal.loop-turn-preserved
loop-turn-preserved c =
    let k = (goal.at.loop-turn-preserved c).In-Some in
    let p = c.loop-turn.invariant.path in let t = c.in-Some.field-0.now in
    let old : List Turn = c.loop-turn.turns.items in
    let up : t.upper ≡ true = search rules in
    let last : old ≡ c.pop.new.self.items ++ t ∷ [] = last_popped old c.pop.new.self.items c.pop.result (length old - 1) t c.pop.ensures.last (count_is k) c.pop.ensures.empty (is_last k) in
    record {
      path = record {
        stored = c.replace-in-Some.ensures.stored;
        each_step = c.replace-in-Some.ensures.each_step ∙ p.each_step;
        each_turn = turns_before c.args.frame _ _ t last p.each_turn;
      };
      boxes =
          ap (λ (rs : List Ranges). beside rs (reverse c.pop.new.self.items)) c.replace-in-Some.ensures.ranges
          ∙ sym (beside_upper (map unpacked c.loop-turn.stored.items) old c.pop.new.self.items t last up)
          ∙ c.loop-turn.invariant.boxes;
    }
