use Rattle.std.proofs.Common.{◌≡◌, ℕ, ◌-◌, suc, map, take, ap, sym, ◌∙◌, arith}
use Rattle.plan_box.specs.Leasts.{last_known, no_known}
use Rattle.box_bound.specs.Kept.{blank, early_fixed}
use Rattle.box_bound.proofs.Extending.{last_taken}
use Rattle.box_bound.proofs.filling.last_before.Goals as goal

pub returns-else-from-eq0 : goal.returns-else-from-eq0
returns-else-from-eq0 c =
    let e : c.args.from ≡ suc (c.args.from - 1) = omega arith in
    sym (ap (λ (n : ℕ). last_known no_known (map early_fixed (take n c.args.steps.now))) e ∙ last_taken no_known c.args.steps.now (c.args.from - 1) blank (omega arith))
