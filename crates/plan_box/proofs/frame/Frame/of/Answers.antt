use Rattle.std.proofs.Common.{arith}
use Rattle.glass_base.proofs.PlateLemmas.{widest_within}
use Rattle.glass_base.proofs.StackLemmas.{few_stacks}
use Rattle.plan_box.proofs.frame.Frame.of.Goals as goal

pub returns-clause-limits : goal.returns-clause-limits
returns-clause-limits c =
    let rules = c.items.ensures.rules in
    record {
      items = rw c.items.ensures.value rules.few_items;
      stacks = omega (arith, c.stacks.ensures.value, few_stacks c.args.instance.now.items c.args.instance.now.stacks rules.stacks, rules.few_items);
      width = omega (arith, c.widest.ensures.value, widest_within c.args.instance.now rules);
      height = c.params-params.result.now.accepted.height_limit;
    }
