use Rattle.std.proofs.Common.{arith, inl, inr}
use Rattle.std.proofs.lemmas.Bool.{cases_eq}
use Rattle.defect_map.proofs.columns.put_across.Goals as goal

pub loop-number-preserved : goal.loop-number-preserved
loop-number-preserved c = record {
  kept = λ number position h. c.in_ok-put.ensures.kept number position (c.loop-number.invariant.kept number position h);
  stand = λ k low high. elim (cases_eq k c.loop-number.number) [
    | inl same ↦ rw same c.in_ok-put.ensures.stands
    | inr other ↦ c.in_ok-put.ensures.kept k c.args.position (c.loop-number.invariant.stand k low (omega (arith, other)))
  ];
}
