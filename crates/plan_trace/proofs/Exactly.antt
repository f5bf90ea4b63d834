-- A trace is complete exactly where a lawful plan has it: the canonical plan of a complete trace is one.
use Rattle.std.proofs.Common.{◌≡◌, List, sym, ap, ◌∙◌, subst}
use Rattle.glass_base.specs.Problem.{Problem}
use Rattle.cut_model.specs.declared.steps.Step.{Step}
use Rattle.cut_model.specs.Lawful.{IsLawful}
use Rattle.cut_model.specs.Traces.{trace_of}
use Rattle.cut_model.specs.Tree.{tree}
use Rattle.plan_trace.specs.Canonical.{canonical}
use Rattle.plan_trace.specs.Claims.{IsComplete, CompleteExactly}
use Rattle.plan_trace.specs.Marks.{spots}
use Rattle.plan_trace.proofs.Good.{canonical_good}
use Rattle.plan_trace.proofs.Lawful.{lawful_meets}
use Rattle.plan_trace.proofs.Planned.{planned, tree_planned}
use Rattle.plan_trace.proofs.Shapes.{shaped}
use Rattle.plan_trace.proofs.Traced.{canonical_traced}

-- the canonical plan is the tree of a plan
pub canonical_planned : (b : Problem) (steps : List Step) → tree (planned (canonical b steps)) ≡ canonical b steps
canonical_planned b steps = let h = shaped b (spots b steps) in tree_planned (canonical b steps) h.plates h.flat

-- a trace is complete exactly where some lawful plan has it
pub complete_exactly : CompleteExactly
complete_exactly b rules steps = (
  λ complete.
      let back = sym (canonical_planned b steps) in (
        planned (canonical b steps),
        record {
          lawful = subst (IsLawful b) back (canonical_good b rules steps complete).lawful;
          steps_are = ap (trace_of b) (canonical_planned b steps) ∙ canonical_traced b rules steps complete.meets;
        },
      ),
  λ has. subst (IsComplete b) has.1.steps_are (lawful_meets b rules (tree has.0) has.1.lawful),
)
