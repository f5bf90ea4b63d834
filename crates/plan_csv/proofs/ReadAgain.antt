-- A plan that is written is read again as the same plan.
use Rattle.std.proofs.Common.{◌≡◌, List, ap}
use Rattle.std.specs.Prelude.{Ok}
use Rattle.glass_base.specs.Problem.{Problem, IsProblem}
use Rattle.cut_model.specs.declared.family.Row.{Row}
use Rattle.cut_model.specs.declared.plan.Plan.{Plan}
use Rattle.cut_model.specs.Families.{rows_of as rows_of_plan}
use Rattle.cut_model.specs.Tree.{tree}
use Rattle.plan_csv.specs.PlanTexts.{IsWritable, plan_said}
use Rattle.plan_csv.specs.Solutions.{solution_text}
use Rattle.plan_csv.proofs.AcceptedRows.{plan_rows_accepted}
use Rattle.plan_csv.proofs.GrownTree.{plan_grown}
use Rattle.plan_csv.proofs.OwnRows.{plan_cells_accepted}
use Rattle.plan_csv.proofs.RowsInRange.{plan_rows_in_range}
use Rattle.plan_csv.proofs.WrittenRows.{text_read}

-- the text gives the plan's rows, none of which is refused, and the tree of these is the plan's
pub read_again : (b : Problem) (plan : Plan) → IsProblem b → IsWritable b (tree plan) → plan_said b (solution_text b (tree plan)) ≡ Ok (tree plan)
read_again b plan rules h =
    let rows : List Row = rows_of_plan b (tree plan) in
    rw (text_read b rows (plan_rows_in_range b plan rules h), plan_rows_accepted b plan 2 h, plan_cells_accepted b plan) (ap Ok (plan_grown b plan))
