-- Where the strips of a class end: what a fact that is kept truncated says of that.
use Rattle.std.proofs.Common.{ℕ, List}
use Rattle.std.proofs.Math.Logic.{∥∥₁_map}
use Rattle.glass_base.specs.Problem.{Problem}
use Rattle.front_table.specs.declared.labels.FrontLabel.{FrontLabel}
use Rattle.front_table.specs.declared.rows.FrontRow.{FrontRow}
use Rattle.front_table.specs.Pools.{row_at}
use Rattle.front_table.proofs.Known.{held_known}
use Rattle.front_bound.specs.Sides.{StripHeld, ClassGoesOn}

pub class_known : (b : Problem) (rows : List FrontRow) (to_go : ℕ → ℕ) (most : ℕ) (sides : List (List FrontLabel)) (n : ℕ) (begins : List FrontLabel) (plate low top room left : ℕ) → ∥ ClassGoesOn b rows to_go most sides n begins plate low top room left ∥₁ →
    ClassGoesOn b rows to_go most sides n begins plate low top room left
unfolding ClassGoesOn StripHeld
class_known b rows to_go most sides n begins plate low top room left h f at from held w bands is wide narrow roomy m to near right placed gap within close =
    held_known (row_at sides m) right plate (∥∥₁_map h (λ goes. goes f at from held w bands is wide narrow roomy m to near right placed gap within close))
