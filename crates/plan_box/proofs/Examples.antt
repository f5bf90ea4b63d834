-- Worked boxes, computed.
use Rattle.std.proofs.Common.{◌≡◌, ℕ, zero, suc, List, [], ◌∷◌, refl, arith, inl, inr, true, false, replicate}
use Rattle.glass_base.specs.declared.item.Defect.{Defect}
use Rattle.glass_base.specs.Problem.{Problem}
use Rattle.cut_model.proofs.Examples.{usual, item}
use Rattle.glass_base.specs.Plates.{Before, Widest, Width}
use Rattle.plan_box.specs.declared.reason.Reason.{Reason}
use Rattle.plan_box.specs.declared.var.Var.{Var}
use Rattle.plan_box.specs.Bounds.{bound}
use Rattle.plan_box.specs.Decisions.{is_free, IsPoint}
use Rattle.plan_box.specs.Halves.{half_at, lower_half, upper_half}
use Rattle.plan_box.specs.Leasts.{Fixed, fixed, known}
use Rattle.plan_box.specs.Ranges.{Span, Ranges, full_ranges, root_of}
use Rattle.plan_box.specs.Frames.{frame_of}
use Rattle.plan_box.specs.Reasons.{Applies}

abbrev one : ℕ → ℕ → List Defect → Problem
one length width defects = record { params = usual; items = item 0 length width ∷ []; defects = defects; widths = replicate 100 6000; stacks = (0 ∷ []) ∷ [] }

abbrev from : ℕ → ℕ → Span
from low high = record { low = low; high = high }

-- a step of this turn, kind and lift, with these high ends of c and e
abbrev decided_step : ℕ → ℕ → ℕ → ℕ → ℕ → Ranges
decided_step turn kind lift c e = record {
  stack = from 0 0;
  turn = from turn turn;
  kind = from kind kind;
  lift = from lift lift;
  a = from 0 6000;
  b = from 0 6000;
  c = from 0 c;
  d = from 0 3210;
  e = from 0 e;
}

abbrev root : List Ranges
root = (root_of (frame_of (one 500 300 [])) 0).ranges

abbrev leasts : List Fixed → List ℕ
leasts [] = []
leasts (fixed l k ∷ later) = k.least_a ∷ k.least_b ∷ k.least_c ∷ k.least_d ∷ k.least_e ∷ leasts later

-- an item of 500 x 300 that lies unturned, on a new plate and not lifted
least_values : leasts (known (one 500 300 []) (decided_step 0 0 0 3210 6000 ∷ [])) ≡ 0 ∷ 500 ∷ 0 ∷ 300 ∷ 0 ∷ []
least_values = refl

least_bound : bound (one 500 300 []) (decided_step 0 0 0 3210 6000 ∷ []) ≡ 1455000
unfolding Before Width
least_bound = refl

-- at the root only the area counts: 150000 / 3210 is 47 rounded up
root_bound : bound (one 500 300 []) root ≡ 870
root_bound = refl

root_free : is_free root 0 Var.Kind ≡ true
root_free = refl

root_cut : is_free root 0 Var.A ≡ false
unfolding Widest
root_cut = refl

-- a turn is split once
lower_turn : is_free (half_at lower_half root 0 Var.Turn) 0 Var.Turn ≡ false
lower_turn = refl

upper_turn : is_free (half_at upper_half root 0 Var.Turn) 0 Var.Turn ≡ false
upper_turn = refl

-- a decided step of kind 0 opens its cuts
opened : is_free (decided_step 0 0 0 3210 6000 ∷ []) 0 Var.A ≡ true
opened = refl

-- a first step that begins a strip breaks the first rule of traces
kind_refuted : Applies Reason.R6 (one 500 300 []) (decided_step 0 1 0 3210 6000 ∷ [])
kind_refuted = inl (inl (omega arith))

abbrev flaw : Defect
flaw = record { plate = 0; x0 = 500; y0 = 100; x1 = 510; y1 = 110 }

-- an item of 1000 x 3210 before a defect: at each place where its lower side is at 100 at most, but not at 200
hit_refuted : Applies Reason.R3 (one 1000 3210 (flaw ∷ [])) (decided_step 0 0 0 100 375 ∷ [])
unfolding Width
hit_refuted = inl refl

hit_open : ¬ Applies Reason.R3 (one 1000 3210 (flaw ∷ [])) (decided_step 0 0 0 200 375 ∷ [])
unfolding Width
hit_open (inl e) = cc
hit_open (inr none) = none

-- two items of 500 wide, one lifted, the other over it: each lifted item adds a waste to the height, so no upper side fits
abbrev two : Problem
two = record { params = usual; items = item 0 500 300 ∷ record (item 1 500 2900) { sequence = 2 } ∷ []; defects = []; widths = replicate 100 6000; stacks = (0 ∷ 1 ∷ []) ∷ [] }

stacked_leasts : leasts (known two (decided_step 0 0 1 3210 6000 ∷ decided_step 0 4 0 3210 6000 ∷ [])) ≡ 0 ∷ 500 ∷ 0 ∷ 3220 ∷ 0 ∷ 0 ∷ 500 ∷ 0 ∷ 3220 ∷ 0 ∷ []
stacked_leasts = refl

-- the drawn box of docs/BOXES.md: an item of 500 x 1000, beside it one of 300 x 400, and one of 300 x 600 of which nothing is known
abbrev drawn : List Defect → Problem
drawn defects = record {
  params = usual;
  items = item 0 500 1000 ∷ record (item 1 300 400) { sequence = 2 } ∷ record (item 2 300 600) { sequence = 3 } ∷ [];
  defects = defects;
  widths = replicate 100 6000;
  stacks = (0 ∷ 1 ∷ 2 ∷ []) ∷ [];
}

abbrev undecided : Ranges
undecided = full_ranges (record { items = 3; stacks = 1; width = 6000; height = 3210 })

-- the box with these ranges of the first step
abbrev drawn_box : Ranges → List Ranges
drawn_box first = first ∷ decided_step 0 3 0 3210 6000 ∷ undecided ∷ []

abbrev first_step : Ranges
first_step = decided_step 0 0 0 3210 6000

drawn_leasts : leasts (known (drawn []) (drawn_box first_step)) ≡ 0 ∷ 800 ∷ 0 ∷ 1000 ∷ 0 ∷ 0 ∷ 800 ∷ 0 ∷ 1000 ∷ 500 ∷ []
drawn_leasts = refl

drawn_bound : bound (drawn []) (drawn_box first_step) ≡ 1768000
unfolding Before Width
drawn_bound = refl

-- a right side of at most 799 mm
drawn_r1 : Applies Reason.R1 (drawn []) (drawn_box (record first_step { b = from 0 799 }))
unfolding Width
drawn_r1 = inl (inl (inr (inl (omega arith))))

-- a strip that begins from 1 to 19 mm behind the plate's side
drawn_r2 : Applies Reason.R2 (drawn []) (drawn_box (record first_step { a = from 1 19 }))
unfolding Width
drawn_r2 = inl (inl (inl (omega arith, omega arith)))

abbrev defect_at : ℕ → ℕ → ℕ → ℕ → Defect
defect_at x0 y0 x1 y1 = record { plate = 0; x0 = x0; y0 = y0; x1 = x1; y1 = y1 }

-- a defect under each place of the first item
drawn_r3 : Applies Reason.R3 (drawn (defect_at 200 200 210 210 ∷ [])) (drawn_box (record first_step { c = from 0 20; e = from 0 20 }))
unfolding Width
drawn_r3 = inl refl

-- a defect on each place of the strip's right side
drawn_r4 : Applies Reason.R4 (drawn (defect_at 799 2000 810 2010 ∷ [])) (drawn_box (record first_step { b = from 0 805 }))
unfolding Width
drawn_r4 = inl (inr (inl (omega arith, refl)))

-- a strip that is 3501 mm wide at least
drawn_r5 : Applies Reason.R5 (drawn []) (drawn_box (record first_step { a = from 0 0; b = from 3501 6000 }))
unfolding Width
drawn_r5 = inl (inr (omega arith))

-- the second item over the first one, which is wider
drawn_r6 : Applies Reason.R6 (drawn []) (first_step ∷ decided_step 0 4 0 3210 6000 ∷ undecided ∷ [])
drawn_r6 = inr (inl (inr (inr (inr (inr (inr (inl (inr (inl (omega arith))))))))))

-- an item of 10 x 500 below a waste that is wider than itself: this can only be seen where all numbers are known
abbrev narrow : Ranges
narrow = record (decided_step 0 0 0 0 0) { a = from 0 0; b = from 100 100; d = from 1000 1000 }

narrow_point : IsPoint (narrow ∷ [])
narrow_point zero Var.Stack = refl
narrow_point zero Var.Turn = refl
narrow_point zero Var.Kind = refl
narrow_point zero Var.Lift = refl
narrow_point zero Var.A = refl
narrow_point zero Var.B = refl
narrow_point zero Var.C = refl
narrow_point zero Var.D = refl
narrow_point zero Var.E = refl
narrow_point (suc step) v = refl

narrow_r7 : Applies Reason.R7 (one 10 500 []) (narrow ∷ [])
narrow_r7 = (
  narrow_point,
  refl,
  λ meets. elim (meets.0.tr7 refl) [
    | inl fills ↦ absurd (omega (arith, fills))
    | inr leaves ↦ absurd (omega (arith, leaves.1))
  ],
)
