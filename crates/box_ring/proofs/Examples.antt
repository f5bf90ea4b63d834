-- Worked examples of the definitions.
use Rattle.std.proofs.Common.{◌≡◌, true, [], ◌∷◌, refl, arith}
use Rattle.std.specs.Prelude.{Some}
use Rattle.plan_box.specs.declared.frame.Frame.{Frame}
use Rattle.plan_box.specs.Ranges.{PlainBox}
use Rattle.box_ring.specs.Tallies.{tally, Rests}
use Rattle.box_ring.specs.Arms.{Deque, ArmState, new_arm, after_push, after_no_pop, after_no_steal, after_steal, IsRing}
use Rattle.box_ring.specs.Gathers.{IsLeft}

module _ (d e g : Deque) (f : Frame) (x y z : PlainBox) where
  -- an arm of a ring of several, over the first deque, which steals from the second
  abbrev arm : Deque → Deque → ArmState
  arm own next = new_arm own (tally 1 true f [] []) (Some next) (tally 1 true f [] [])

  -- a pop that gives none, and then a steal that gives none, are a miss
  a_miss : (after_no_steal (after_no_pop (arm d e))).misses ≡ 1
  a_miss = refl

  -- so are two pops and a steal; a steal alone is none, nor is one behind a push
  one_miss : (after_no_steal (after_no_pop (after_no_pop (arm d e)))).misses ≡ 1
  one_miss = refl

  no_miss : (after_no_steal (after_no_steal (arm d e))).misses ≡ 0
  no_miss = refl

  no_miss_behind_a_push : (after_no_steal (after_push (after_no_pop (arm d e)) x)).misses ≡ 0
  no_miss_behind_a_push = refl

  -- a box sets the number back
  none_since_a_box : (after_steal (after_no_pop (after_no_steal (after_no_pop (arm d e)))) x).misses ≡ 0
  none_since_a_box = refl

  -- two arms that steal from each other are a ring, and three that steal from one another in turn
  two_arms : IsRing (arm d e ∷ arm e d ∷ [])
  two_arms = (refl, refl, (refl, refl, tt))

  three_arms : IsRing (arm d e ∷ arm e g ∷ arm g d ∷ [])
  three_arms = (refl, refl, (refl, refl, (refl, refl, tt)))

  -- of three boxes that were put and one that was taken, two rest, in any order
  two_rest : Rests (tally 2 true f (x ∷ y ∷ z ∷ []) (y ∷ [])) (z ∷ x ∷ [])
  two_rest h = omega arith

  -- one is left where a box of one deque was taken, and none of another
  one_left : IsLeft (tally 2 true f (x ∷ []) (x ∷ []) ∷ tally 2 true f (z ∷ []) [] ∷ []) (z ∷ [])
  one_left h = omega arith
