-- Boxes are dealt out to workers.
use Rattle.std.specs.Prelude.{◌≡◌, ◌==◌, ℕ, suc, ◌+◌, ◌-◌, ◌%◌, ◌<◌, List, [], ◌∷◌, ◌++◌, length, reverse, slice_index_or, sum_by, All, if◌then◌else◌}
use Rattle.glass_base.specs.Problem.{Problem}
use Rattle.plan_box.specs.Frames.{frame_of}
use Rattle.plan_box.specs.Ranges.{PlainBox}
use Rattle.box_ring.specs.Arms.{put, taken, Stays, IsRing, AllOfFrame}
use Rattle.shared_best.specs.Seats.{Words}
use Rattle.box_workers.specs.declared.member.Member.{Member}
use Rattle.box_workers.specs.inner.Members.{IsNew, IsReady, arms_of}

-- a worker got boxes into its arm, or none; nothing else was done with it
pub record IsDealt (old new : Member) : Type 0 where
  pub seat : new.seat ≡ old.seat
  pub hand : new.hand ≡ old.hand
  pub stays : Stays old.arm new.arm
  pub misses : new.arm.misses ≡ old.arm.misses

-- the same of each worker
abbrev pub EachDealt : List Member → List Member → Type 0
EachDealt [] [] = Unit {0}
EachDealt [] (n ∷ news) = ⊥
EachDealt (m ∷ olds) [] = ⊥
EachDealt (m ∷ olds) (n ∷ news) = IsDealt m n × EachDealt olds news

-- the boxes of a list, numbered from a number on, whose number leaves this worker's, divided by how many workers there are
abbrev pub dealt_to : (workers worker from : ℕ) → List PlainBox → List PlainBox
dealt_to workers worker from [] = []
dealt_to workers worker from (x ∷ xs) = (if from % workers == worker then x ∷ [] else []) ++ dealt_to workers worker (suc from) xs

-- the worker in this place got a box into its arm, and none was taken
pub record Gets (place : ℕ) (x : PlainBox) (olds news : List Member) : Type 0 where
  pub each : EachDealt olds news
  pub puts : (weight : PlainBox → ℕ) → sum_by (put weight) (arms_of news) ≡ sum_by (put weight) (arms_of olds) + weight x
  pub takes : (weight : PlainBox → ℕ) → sum_by (taken weight) (arms_of news) ≡ sum_by (taken weight) (arms_of olds)
  pub own : (weight : PlainBox → ℕ) (i : ℕ) (d : Member) → i < length olds
      → put weight (slice_index_or news i d).arm ≡ put weight (slice_index_or olds i d).arm + (if i == place then weight x else 0)

-- these boxes were put into the arms of workers, and none was taken; the worker of the last arm stands first
pub record Deals (xs : List PlainBox) (olds news : List Member) : Type 0 where
  pub each : EachDealt olds news
  pub puts : (weight : PlainBox → ℕ) → sum_by (put weight) (arms_of news) ≡ sum_by (put weight) (arms_of olds) + sum_by weight xs
  pub takes : (weight : PlainBox → ℕ) → sum_by (taken weight) (arms_of news) ≡ sum_by (taken weight) (arms_of olds)
  -- each box is in the arm whose number is that of the box, from 0 on, modulo the number of workers
  pub own : (weight : PlainBox → ℕ) (i : ℕ) (d : Member) → i < length olds
      → put weight (slice_index_or news i d).arm ≡ put weight (slice_index_or olds i d).arm + sum_by weight (dealt_to (length olds) (length olds - suc i) 0 xs)

-- the workers can begin: their arms are a ring, in the other order, and hold these boxes
pub record AreSetUp (b : Problem) (w : Words) (boxes : List PlainBox) (ms : List Member) : Type 0 where
  pub new : All (IsNew b) ms
  pub ready : All (IsReady b w) ms
  pub ring : IsRing (reverse (arms_of ms))
  pub frames : AllOfFrame (frame_of b) (reverse (arms_of ms))
  pub puts : (weight : PlainBox → ℕ) → sum_by (put weight) (arms_of ms) ≡ sum_by weight boxes
  pub takes : (weight : PlainBox → ℕ) → sum_by (taken weight) (arms_of ms) ≡ 0
