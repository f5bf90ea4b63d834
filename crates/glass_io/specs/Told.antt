-- What calls do to the told contents of files and of a sink, and to counts of faults.
use Rattle.std.specs.Prelude.{◌≡◌, ◌≢◌, ◌⊎◌, ◌+◌, ◌-◌, ◌^◌, ℕ, List, ◌++◌, take, min, Option, Some, None, Result, Ok, Err}
use Rattle.glass_base.specs.declared.role.Role.{Role}
use Rattle.glass_io.specs.declared.files.Trouble.{Trouble}
use Rattle.glass_io.specs.declared.files.Trouble.TheVariants.{Failed, Memory}

-- the bytes under each name that is held
abbrev pub Contents : Type 0
Contents = List ℕ → Option (List ℕ)

-- what files tell: the bytes under each name that is held, where that is told, and how often a read of each role and a write failed
pub record Shelf : Type 0 where
  pub contents : Option Contents
  pub read_faults : Role → ℕ
  pub write_faults : ℕ

-- what a sink tells: the bytes written so far, where that is told, how often it was asked to write, and how often that failed
pub record Paper : Type 0 where
  pub printed : Option (List ℕ)
  pub writes : ℕ
  pub faults : ℕ

-- a relation of two contents where both are told; what is told stays told
abbrev pub WhereTold : {C : Type 0} → (C → C → Type 0) → Option C → Option C → Type 0
WhereTold R None None = Unit {0}
WhereTold R None (Some b) = ⊥
WhereTold R (Some a) None = ⊥
WhereTold R (Some a) (Some b) = R a b

abbrev pub SameContents : Option Contents → Option Contents → Type 0
SameContents old new = new ≡ old

-- every name but this keeps what it holds
abbrev pub KeepsOthers : List ℕ → Contents → Contents → Type 0
KeepsOthers name a b = (other : List ℕ) → other ≢ name → b other ≡ a other

-- the name holds the bytes
pub record Holds (name bytes : List ℕ) (a b : Contents) : Type 0 where
  pub stored : b name ≡ Some bytes
  pub others : KeepsOthers name a b

abbrev pub Stored : List ℕ → List ℕ → Option Contents → Option Contents → Type 0
Stored name bytes = WhereTold (Holds name bytes)

-- the name is as before or holds a front of the bytes
pub record HoldsPrefix (name bytes : List ℕ) (a b : Contents) : Type 0 where
  pub stored : (b name ≡ a name) ⊎ ((n : ℕ) × (b name ≡ Some (take n bytes)))
  pub others : KeepsOthers name a b

abbrev pub StoredPrefix : List ℕ → List ℕ → Option Contents → Option Contents → Type 0
StoredPrefix name bytes = WhereTold (HoldsPrefix name bytes)

abbrev pub SameBytes : Option (List ℕ) → Option (List ℕ) → Type 0
SameBytes old new = new ≡ old

abbrev pub Appended : List ℕ → Option (List ℕ) → Option (List ℕ) → Type 0
Appended bytes = WhereTold (λ a b. b ≡ a ++ bytes)

abbrev pub AppendedPrefix : List ℕ → Option (List ℕ) → Option (List ℕ) → Type 0
AppendedPrefix bytes = WhereTold (λ a b. (n : ℕ) × (b ≡ a ++ take n bytes))

-- a count that rose by one; at the greatest number of 64 bits it stays
abbrev pub Counted : ℕ → ℕ → Type 0
Counted before now = now ≡ min (before + 1) (2 ^ 64 - 1)

-- no fault was counted
pub record SameFaults (old new : Shelf) : Type 0 where
  pub reads : (of : Role) → new.read_faults of ≡ old.read_faults of
  pub writes : new.write_faults ≡ old.write_faults

-- a failed read of this role was counted, and nothing else
pub record ReadFailed (role : Role) (old new : Shelf) : Type 0 where
  pub counted : Counted (old.read_faults role) (new.read_faults role)
  pub others : (of : Role) → of ≢ role → new.read_faults of ≡ old.read_faults of
  pub writes : new.write_faults ≡ old.write_faults

-- a failed write was counted, and nothing else
pub record WriteFailed (old new : Shelf) : Type 0 where
  pub reads : (of : Role) → new.read_faults of ≡ old.read_faults of
  pub counted : Counted old.write_faults new.write_faults

-- a fault is counted exactly where a read failed
abbrev pub CountsRead : {T : Type 0} → Role → Shelf → Shelf → Result T Trouble → Type 0
CountsRead role old new (Ok _) = SameFaults old new
CountsRead role old new (Err Memory) = SameFaults old new
CountsRead role old new (Err Failed) = ReadFailed role old new

-- a fault is counted exactly where a store failed
abbrev pub CountsStore : {T : Type 0} → Shelf → Shelf → Result T Trouble → Type 0
CountsStore old new (Ok _) = SameFaults old new
CountsStore old new (Err Memory) = SameFaults old new
CountsStore old new (Err Failed) = WriteFailed old new

-- each write is counted once, and a fault exactly where it failed
abbrev pub CountsWrite : {T : Type 0} → Paper → Paper → Result T Trouble → Type 0
CountsWrite old new (Ok _) = Counted old.writes new.writes × (new.faults ≡ old.faults)
CountsWrite old new (Err Memory) = Counted old.writes new.writes × (new.faults ≡ old.faults)
CountsWrite old new (Err Failed) = Counted old.writes new.writes × Counted old.faults new.faults
