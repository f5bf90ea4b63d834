-- What files and a sink in memory hold, and how their scripts make calls fail.
use Rattle.std.specs.Prelude.{ℕ, List, Contains, option_map, slice_index, String, Option, Some, Result, IsErr, IsErrOf}
use Rattle.glass_base.specs.Roles.{place_of}
use Rattle.glass_base.specs.Run.{Listed}
use Rattle.std.specs.BTreeMap.{BTreeMap, get_by_text}
use Rattle.std.specs.declared.alloc.Global.{Global}
use Rattle.glass_io.specs.Told.{Contents, Paper, Shelf}
use Rattle.glass_io.specs.declared.files.Trouble.{Trouble}
use Rattle.glass_io.specs.declared.files.Trouble.TheVariants.{Failed}
use Rattle.glass_io.specs.declared.memory.MemFiles.{MemFiles}
use Rattle.glass_io.specs.declared.memory.MemSink.{MemSink}
use Rattle.glass_base.specs.declared.role.Role.{Role}

abbrev pub held_in : BTreeMap (String Global) (Listed ℕ) → Contents
held_in files name = option_map (λ v. v.items) (get_by_text files name)

-- the count of failed reads of a role
abbrev pub faults_of : List ℕ → Role → ℕ
faults_of counts role = slice_index counts (place_of role)

-- what files tell whose counts of failed reads stand in a list, by the place of their role
abbrev pub shelf_of : Option Contents → List ℕ → ℕ → Shelf
shelf_of contents reads writes = record { contents = contents; read_faults = faults_of reads; write_faults = writes }

-- what files in memory tell
abbrev pub mem_shelf : MemFiles → Shelf
mem_shelf files = shelf_of (Some (held_in files.files)) files.read_faults files.write_faults

-- what a sink in memory tells: its calls are the writes that it was asked for
abbrev pub mem_paper : MemSink → Paper
mem_paper sink = record { printed = Some sink.bytes.items; writes = sink.calls; faults = sink.faults }

-- a call fails only where the script names its number, and a call that it names never succeeds
pub record FollowsScript {T : Type 0} (script : List ℕ) (call : ℕ) (result : Result T Trouble) : Type 0 where
  pub fails : IsErrOf result Failed → Contains script call
  pub named : Contains script call → IsErr result
