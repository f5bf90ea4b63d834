-- How a store goes: what an error means to it, what stands under a name, and where it writes.
use Rattle.std.specs.Prelude.{◌≡◌, ◌≢◌, ◌↔◌, ◌⊎◌, ◌++◌, ℕ, List, codes, Contains, Option, option_map, Result, Ok, Err}
use Rattle.std.specs.Fmt.{decimal}
use Rattle.std.specs.Fs.{IsDir, IsFile}
use Rattle.std.specs.Path.{path_file_name, path_with_file_name}
use Rattle.std.specs.declared.fs.FileType.{FileType}
use Rattle.std.specs.declared.io.ErrorKind.{ErrorKind}
use Rattle.std.specs.declared.io.ErrorKind.TheVariants.{OutOfMemory}
use Rattle.glass_io.specs.declared.decisions.FileId.{FileId}
use Rattle.glass_io.specs.declared.decisions.Standing.{Standing}
use Rattle.glass_io.specs.declared.decisions.Standing.TheVariants.{Nothing, File, Folder, Other}
use Rattle.glass_io.specs.declared.decisions.Way.{Way}
use Rattle.glass_io.specs.declared.decisions.Way.TheVariants.{AsItIs, Make, Replace, Refuse}
use Rattle.glass_io.specs.declared.files.Trouble.{Trouble}
use Rattle.glass_io.specs.declared.files.Trouble.TheVariants.{Failed, Memory}

-- what an error of this kind is to the caller of files: want of memory, or a failure
abbrev pub IsTrouble : ErrorKind → Trouble → Type 0
IsTrouble kind trouble = (trouble ≡ Memory) ↔ (kind ≡ OutOfMemory)

-- what a call answers that ended in an error of this kind, where errors of one kind stand for a value
pub record StandsFor {T : Type 0} (expected : ErrorKind) (value : T) (kind : ErrorKind) (answer : Result T Trouble) : Type 0 where
  pub stands : (answer ≡ Ok value) ↔ (kind ≡ expected)
  pub memory : (answer ≡ Err Memory) ↔ (kind ≡ OutOfMemory)
  pub failed : kind ≢ expected → kind ≢ OutOfMemory → answer ≡ Err Failed

-- what stands under a name, by the type of file that was found there
pub record StandsAs (type : FileType) (id : FileId) (standing : Standing) : Type 0 where
  pub file : (standing ≡ File id) ↔ IsFile type
  pub folder : (standing ≡ Folder) ↔ IsDir type
  pub other : ¬ IsFile type → ¬ IsDir type → standing ≡ Other

-- how a store writes in a run that used these files: to no folder, to no file that was used, and to a device or a pipe as it is
abbrev pub IsWay : List FileId → Standing → Way → Type 0
IsWay used Nothing way = way ≡ Make
IsWay used (File id) way = (Contains used id × (way ≡ Refuse)) ⊎ ((¬ Contains used id) × (way ≡ Replace id))
IsWay used Folder way = way ≡ Refuse
IsWay used Other way = way ≡ AsItIs

-- `.NAME.glass-N`
abbrev pub own_name : List ℕ → ℕ → List ℕ
own_name name number = codes "." ++ name ++ codes ".glass-" ++ decimal number

-- the path with that name in the place of its own, if it ends in a name
abbrev pub name_beside : List ℕ → ℕ → Option (List ℕ)
name_beside path number = option_map (λ name. path_with_file_name path (own_name name number)) (path_file_name path)
