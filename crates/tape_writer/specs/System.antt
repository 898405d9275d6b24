-- The names of files in their directories, and why a set was not written to image files.
use Rattle.std.specs.Prelude.{Bool, List, [], codes, length, true, ◌∷◌, ◌≡◌, ◌≢◌, false, ℕ, ◌++◌}
use Rattle.std.specs.Prelude.{◌<◌, ◌⊎◌, get_or}
use Rattle.std.specs.{declared.io.ErrorKind.TheVariants.Unsupported}
use Rattle.std.specs.{declared.io.ErrorKind.TheVariants.InvalidInput}
use Rattle.std.specs.{declared.io.ErrorKind.ErrorKind}
use Rattle.tape_writer.specs.{declared.fault.SetFault.SetFault}
use Rattle.tape_writer.specs.{declared.system.fault.SystemFault.TheVariants.Write}
use Rattle.tape_writer.specs.{declared.system.fault.SystemFault.TheVariants.File}
use Rattle.tape_writer.specs.{declared.system.fault.SystemFault.SystemFault}
use Rattle.tape_writer.specs.declared.fault.SetFault.TheVariants as sets
use Rattle.tape_writer.specs.declared.system.fault.FileFault.TheVariants as files

-- the fault for a set that was not written
abbrev pub of_set : SetFault → SystemFault
of_set (sets.Write fault) = Write fault
of_set sets.ReadFailed = File files.ReadFailed

-- The path is this name, which has no slash (47), in this directory: the current one if the path
-- has no slash, the root if nothing precedes its only slash, otherwise what precedes the last one.
pub record IsPathOf (path folder name : List ℕ) : Type 0 where
  pub plain : (i : ℕ) → i < length name → get_or name i 0 ≢ 47
  pub joined : ((path ≡ name) × (folder ≡ codes "."))
      ⊎ ((path ≡ 47 ∷ name) × (folder ≡ codes "/"))
      ⊎ ((folder ≢ []) × (path ≡ folder ++ 47 ∷ name))

-- only these errors say that a file system cannot sync
abbrev pub is_unable : ErrorKind → Bool
is_unable InvalidInput = true
is_unable Unsupported = true
is_unable _ = false
