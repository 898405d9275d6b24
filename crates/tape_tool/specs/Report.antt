-- What `write` prints.
use Rattle.std.specs.{Prelude.ℕ, Prelude.List, Prelude.◌++◌, Prelude.length, Prelude.codes}
use Rattle.std.specs.{Prelude.decimal, List.flat_map}
use Rattle.tape_writer.specs.declared.system.image_files.Ended.{Ended}

-- a volume: its identifier, and how many bytes its image has
abbrev pub volume_line : Ended → List ℕ
volume_line ended =
    codes "VOLUME " ++ ended.volume ++ codes " " ++ decimal ended.size ++ codes "\n"

-- how many files, and on how many volumes
abbrev pub files_line : ℕ → ℕ → List ℕ
files_line files volumes =
    codes "FILES " ++ decimal files ++ codes " VOLUMES " ++ decimal volumes ++ codes "\n"

-- a line for each volume, and a last one
abbrev pub report : ℕ → List Ended → List ℕ
report files ended = flat_map volume_line ended ++ files_line files (length ended)
