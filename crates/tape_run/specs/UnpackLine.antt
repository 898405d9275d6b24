-- The lines that `unpack` prints.
use Rattle.std.specs.Prelude.{ℕ, List, [], ◌∷◌, ◌++◌, codes, decimal}
use Rattle.tape_run.specs.declared.unpack.line.{UnpackOutcome.UnpackOutcome, Notice.Notice}
use Rattle.tape_run.specs.declared.unpack.line.UnpackOutcome.TheVariants.{Complete, Awaits, Ready}
use Rattle.tape_run.specs.declared.unpack.line.UnpackOutcome.TheVariants.{Lacks, Exists, Conflict}
use Rattle.tape_run.specs.declared.unpack.line.UnpackOutcome.TheVariants.{NotFound, Failed}
use Rattle.tape_run.specs.declared.unpack.line.UnpackOutcome.TheVariants.{Salvaged, StageKept}
use Rattle.tape_run.specs.declared.unpack.line.UnpackOutcome.TheVariants.{Different, NotCompared}
use Rattle.tape_run.specs.declared.unpack.line.UnpackOutcome.TheVariants.{Differs, Uncounted, Staged}
use Rattle.tape_run.specs.declared.unpack.line.Notice.TheVariants.{NoSet, NoFile, Unread, AfterEnd}
use Rattle.tape_run.specs.{Identifier.identifier_text, Quoting.name_text}

-- the outcome of a file, as `unpack` prints it
abbrev pub unpack_outcome_text : UnpackOutcome → List ℕ
unpack_outcome_text Complete = codes "COMPLETE"
unpack_outcome_text Awaits = codes "AWAITS"
unpack_outcome_text Ready = codes "READY"
unpack_outcome_text Lacks = codes "LACKS"
unpack_outcome_text Exists = codes "EXISTS"
unpack_outcome_text Different = codes "DIFFERENT"
unpack_outcome_text NotCompared = codes "NOT COMPARED"
unpack_outcome_text Conflict = codes "CONFLICT"
unpack_outcome_text NotFound = codes "NOT FOUND"
unpack_outcome_text Failed = codes "FAILED"
unpack_outcome_text Salvaged = codes "SALVAGED"
unpack_outcome_text StageKept = codes "STAGE KEPT"
unpack_outcome_text Differs = codes "SECTION DIFFERS"
unpack_outcome_text Uncounted = codes "UNCOUNTED"
unpack_outcome_text Staged = codes "STAGED"

-- a path, if there is one
abbrev pub path_text : List ℕ → List ℕ
path_text [] = []
path_text (b ∷ bs) = codes " " ++ name_text (b ∷ bs)

-- the line of a file: its set and number, its outcome with any details, and the path of its records
-- or its stage
abbrev pub file_line : List ℕ → ℕ → UnpackOutcome → List ℕ → List ℕ → List ℕ
file_line set_id file outcome details path =
    (codes "FILE " ++ (identifier_text set_id ++ (codes " " ++ (decimal file ++ codes " "))))
    ++ unpack_outcome_text outcome ++ details ++ path_text path ++ codes "\n"

-- the word that a line reports about a name
abbrev pub notice_text : Notice → List ℕ
notice_text NoSet = codes "NO SET "
notice_text NoFile = codes "NO FILE "
notice_text Unread = codes "INCOMPLETE IMAGE "
notice_text AfterEnd = codes "SECTION AFTER END "

-- the line that reports a word about a name
abbrev pub notice_line : Notice → List ℕ → List ℕ
notice_line notice name = notice_text notice ++ name_text name ++ codes "\n"
