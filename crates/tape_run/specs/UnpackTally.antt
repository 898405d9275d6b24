-- How many files `unpack` has reported, by their outcomes.
use Rattle.std.specs.Prelude.{ℕ, ◌+◌, min, List, ◌++◌, codes, decimal}
use Rattle.tape_run.specs.declared.unpack.{line.UnpackOutcome.UnpackOutcome, tally.Tally.Tally}
use Rattle.tape_run.specs.declared.unpack.line.UnpackOutcome.TheVariants.{Complete, Awaits, Ready}
use Rattle.tape_run.specs.declared.unpack.line.UnpackOutcome.TheVariants.{Lacks, Exists, Conflict}
use Rattle.tape_run.specs.declared.unpack.line.UnpackOutcome.TheVariants.{NotFound, Failed}
use Rattle.tape_run.specs.declared.unpack.line.UnpackOutcome.TheVariants.{Salvaged, StageKept}
use Rattle.tape_run.specs.declared.unpack.line.UnpackOutcome.TheVariants.{Different, NotCompared}
use Rattle.tape_run.specs.declared.unpack.line.UnpackOutcome.TheVariants.{Differs, Uncounted, Staged}

-- nothing was reported
abbrev pub nothing_counted : Tally
nothing_counted = record {
  complete = 0;
  existing = 0;
  incomplete = 0;
  in_conflict = 0;
  not_found = 0;
  failed = 0;
}

-- a count after more files; it stops at its greatest value
abbrev pub more : ℕ → ℕ → ℕ
more count files = min (count + files) 18446744073709551615

-- the counts after a number of further files with this outcome
abbrev pub counted : Tally → UnpackOutcome → ℕ → Tally
counted t Complete files = record t { complete = more t.complete files }
counted t Ready files = record t { complete = more t.complete files }
counted t Awaits files = record t { incomplete = more t.incomplete files }
counted t Lacks files = record t { incomplete = more t.incomplete files }
counted t Exists files = record t { existing = more t.existing files }
counted t Different files = record t { existing = more t.existing files }
counted t NotCompared files = record t { existing = more t.existing files }
counted t Conflict files = record t { in_conflict = more t.in_conflict files }
counted t NotFound files = record t { not_found = more t.not_found files }
counted t Failed files = record t { failed = more t.failed files }
counted t Salvaged files = t
counted t StageKept files = t
counted t Differs files = t
counted t Uncounted files = t
counted t Staged files = t

-- the last line
abbrev pub total_line : Tally → List ℕ
total_line t =
    codes "TOTAL " ++ decimal t.complete ++ codes " complete " ++ decimal t.existing
    ++ codes " existing " ++ decimal t.incomplete ++ codes " incomplete "
    ++ decimal t.in_conflict ++ codes " in conflict " ++ decimal t.not_found
    ++ codes " not found " ++ decimal t.failed ++ codes " failed\n"
