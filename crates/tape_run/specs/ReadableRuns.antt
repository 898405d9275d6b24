-- The headline for the wider reading: as for a valid set, but for each set that the wider reading
-- recovers.
use Rattle.std.specs.Prelude.{◌≡◌, ℕ, true, List, Option, IsSome}
use Rattle.tape_set.specs.{Before.before, Readable.IsReadable, Layout.FileSet, Layout.file_of}
use Rattle.tape_run.specs.declared.script.Step.{Step}
use Rattle.tape_run.specs.{Mount.MountEvent, Seen.Seen, Headline.HasRun, Headline.begins}
use Rattle.tape_run.specs.History.{course, course_of, IsHistory}
use Rattle.tape_run.specs.Lead.{StandsThere, at_start}

-- After a run of a session that read the file from its start, in the wider reading: for every set
-- with this identifier that this reading recovers and that has the file, and every history that the
-- returned bytes represent, the sink contains the parts before the position that the history leads
-- to, and the position and the checkpoints are those of the history.
abbrev pub WideRunsRead : Type 0
WideRunsRead = (set_id : List ℕ) (file : ℕ) (old new : Seen) (steps : List Step)
    (bytes : List (List ℕ)) (left : List (Option (List ℕ)))
    → StandsThere (at_start true set_id file) old → (run : HasRun old steps bytes left new)
    → (set : FileSet) (hs : List MountEvent) → IsReadable set → set_id ≡ set.set_id
    → IsSome (file_of set file) → IsHistory set 0 steps run.given hs
    → (course_of new ≡ course set file begins hs)
    × (new.parts ≡ before set file (course set file begins hs).at)
