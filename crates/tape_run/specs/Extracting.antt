-- What `extract` leaves.
use Rattle.std.specs.Prelude.{◌≡◌, ◌≢◌, ◌⊎◌, ℕ, ◌<◌, ◌≤◌, List, [], ◌++◌, length, map, Option, Some}
use Rattle.std.specs.Prelude.{None, ⊤, Bool, true, false}
use Rattle.std.specs.Io.KnownBytes.{Appends}
use Rattle.tape_blocks.specs.{Block.Portion, Spans.join, declared.parts.Form.Form}
use Rattle.tape_set.specs.{declared.position.Position.TheVariants.Finished, Position.want_at}
use Rattle.tape_set.specs.declared.position.Want.{Want}
use Rattle.tape_core.specs.{Place.rest_of, State.State, declared.sink.PartSink.Ghosts}
use Rattle.tape_run.specs.Reeling.{Turn, answer_of, AreTurns, Follows, AreSteps, IsKeptFor}
use Rattle.tape_run.specs.{Reeling.AreFirstTurns, Reeling.Mounting, Reeling.StoodSaved}
use Rattle.tape_run.specs.Rounds.{Round, turns_of, core_behind, wanted, AreRounds, MadeProgress}
use Rattle.tape_run.specs.{Rounds.IsEnough, Rounds.GoesRound, Crash.LeavesSaved}
use Rattle.tape_run.specs.{Stopping.IsStopped, Stopping.RefusesSave, RecordText.output_of}
use Rattle.tape_run.specs.{declared.fault.EngineFault.EngineFault, Seen.Seen, Seen.IfSeen}
use Rattle.tape_run.specs.{declared.fault.EngineFault.TheVariants.WriteFailed, ReelLine.last_line}
use Rattle.tape_run.specs.{SessionState.SessionState, ReelLine.reel_lines}
use Rattle.tape_image.specs.Written.{AppendsFront}

-- ---- outputs

-- the output if something is missing, and if nothing is: the records, which were counted
abbrev pub IsWritten : Form → Option (List ℕ) → Option (List ℕ) → Option Want → ℕ → List Portion
    → Type 0
IsWritten form out written (Some want) records parts = ⊤
IsWritten form out written None records parts = (records ≡ length (join parts).records)
    × Appends out written (output_of form parts)

-- the contents of the output's name: unchanged if something is missing; otherwise exactly the
-- records, which were counted, if the writer knows its bytes
abbrev pub IsPut : Form → Type 0 → Option (List ℕ) → Option Want → ℕ → List Portion → Type 0
IsPut form tells stands (Some want) records parts = ⊤
IsPut form tells stands None records parts = (records ≡ length (join parts).records)
    × (tells → stands ≡ Some (output_of form parts))

-- What a fault leaves of the output. It is untouched, and the last line, if anything of it was
-- reported, does not say that the file is complete. Or the file is complete; then either nothing of
-- that line was reported, or the output is complete.
abbrev pub Leaves : Type 0 → Option Want → Type 0 → Type 0 → Type 0 → Type 0 → Type 0
Leaves less want untouched finished some all =
    (untouched × (less ⊎ (want ≢ None))) ⊎ (finished × ((some × less) ⊎ all))

-- The output is untouched, or a prefix of the records of the complete file was written: all of them
-- if anything of a last line was reported that says that the file is complete.
abbrev pub LeavesOutput : {W : Type 0} → Form → (W → Option (List ℕ)) → W → W → Type 0
    → Option Want → Seen → Type 0
LeavesOutput form contents out written less want now =
    Leaves less want (written ≡ out) (now.place.position ≡ Finished)
    (AppendsFront (contents out) (contents written) (output_of form now.parts))
    (Appends (contents out) (contents written) (output_of form now.parts))

-- The output's name after a fault: it was not touched, and the last line, if anything of it was
-- reported, does not say that the file is complete; or the file is complete, nothing of the last
-- line was reported, and the file with the name is unchanged; or that file is exactly the records.
abbrev pub LeavesName : {O : Type 0} → Form → Type 0 → (O → Option (List ℕ)) → O → O → Type 0
    → Option Want → Seen → Type 0
LeavesName form tells stands out put less want now =
    Leaves less want (put ≡ out) (now.place.position ≡ Finished) (stands put ≡ stands out)
    (tells → stands put ≡ Some (output_of form now.parts))

-- ---- the end of a file

-- The last line was reported, with the missing part or the number of records in the file; and the
-- output is as the sink's parts require.
pub record EndsFile {S : Type 0} (g : Ghosts S) (session : SessionState S)
    (output : Option Want → ℕ → List Portion → Type 0) (said says : Option (List ℕ))
    (want : Option Want) : Type 0 where
  pub wanted : want ≡ want_at session.core.file session.core.position
  pub records : ℕ
  pub line : Appends said says (last_line want records)
  pub is_written : IfSeen g session (λ is. output want records is.parts)

-- The last line reports the part that a session at this position needs, or the number of records of
-- its parts; if less of the line was reported, either is possible.
abbrev pub TellsEnd : Type 0 → Option Want → ℕ → Seen → Type 0
TellsEnd less want records now = less ⊎ ((want ≡ want_at now.place.file now.place.position)
    × (want ≡ None → records ≡ length (join now.parts).records))

-- The end of a run with a fault: a prefix of the line was reported, and the output was left as this
-- allows. Nothing of the line was reported unless a write failed.
pub record StopsAtEnd {S : Type 0} (g : Ghosts S) (session : SessionState S)
    (leaves : Type 0 → Option Want → Seen → Type 0) (said says : Option (List ℕ))
    (fault : EngineFault) : Type 0 where
  pub want : Option Want
  pub records : ℕ
  pub line : AppendsFront said says (last_line want records)
  pub told : fault ≢ WriteFailed → says ≡ said
  pub wants : AppendsFront said says [] ⊎ (want ≡ want_at session.core.file session.core.position)
  pub tells : IfSeen g session (TellsEnd (AppendsFront said says []) want records)
  pub is_written : IfSeen g session (leaves (AppendsFront said says []) want)

-- ---- calls

-- The result of a session over the images that were read: its position is the missing part, and the
-- output is as its parts require. A session that had no checkpoints, or read no suspect reel, is
-- where the history of its mounts leads. One that rolls back did so to its last checkpoint after
-- each suspect reel; any other remains where such a reel left it.
pub record Ends (back spares : Bool) (first : State) (old : Seen) (turns : List Turn)
    (want : Option Want) (output : List Portion → Type 0) : Type 0 where
  pub last : State
  pub now : Seen
  pub follows : Follows back spares first old turns last now
  pub are_steps : AreSteps back turns old now
  pub wanted : want ≡ want_at now.place.file now.place.position
  pub is_written : output now.parts

-- Images were read in their order, all of them or up to the one that completed the file; if they
-- are read `again`, this is a last pass, after passes that recovered something. A line was reported
-- for each image of each pass, numbered continuously, and a last one with the missing part or the
-- number of records in the file; and over all passes the session with the sink's parts ended as it
-- would over images that are specified that often.
pub record Extracts {S L R : Type 0} (g : Ghosts S) (size : L → ℕ) (gives : Mounting L R)
    (remaining : R → Option (List ℕ)) (back again : Bool) (old new : SessionState S)
    (shelf left : L) (output : Option Want → ℕ → List Portion → Type 0)
    (said says : Option (List ℕ)) (want : Option Want) : Type 0 where
  pub rounds : List Round
  pub between : L
  pub are_rounds : AreRounds gives remaining shelf rounds between
  pub brought : MadeProgress (size shelf) old.core rounds
  pub once : again ≡ false → rounds ≡ []
  pub turns : List Turn
  pub are_turns : AreTurns gives remaining between 0 turns left
  pub most : length turns ≤ size shelf
  pub all : length turns < size shelf → want ≡ None
  pub enough : again ≡ true → IsEnough (size shelf) (length (turns_of rounds))
      (wanted (core_behind old.core rounds)) want
  pub records : ℕ
  pub lines : Appends said says
      (reel_lines 1 (map answer_of (turns_of rounds ++ turns)) ++ last_line want records)
  pub ends : IfSeen g old (λ was. IsKeptFor back was
      → (e : Ends back again old.core was (turns_of rounds ++ turns) want (output want records))
      × GoesRound back again old.core was rounds turns e.last e.now
      × StoodSaved g old was.parts new e.now)

-- A fault ended the run. The images that were processed are those of passes that recovered
-- something, and the first images of another pass. The report is a prefix of the report on these
-- images, and exactly their lines unless a write failed. If anything of a last line was reported,
-- that pass is complete, unless the line says that the file is, and no other follows. The output
-- was left as this allows.
pub record Stops {S L R : Type 0} (g : Ghosts S) (size : L → ℕ) (gives : Mounting L R)
    (remaining : R → Option (List ℕ)) (back again : Bool) (old new : SessionState S)
    (shelf left : L) (leaves : Type 0 → Option Want → Seen → Type 0)
    (said says : Option (List ℕ)) (fault : EngineFault) : Type 0 where
  pub rounds : List Round
  pub between : L
  pub are_rounds : AreRounds gives remaining shelf rounds between
  pub brought : MadeProgress (size shelf) old.core rounds
  pub once : again ≡ false → rounds ≡ []
  pub turns : List Turn
  pub image : Option R
  pub are_turns : AreFirstTurns gives remaining between turns image left
  pub most : length turns ≤ size shelf
  pub no_more : length turns ≡ size shelf → image ≡ None
  pub want : Option Want
  pub ended : AppendsFront said says (reel_lines 1 (map answer_of (turns_of rounds ++ turns)))
      ⊎ (((length turns ≡ size shelf) ⊎ (want ≡ None)) × (again ≡ true → IsEnough (size shelf)
      (length (turns_of rounds)) (wanted (core_behind old.core rounds)) want))
  pub records : ℕ
  pub lines : AppendsFront said says
      (reel_lines 1 (map answer_of (turns_of rounds ++ turns)) ++ last_line want records)
  pub told : fault ≢ WriteFailed
      → Appends said says (reel_lines 1 (map answer_of (turns_of rounds ++ turns)))
  pub follows : IfSeen g old (λ was. IsKeptFor back was → (last : State) × (now : Seen)
      × GoesRound back again old.core was rounds turns last now
      × (LeavesSaved g (RefusesSave remaining now image fault (rest_of new.core)) old was.parts now
      new
      × IsStopped g remaining back again now image fault new)
      × TellsEnd (AppendsFront said says
      (reel_lines 1 (map answer_of (turns_of rounds ++ turns)))) want records now
      × leaves (AppendsFront said says
      (reel_lines 1 (map answer_of (turns_of rounds ++ turns)))) want now)
