-- The consequences of the headline for the example set if a reader fails, if the sink refuses a
-- part, and if a session is resumed on another day.
use Rattle.std.specs.Prelude.{◌≡◌, ℕ, true, List, [], ◌∷◌, Option, None, Some, codes}
use Rattle.tape_label.specs.declared.values.Format.TheVariants.{Spanned}
use Rattle.tape_set.specs.Position.{awaiting, want_at}
use Rattle.tape_core.specs.{Point.Point, Stands.Stands, declared.sink.SinkFault.SinkFault}
use Rattle.tape_run.specs.{declared.script.Step.Step, declared.script.Step.TheVariants.Reel}
use Rattle.tape_run.specs.{declared.fault.RunFault.TheVariants.Sink, CrashRuns.IsResumed, Seen.Seen}
use Rattle.tape_run.specs.Headline.{IsStart, IsRead, HasRun, HasStopped}
use Rattle.tape_run.specs.WorkedHistory.{worked_set, first, middle, last, reel_1, reel_2}

-- the sink contains the whole file, and nothing is missing
pub record IsWhole (s : Seen) : Type 0 where
  pub all : s.parts ≡ first ∷ middle ∷ last ∷ []
  pub no_want : want_at 1 s.place.position ≡ None

-- both volumes, read once
abbrev pub once : List (List ℕ)
once = reel_1 ∷ reel_2 ∷ []

-- and read twice
abbrev pub twice : List (List ℕ)
twice = reel_1 ∷ reel_2 ∷ reel_1 ∷ reel_2 ∷ []

abbrev pub two_reels : List Step
two_reels = Reel ∷ Reel ∷ []

abbrev pub four_reels : List Step
four_reels = Reel ∷ Reel ∷ Reel ∷ Reel ∷ []

-- the checkpoint after the first block of volume 1, inside the record
abbrev pub behind_one : Point
behind_one = record {
  set_id = codes "ABC001";
  file = 1;
  position = awaiting 1 1;
  begun = true;
  known = Some record {
    file_id = codes "PAYROLL          ";
    format = Spanned;
    rec_len = 0;
    offset = 0;
  };
  staged = 18;
}

-- The consequences of the headline for this set.
pub record DaysAreWorked : Type 0 where
  -- One of four readers failed, whichever and wherever it was: the file is complete.
  pub failed_reader : (s : Seen) (left : List (Option (List ℕ)))
      → IsRead (codes "ABC001") 1 four_reels twice left s → s.failures ≡ 1 → IsWhole s
  -- A part of volume 1 was refused, whichever it was, and then both volumes were read: the file is
  -- complete, and no part is in it twice.
  pub refused_part : (old mid new : Seen) (n : ℕ) (cause : SinkFault)
      (left over : List (Option (List ℕ))) → IsStart (codes "ABC001") 1 old
      → HasStopped old (Reel ∷ []) (reel_1 ∷ []) left n (Sink cause) mid
      → HasRun mid two_reels once over new → new.failures ≡ 0 → IsWhole new
  -- The checkpoint is valid, with the part before it. A session that is resumed there, over readers
  -- none of which fails, contains the whole file in the end.
  pub stands : Stands worked_set 1 behind_one (first ∷ [])
  pub resumed : (began new : Seen) (left : List (Option (List ℕ)))
      → IsResumed behind_one (first ∷ []) began
      → HasRun began two_reels once left new → new.failures ≡ 0 → IsWhole new
