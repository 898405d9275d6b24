-- The work of `extract` on images, one after another.
use Rattle.std.specs.Prelude.{◌≡◌, ◌≢◌, ◌⊎◌, ℕ, zero, suc, ◌+◌, ◌<◌, ◌≤◌, List, [], ◌∷◌, ◌++◌}
use Rattle.std.specs.Prelude.{length, map, Option, get_or, set, Some, None, IfSome, ⊤, Bool, true}
use Rattle.std.specs.{Prelude.false, Prelude.◌||◌, Prelude.◌&&◌, Prelude.nat_lt}
use Rattle.std.specs.Io.KnownBytes.{Appends}
use Rattle.tape_label.specs.declared.label.LabelFault.TheVariants.{NotEighty, Identifier}
use Rattle.tape_blocks.specs.Block.{Portion}
use Rattle.tape_image.specs.Reader.{IfKnown}
use Rattle.tape_set.specs.declared.position.Position.TheVariants.{Finished}
use Rattle.tape_core.specs.{State.State, declared.event.Answer.Answer, Place.rest_of, Point.Point}
use Rattle.tape_core.specs.{declared.event.Answer.TheVariants.Useless, Stands.weight_of}
use Rattle.tape_core.specs.declared.event.Reason.TheVariants.{BlockCount, Broken, BadLabel}
use Rattle.tape_core.specs.{declared.sink.PartSink.Ghosts, Table.saved, Table.mount_of}
use Rattle.tape_run.specs.{declared.reel_reader.ReelAnswer.ReelAnswer, Given.is_device, Reels.Reads}
use Rattle.tape_run.specs.{Crash.KeepsLast, Crash.IsLast, Steps.Reeled, Steps.Saved, Steps.WentBack}
use Rattle.tape_run.specs.Seen.{Seen, seen, IsKept, IfSeen, IsSeen}
use Rattle.tape_run.specs.{Headline.HasRun, declared.script.Step.Step, SessionState.SessionState}
use Rattle.tape_run.specs.declared.script.Step.TheVariants.{Reel, Save, Restart}
use Rattle.tape_run.specs.ReelLine.{reel_lines}

-- An image that was opened: the bytes that its reader had and has left, if these are known, the
-- answer of its reel, whether the reel is suspect, and whether a checkpoint was made after it.
pub record Opened : Type 0 where
  pub had : Option (List ℕ)
  pub left : Option (List ℕ)
  pub answer : ReelAnswer
  pub suspect : Bool
  pub noted : Bool

-- the outcome of an image: it was read, or it was not opened
abbrev pub Turn : Type 0
Turn = Option Opened

-- the answer of an image, if it was opened
abbrev pub answer_of : Turn → Option ReelAnswer
answer_of None = None
answer_of (Some o) = Some o.answer

-- An image that was opened, or could not be opened, is this turn: its reader had these bytes, and
-- was closed with those left.
abbrev pub IsTurn : {R : Type 0} → (R → Option (List ℕ)) → Option R → Turn → Type 0
IsTurn remaining None None = ⊤
IsTurn remaining (Some old) (Some o) =
    (o.had ≡ remaining old) × ((new : _) × (o.left ≡ remaining new))
IsTurn remaining image turn = ⊥

-- What opening an image of a source yields, by its number, and the source then.
abbrev pub Mounting : Type 0 → Type 0 → Type 1
Mounting L R = L → ℕ → Option R → L → Type 0

-- The reader with a given number is removed from a list, if the list still has it.
abbrev pub Took : {R : Type 0} → Mounting (List (Option R)) R
Took readers number image left =
    (image ≡ get_or readers number None) × (left ≡ set readers number None)

-- The images of a source from this number on, opened one after another, are described by the list.
abbrev pub AreMounted : {L R T : Type 0} → Mounting L R → (Option R → T → Type 0) → L → ℕ → List T
    → L → Type 0
AreMounted gives is shelf number [] last = last ≡ shelf
AreMounted gives is shelf number (t ∷ ts) last = (image : Option _) × (next : _)
    × gives shelf number image next × is image t × AreMounted gives is next (number + 1) ts last

-- The images of a source from this number on, opened one after another, are these turns.
abbrev pub AreTurns : {L R : Type 0} → Mounting L R → (R → Option (List ℕ)) → L → ℕ → List Turn → L
    → Type 0
AreTurns gives remaining = AreMounted gives (IsTurn remaining)

-- The first images of a source are these turns, and of the others only the next may have been
-- opened, as `image`; it is `None` if that one was not opened, or could not be.
abbrev pub AreFirstTurns : {L R : Type 0} → Mounting L R → (R → Option (List ℕ)) → L → List Turn
    → Option R → L → Type 0
AreFirstTurns gives remaining shelf turns image last = (mid : _)
    × AreTurns gives remaining shelf 0 turns mid
    × (((image ≡ None) × (last ≡ mid)) ⊎ gives mid (length turns) image last)

-- whether the trailer label of the reel, or of a reel before it, gave a different number of blocks
abbrev pub counts_differ : Answer → Bool
counts_differ (Useless (BlockCount label seen)) = true
counts_differ (Useless Broken) = true
counts_differ answer = false

-- the reading ended with a block or a tape mark in place of a label that is no such label
abbrev pub is_no_label : Answer → Bool
is_no_label (Useless (BadLabel NotEighty)) = true
is_no_label (Useless (BadLabel Identifier)) = true
is_no_label answer = false

-- The reel is suspect: its trailer label, or that of a reel before it, gave a different number of
-- blocks; or the images are read again, and blocks were delivered that no trailer label ends.
abbrev pub is_suspect : Bool → ReelAnswer → Bool
is_suspect again o =
    counts_differ o.answer || (again && (nat_lt 0 o.blocks && is_no_label o.answer))

-- The last checkpoint has the session's position and parts.
abbrev pub HasNotedHere : Seen → Type 0
HasNotedHere s = IsLast s (saved s.place (weight_of s.parts)) s.parts

-- After a reel the session made a checkpoint of its position. A session that spares checkpoints
-- made it only if its last one has another position; otherwise nothing changed. If the reel is
-- suspect, no checkpoint was made: a session that rolls back is at its last one, and any other is
-- unchanged.
abbrev pub IsNoted : Bool → Bool → Bool → Bool → Seen → Seen → Type 0
IsNoted back spares false true old new = (spares ≡ true → HasNotedHere old → ⊥) × Saved old new
IsNoted back spares false false old new = (spares ≡ true) × HasNotedHere old × (new ≡ old)
IsNoted false spares true noted old new = new ≡ old
IsNoted true spares true noted old new =
    (n : ℕ) × (length old.notes ≡ n + 1) × WentBack n old new

-- a session rolls back after a suspect reel if it has a checkpoint
abbrev pub goes_back : List Point → Bool
goes_back [] = false
goes_back (c ∷ cs) = true

-- The checkpoints of a session that rolls back belong to it, as those of every session do.
abbrev pub IsKeptFor : Bool → Seen → Type 0
IsKeptFor false s = ⊤
IsKeptFor true s = IsKept s

-- A reel was read from one state of a session to another, and then a checkpoint was made of its
-- position, or it rolled back: the file was not complete, the answer is the core's, and the session
-- is where the reel and the checkpoint lead.
pub record ReadsAndNotes (back spares : Bool) (core : State) (old : Seen) (o : Opened)
    (next : State) (new : Seen) : Type 0 where
  pub waits : core.position ≢ Finished
  pub behind : State
  pub answers : IfKnown o.had o.left
      (λ bytes left. Reads old.wide core.position core (mount_of core) bytes left o.answer behind)
  pub reeled : IfSome o.had (λ bytes. (mid : Seen)
      × Reeled bytes o.left (is_device o.answer.fault) old mid
      × IsNoted back spares o.suspect o.noted mid new)
  pub doubt : o.suspect ≡ is_suspect spares o.answer
  pub place : new.place ≡ rest_of next

-- The images, one after another, took a session from one state to another. An image that was not
-- opened changes nothing.
abbrev pub Follows : Bool → Bool → State → Seen → List Turn → State → Seen → Type 0
Follows back spares core old [] last new = (last ≡ core) × (new ≡ old)
Follows back spares core old (None ∷ turns) last new =
    (core.position ≢ Finished) × Follows back spares core old turns last new
Follows back spares core old (Some o ∷ turns) last new = (next : State) × (behind : Seen)
    × ReadsAndNotes back spares core old o next behind
    × Follows back spares next behind turns last new

-- The step after a reel, for a session with the given number of checkpoints; `None` if no step
-- follows.
abbrev pub step_behind : Bool → Bool → Bool → ℕ → List Step
step_behind back false true notes = Save ∷ []
step_behind back false false notes = []
step_behind false true noted notes = []
step_behind true true noted zero = []
step_behind true true noted (suc n) = Restart n ∷ []

-- the number of checkpoints afterwards
abbrev pub notes_behind : Bool → Bool → ℕ → ℕ
notes_behind false true notes = notes + 1
notes_behind false false notes = notes
notes_behind true noted notes = notes

-- The steps of a session over images, with this many checkpoints before: for each image that was
-- opened its reel, followed by a save if a checkpoint was made; after a suspect reel the session
-- rolls back to the last checkpoint.
abbrev pub steps_of : Bool → ℕ → List Turn → List Step
steps_of back notes [] = []
steps_of back notes (None ∷ turns) = steps_of back notes turns
steps_of back notes (Some o ∷ turns) =
    Reel ∷ step_behind back o.suspect o.noted notes
    ++ steps_of back (notes_behind o.suspect o.noted notes) turns

-- Each reader of an image that was opened knew its bytes, and these are the ones.
abbrev pub AreTold : List Turn → List (List ℕ) → Type 0
AreTold [] bytes = bytes ≡ []
AreTold (None ∷ turns) bytes = AreTold turns bytes
AreTold (Some o ∷ turns) [] = ⊥
AreTold (Some o ∷ turns) (b ∷ bytes) = (o.had ≡ Some b) × AreTold turns bytes

-- the bytes left of the images that were opened
abbrev pub left_in : List Turn → List (Option (List ℕ))
left_in [] = []
left_in (None ∷ turns) = left_in turns
left_in (Some o ∷ turns) = o.left ∷ left_in turns

-- for each reader that was used, whether it failed, by the line of its image
abbrev pub failed_in : List Turn → List Bool
failed_in [] = []
failed_in (None ∷ turns) = failed_in turns
failed_in (Some o ∷ turns) = is_device o.answer.fault ∷ failed_in turns

-- The session's calls for the images are the steps of a run that rolls back after a suspect reel:
-- so the headline is true of them, over all histories that the images represent; and exactly the
-- listed readers failed.
abbrev pub AreSteps : Bool → List Turn → Seen → Seen → Type 0
AreSteps back turns old new = (bytes : List (List ℕ)) → AreTold turns bytes
    → (run : HasRun old (steps_of back (length old.notes) turns) bytes (left_in turns) new)
    × (run.which ≡ failed_in turns)

-- ---- calls

-- For any parts of its sink, the session changed in this way from its earlier state to its current
-- one, a session that rolls back still has its own checkpoints, and a crash leaves the last one.
abbrev pub Carries : {S : Type 0} → Ghosts S → Bool → SessionState S → SessionState S
    → (Seen → Seen → Type 0)
    → Type 0
Carries g back old new so = IfSeen g old (λ was. IsKeptFor back was
    → IsSeen g new (λ is. IsKeptFor back is × so was is
    × KeepsLast g old was.parts new is.parts))

-- The image was read, with this answer, or it was not opened.
pub record Takes {S R : Type 0} (g : Ghosts S) (remaining : R → Option (List ℕ))
    (back spares : Bool) (old new : SessionState S) (image : Option R)
    (answer : Option ReelAnswer) : Type 0 where
  pub turn : Turn
  pub is_turn : IsTurn remaining image turn
  pub answers : answer_of turn ≡ answer
  pub follows : Carries g back old new
      (λ was is. Follows back spares old.core was (turn ∷ []) new.core is)

-- The given number of images was read in order, all of them or up to the one that completed the
-- file, and a line was reported for each, after the given number of earlier lines.
pub record TakesAll {S L R : Type 0} (g : Ghosts S) (size before : ℕ) (gives : Mounting L R)
    (remaining : R → Option (List ℕ)) (back spares : Bool) (old new : SessionState S)
    (shelf left : L)
    (said says : Option (List ℕ)) : Type 0 where
  pub turns : List Turn
  pub are_turns : AreTurns gives remaining shelf 0 turns left
  pub lines : Appends said says (reel_lines (before + 1) (map answer_of turns))
  pub most : length turns ≤ size
  pub all : length turns < size → new.core.position ≡ Finished
  pub none : size ≡ 0 → new ≡ old
  pub follows : Carries g back old new
      (λ was is. Follows back spares old.core was turns new.core is)

-- The session's position is here, and its sink contains these parts; and a crash leaves only its
-- last checkpoint, if it has made one since its old state or only that was left before.
abbrev pub StoodSaved : {S : Type 0} → Ghosts S → SessionState S → List Portion → SessionState S
    → Seen → Type 0
StoodSaved g old held new now = (parts : List Portion) × g.holds new.sink parts
    × (now ≡ seen g new parts) × KeepsLast g old held new parts
