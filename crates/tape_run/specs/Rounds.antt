-- The work of `extract` on images, in several passes.
use Rattle.std.specs.Prelude.{◌≡◌, ◌≢◌, ◌⊎◌, ℕ, ◌+◌, ◌<◌, List, [], ◌∷◌, ◌++◌, length, map, Option}
use Rattle.std.specs.Prelude.{None, ⊤, Bool, true, false}
use Rattle.std.specs.Io.KnownBytes.{Appends}
use Rattle.tape_set.specs.{declared.position.Want.Want, Position.want_at}
use Rattle.tape_core.specs.{State.State, declared.sink.PartSink.Ghosts}
use Rattle.tape_run.specs.{ReelLine.reel_lines, Stopping.StopsReading, Seen.Seen}
use Rattle.tape_run.specs.{SessionState.SessionState, declared.fault.EngineFault.EngineFault}
use Rattle.tape_run.specs.Reeling.{Turn, answer_of, AreTurns, Follows, Mounting, Carries, TakesAll}

-- A pass over the images: the outcome of each, and the reader's state after the last one.
pub record Round : Type 0 where
  pub turns : List Turn
  pub behind : State

-- the turns of passes, one after another
abbrev pub turns_of : List Round → List Turn
turns_of [] = []
turns_of (r ∷ rounds) = r.turns ++ turns_of rounds

-- the reader's state after passes, from this one on
abbrev pub core_behind : State → List Round → State
core_behind core [] = core
core_behind core (r ∷ rounds) = core_behind r.behind rounds

-- the missing part of a file whose reader is in this state
abbrev pub wanted : State → Option Want
wanted core = want_at core.file core.position

-- Each pass opened the images of a source from the first one on.
abbrev pub AreRounds : {L R : Type 0} → Mounting L R → (R → Option (List ℕ)) → L → List Round → L
    → Type 0
AreRounds gives remaining shelf [] last = last ≡ shelf
AreRounds gives remaining shelf (r ∷ rounds) last = (mid : _)
    × AreTurns gives remaining shelf 0 r.turns mid × AreRounds gives remaining mid rounds last

-- Each pass read all images, and recovered something: a part is still missing after it, but not the
-- same part as before.
abbrev pub MadeProgress : ℕ → State → List Round → Type 0
MadeProgress size core [] = ⊤
MadeProgress size core (r ∷ rounds) = (length r.turns ≡ size) × (wanted r.behind ≢ None)
    × (wanted r.behind ≢ wanted core) × MadeProgress size r.behind rounds

-- No other pass follows: no part is missing, or the same part as before the pass, or line numbers
-- are exhausted. The given number of lines precedes the pass.
abbrev pub IsEnough : ℕ → ℕ → Option Want → Option Want → Type 0
IsEnough size lines before want = (want ≡ None) ⊎ ((want ≡ before)
    ⊎ (18446744073709551615 < lines + size + size))

-- The passes, one after another, took a session from one state to another, each to its recorded
-- state.
abbrev pub FollowsRounds : Bool → Bool → State → Seen → List Round → Seen → Type 0
FollowsRounds back spares core old [] new = new ≡ old
FollowsRounds back spares core old (r ∷ rounds) new = (mid : Seen)
    × Follows back spares core old r.turns r.behind mid
    × FollowsRounds back spares r.behind mid rounds new

-- Passes, and a last one with these turns, took a session from one state to another.
abbrev pub GoesRound : Bool → Bool → State → Seen → List Round → List Turn → State → Seen → Type 0
GoesRound back spares core old rounds turns last new = (mid : Seen)
    × FollowsRounds back spares core old rounds mid
    × Follows back spares (core_behind core rounds) mid turns last new

-- ---- calls

-- Complete passes were made, none unless the images are read `again`; each recovered something, and
-- a line was reported for each image of each pass.
pub record HasGone {S L R : Type 0} (g : Ghosts S) (size : ℕ) (gives : Mounting L R)
    (remaining : R → Option (List ℕ)) (back again : Bool) (old new : SessionState S)
    (shelf left : L) (said says : Option (List ℕ)) (rounds : List Round) : Type 0 where
  pub once : again ≡ false → rounds ≡ []
  pub are_rounds : AreRounds gives remaining shelf rounds left
  pub brought : MadeProgress size old.core rounds
  pub at : new.core ≡ core_behind old.core rounds
  pub lines : Appends said says (reel_lines 1 (map answer_of (turns_of rounds)))
  pub follows : Carries g back old new (λ was is. FollowsRounds back again old.core was rounds is)

-- Passes were made until there was a last one.
pub record TakesRounds {S L R : Type 0} (g : Ghosts S) (size : ℕ) (gives : Mounting L R)
    (remaining : R → Option (List ℕ)) (back again : Bool) (old new : SessionState S)
    (shelf left : L) (said says : Option (List ℕ)) : Type 0 where
  pub rounds : List Round
  pub mid : SessionState S
  pub between : L
  pub told : Option (List ℕ)
  pub gone : HasGone g size gives remaining back again old mid shelf between said told rounds
  pub last : TakesAll g size (length (turns_of rounds)) gives remaining back again mid new
      between left told says
  pub enough : again ≡ true
      → IsEnough size (length (turns_of rounds)) (wanted mid.core) (wanted new.core)

-- Passes were made, and a fault ended the next one.
pub record StopsInRound {S L R : Type 0} (g : Ghosts S) (size : ℕ) (gives : Mounting L R)
    (remaining : R → Option (List ℕ)) (back again : Bool) (old new : SessionState S)
    (shelf left : L) (said says : Option (List ℕ)) (fault : EngineFault) : Type 0 where
  pub rounds : List Round
  pub mid : SessionState S
  pub between : L
  pub told : Option (List ℕ)
  pub gone : HasGone g size gives remaining back again old mid shelf between said told rounds
  pub last : StopsReading g size (length (turns_of rounds)) gives remaining back again mid new
      between left told says fault
