-- A reader's state, as seen by contracts.
use Rattle.std.specs.Prelude.{◌≡◌, ℕ, Bool, true, false, List, Option, Some, None}
use Rattle.tape_set.specs.{declared.position.Position.Position, Lawful.FileForm}
use Rattle.tape_core.specs.declared.event.Phase.TheVariants.{Broken, Headers, DataWanted}
use Rattle.tape_core.specs.declared.event.Phase.{Phase}
use Rattle.tape_core.specs.declared.event.Phase.TheVariants.{TrailerWanted}
use Rattle.tape_core.specs.Known.{StandFits, IsFileNumber, is_spanned}

pub record State : Type 0 where
  pub set_id : List ℕ
  pub file : ℕ
  pub position : Position
  pub begun : Bool
  pub known : Option FileForm
  pub phase : Phase

-- whether nothing is read before a restart
abbrev pub is_broken : Phase → Bool
is_broken Broken = true
is_broken _ = false

-- whether data of the section needed are expected next
abbrev pub wants_data : Phase → Bool
wants_data (DataWanted heading form seen) = true
wants_data _ = false

-- the form in the labels of the section needed, if they were read
abbrev pub told : Phase → Option FileForm
told (Headers heading wanted) = wanted
told (DataWanted heading form seen) = Some form
told (TrailerWanted heading form) = Some form
told _ = None

-- if a record is unfinished, the labels read since then, if any, allow records to continue
abbrev pub ToldFits : Bool → Option FileForm → Type 0
ToldFits begun None = Unit {0}
ToldFits begun (Some form) = begun ≡ true → is_spanned form.format ≡ true

-- The invariant of every reader: its file has a number, its position is valid, and if a record is
-- unfinished, the labels read since then allow records to continue.
pub record IsState (file : ℕ) (position : Position) (begun : Bool) (known : Option FileForm)
    (phase : Phase) : Type 0 where
  pub numbered : IsFileNumber file
  pub stands : StandFits position begun known
  pub told_fits : ToldFits begun (told phase)
