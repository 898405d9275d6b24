-- Reels that do not belong to the set.
use Rattle.std.specs.Prelude.{◌≡◌, ◌≢◌, ◌&&◌, Bool, true, false, if◌then◌else◌, ℕ, List, ◌∷◌}
use Rattle.std.specs.Prelude.{Option, Some, Result, Ok, Err}
use Rattle.std.specs.Str.{bytes_eq}
use Rattle.tape_image.specs.Tape.{TapeItem, block}
use Rattle.tape_label.specs.{declared.values.Head1.Head1, declared.values.Kind.Kind, Kinds.kind_at}
use Rattle.tape_label.specs.{declared.label.LabelFault.LabelFault, Reading.head1_at}
use Rattle.tape_label.specs.VolumeLabels.{is_volume_label}
use Rattle.tape_label.specs.declared.values.Kind.TheVariants as kinds
use Rattle.tape_set.specs.{declared.position.Position.Position, Layout.FileSet}
use Rattle.tape_set.specs.declared.position.Position.TheVariants.{Awaits, Finished}
use Rattle.tape_core.specs.{declared.event.Answer.TheVariants.Deliver, declared.event.Phase.Phase}
use Rattle.tape_core.specs.declared.event.Phase.TheVariants.{Over, Volume, VolumeLabels}
use Rattle.tape_core.specs.{State.State, Table.Outcome, Follows.IsAt}

-- the block reads as an HDR1 of the set
abbrev pub is_of_set : List ℕ → Result Head1 LabelFault → Bool
is_of_set set_id (Ok h) = bytes_eq h.set_id set_id
is_of_set set_id (Err fault) = false

-- further volume labels, if any, and then an HDR1 of the set
abbrev pub labels_of_set : List ℕ → List TapeItem → Bool
labels_of_set set_id (block b ∷ rest) = if is_volume_label b then labels_of_set set_id rest
    else is_of_set set_id (head1_at b)
labels_of_set set_id _ = false

abbrev pub is_vol1 : Option Kind → Bool
is_vol1 (Some kinds.Vol1) = true
is_vol1 _ = false

-- the reel begins as a volume of the set: VOL1, further volume labels, and an HDR1 of the set
abbrev pub starts_set : List ℕ → List TapeItem → Bool
starts_set set_id (block b ∷ rest) = is_vol1 (kind_at b) && labels_of_set set_id rest
starts_set set_id _ = false

-- the rest of a reel that does not belong to the set, in each phase
abbrev pub IsForeignIn : List ℕ → List TapeItem → Phase → Type 0
IsForeignIn set_id rest Over = Unit {0}
IsForeignIn set_id rest Volume = starts_set set_id rest ≡ false
IsForeignIn set_id rest VolumeLabels = labels_of_set set_id rest ≡ false
IsForeignIn set_id rest _ = ⊥

-- the same at a position; a complete file needs nothing more
abbrev pub IsForeignAt : List ℕ → List TapeItem → Position → Phase → Type 0
IsForeignAt set_id rest Finished phase = Unit {0}
IsForeignAt set_id rest (Awaits sect place part) phase = IsForeignIn set_id rest phase

-- A step over a foreign reel changes only the phase.
pub record Unmoved (set : FileSet) (rest : List TapeItem) (core : State)
    (out : Outcome) : Type 0 where
  pub at : IsAt set out.1
  pub same_file : out.1.file ≡ core.file
  pub same_position : out.1.position ≡ core.position
  pub silent : out.0 ≢ Deliver
  pub foreign : IsForeignAt set.set_id rest out.1.position out.1.phase
