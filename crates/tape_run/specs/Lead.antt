-- Where the reader's table leads a run, for any reels, without reference to a set.
use Rattle.std.specs.Prelude.{◌≡◌, ℕ, ◌+◌, Bool, List, [], ◌∷◌, ◌++◌, take, Option, Some, None}
use Rattle.std.specs.Prelude.{slice_get}
use Rattle.std.specs.Prelude.{⊤}
use Rattle.tape_blocks.specs.Block.{Portion}
use Rattle.tape_image.specs.{Tape.TapeItem, Begins.Stop, Begins.Begins}
use Rattle.tape_core.specs.declared.event.Phase.TheVariants.{Over}
use Rattle.tape_core.specs.{Point.Point, State.State, Place.rest_of, Table.saved, Table.mount_of}
use Rattle.tape_core.specs.{Table.reader_of, Stands.weight_of, Weight.IsFront}
use Rattle.tape_run.specs.declared.fault.{RunFault.RunFault, RunFault.TheVariants.Sink}
use Rattle.tape_run.specs.declared.script.Step.{Step}
use Rattle.tape_run.specs.declared.script.Step.TheVariants.{Reel, Save, Restart}
use Rattle.tape_run.specs.{Reels.behind_items, ByTable.delivered_parts, ByTable.IsCutAt, Seen.Seen}

-- a checkpoint: the state of the reader, and the parts that had been delivered
pub record Noted : Type 0 where
  pub place : State
  pub parts : List Portion

-- the state of the reader, the parts that were delivered, the checkpoints, the oldest first, and
-- whether reels are read in the wider reading
pub record Lead : Type 0 where
  pub place : State
  pub parts : List Portion
  pub notes : List Noted
  pub wide : Bool

-- the start of a file
abbrev pub at_start : Bool → List ℕ → ℕ → Lead
at_start wide set_id file = record {
  place = reader_of set_id file;
  parts = [];
  notes = [];
  wide = wide;
}

-- after a reel with these items
abbrev pub over_reel : Lead → List TapeItem → Lead
over_reel t xs = record {
  place = rest_of (behind_items t.wide (mount_of t.place) xs);
  parts = t.parts ++ delivered_parts t.wide (mount_of t.place) xs;
  notes = t.notes;
  wide = t.wide;
}

-- with one more checkpoint
abbrev pub over_save : Lead → Lead
over_save t = record {
  place = t.place;
  parts = t.parts;
  notes = t.notes ++ record { place = t.place; parts = t.parts } ∷ [];
  wide = t.wide;
}

-- after a rollback to checkpoint n, if it exists, with no reading under way: the later checkpoints
-- are dropped
abbrev pub back_to : Lead → ℕ → Option Noted → Lead
back_to t n None = t
back_to t n (Some note) = record {
  place = record note.place { phase = Over };
  parts = note.parts;
  notes = take (n + 1) t.notes;
  wide = t.wide;
}

-- after these steps, over reels with these items
abbrev pub lead : Lead → List Step → List (List TapeItem) → Lead
lead t [] reels = t
lead t (Reel ∷ steps) [] = t
lead t (Reel ∷ steps) (xs ∷ reels) = lead (over_reel t xs) steps reels
lead t (Save ∷ steps) reels = lead (over_save t) steps reels
lead t (Restart n ∷ steps) reels = lead (back_to t n (slice_get t.notes n)) steps reels

-- the items that the bytes of each reel begin with
abbrev pub AreItems : List (List ℕ) → List (List TapeItem) → Type 0
AreItems [] [] = ⊤
AreItems [] (xs ∷ reels) = ⊥
AreItems (bytes ∷ given) [] = ⊥
AreItems (bytes ∷ given) (xs ∷ reels) =
    ((end : ℕ) × (stop : Stop) × Begins 0 bytes xs end stop) × AreItems given reels

-- These are the positions of the checkpoints, whose parts are prefixes of the parts, each at least
-- as long as the one before, and the first at least as long as this prefix.
abbrev pub AreNoted : List Portion → List Noted → List Point → List Portion → Type 0
AreNoted front [] [] parts = IsFront front parts
AreNoted front [] (c ∷ cs) parts = ⊥
AreNoted front (n ∷ ns) [] parts = ⊥
AreNoted front (n ∷ ns) (c ∷ cs) parts = IsFront front n.parts
    × (c ≡ saved n.place (weight_of n.parts)) × AreNoted n.parts ns cs parts

-- The session is at that place: its core, the parts that its sink contains, and its checkpoints.
pub record StandsThere (t : Lead) (s : Seen) : Type 0 where
  pub place : s.place ≡ t.place
  pub parts : s.parts ≡ t.parts
  pub notes : AreNoted [] t.notes s.notes s.parts
  pub wide : s.wide ≡ t.wide

-- The steps lead a session to where the table leads, for any items of its reels.
abbrev pub LeadsBy : Seen → List Step → List (List ℕ) → Seen → Type 0
LeadsBy old steps given new = (t : Lead) (reels : List (List TapeItem)) → AreItems given reels
    → StandsThere t old → StandsThere (lead t steps reels) new

-- Any bytes begin with items, and with these only.
abbrev pub ItemsAreThere : Type 0
ItemsAreThere = (given : List (List ℕ)) → (reels : List (List TapeItem)) × AreItems given reels
    × ((others : List (List TapeItem)) → AreItems given others → others ≡ reels)

-- A step failed, for this reason, in a session in this state: the state is unchanged, or inside the
-- reel at a part that the sink refused, with the session's checkpoints.
abbrev pub StopsBy : Lead → Step → List (List ℕ) → RunFault → Seen → Type 0
StopsBy t Reel (bytes ∷ readers) (Sink cause) new = AreNoted [] t.notes new.notes new.parts
    × ((xs : List TapeItem) (end : ℕ) (stop : Stop) → Begins 0 bytes xs end stop
    → IsCutAt t.wide xs (mount_of t.place) new.place t.parts new.parts)
StopsBy t step readers fault new = StandsThere t new
