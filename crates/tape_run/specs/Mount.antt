-- The reels that may be mounted, and the position after a mount.
use Rattle.std.specs.Prelude.{◌≡◌, ◌≢◌, ℕ, true, false, List, [], ◌++◌, length, take}
use Rattle.tape_image.specs.{Tape.TapeItem, Begins.Stop, Begins.Begins}
use Rattle.tape_set.specs.declared.position.Position.{Position}
use Rattle.tape_set.specs.{Layout.FileSet, Layout.items, Layout.entries, Reading.Reading}
use Rattle.tape_set.specs.{Reading.IsReadingOf, Reading.as_read, Reach.passes, Reach.far}
use Rattle.tape_core.specs.Foreign.{starts_set}

-- an event in a session
pub data MountEvent : Type 0 where
  reads : Reading → MountEvent
  foreign_reel : MountEvent
  saves : MountEvent
  restarts : ℕ → MountEvent

-- The items are those of a reading of a volume; after a complete volume, of which only data blocks
-- are bad, any items may follow.
pub record IsCopy (set : FileSet) (xs : List TapeItem) (r : Reading) : Type 0 where
  pub is_reading : IsReadingOf set r
  pub more : List TapeItem
  pub whole : xs ≡ as_read (items set r.volume) r.good ++ more
  pub behind : more ≢ [] → (length r.good ≡ length (items set r.volume))
      × (passes r.good (entries set r.volume) ≡ true)

-- the items of a reel are those of a reading of a volume, or of a foreign reel
abbrev pub IsMount : FileSet → List TapeItem → MountEvent → Type 0
IsMount set xs (reads r) = IsCopy set xs r
IsMount set xs foreign_reel = starts_set set.set_id xs ≡ false
IsMount set xs saves = ⊥
IsMount set xs (restarts n) = ⊥

-- the items that the bytes of an image begin with are those of such a reel
abbrev pub IsMountOf : FileSet → List ℕ → MountEvent → Type 0
IsMountOf set bytes h = (xs : List TapeItem) × (end : ℕ) × (stop : Stop)
    × Begins 0 bytes xs end stop × IsMount set xs h

-- the mount up to its first n items
abbrev pub cut : ℕ → MountEvent → MountEvent
cut n (reads r) = reads record { volume = r.volume; good = take n r.good }
cut n foreign_reel = foreign_reel
cut n saves = saves
cut n (restarts m) = restarts m

-- the position after a mount, starting at p
abbrev pub after_mount : FileSet → ℕ → Position → MountEvent → Position
after_mount set file p (reads r) = far set file p r
after_mount set file p _ = p
