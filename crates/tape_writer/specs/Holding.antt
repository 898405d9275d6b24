-- A write buffer: bytes that are buffered before they are written to a device.
use Rattle.std.specs.Prelude.{Bool, Option, false, ℕ, ◌++◌, ◌+◌, ◌-◌, List, None, Some, [], length}
use Rattle.std.specs.Prelude.{true, ◌^◌, ◌≡◌, min}
use Rattle.std.specs.{Io.KnownBytes.Appends, Io.KnownBytes.append_known}
use Rattle.tape_image.specs.Written.{AppendsFront}

-- the contents of the device, if known, the buffered bytes, the number of bytes accepted, and
-- whether the device failed
pub record Holding : Type 0 where
  pub device : Option (List ℕ)
  pub held : List ℕ
  pub size : ℕ
  pub failed : Bool

-- the bytes accepted, if known: the contents of the device, followed by the buffered bytes
abbrev pub taken : Holding → Option (List ℕ)
taken h = append_known h.device h.held

-- `bytes` were accepted after all earlier bytes, and counted
pub record TakesAll (bytes : List ℕ) (old new : Holding) : Type 0 where
  pub takes : Appends (taken old) (taken new) bytes
  pub size : new.size ≡ min (old.size + length bytes) (2 ^ 64 - 1)
  pub stands : new.failed ≡ false

-- the buffered bytes were appended to the device, and the buffer is empty
pub record PassesOn (old new : Holding) : Type 0 where
  pub passed : Appends old.device new.device old.held
  pub none : new.held ≡ []
  pub size : new.size ≡ old.size
  pub stands : new.failed ≡ false

-- the device failed: its contents are followed by a prefix of the buffered bytes and `bytes`
pub record Stops (bytes : List ℕ) (old new : Holding) : Type 0 where
  pub front : AppendsFront old.device new.device (old.held ++ bytes)
  pub size : new.size ≡ old.size
  pub failed : new.failed ≡ true

-- a buffer that has accepted no bytes, on a device with the given contents
abbrev pub fresh : Option (List ℕ) → Holding
fresh contents = record { device = contents; held = []; size = 0; failed = false }

-- a file is open: the file that was open before, or a new one that has accepted no bytes
abbrev pub Opens : Option Holding → Option Holding → Type 0
Opens None None = ⊥
Opens None (Some new) = (contents : Option (List ℕ)) × (new ≡ fresh contents)
Opens (Some old) new = new ≡ Some old

-- a file accepted `bytes`, which are its first bytes if it was not open before
abbrev pub FileTakes : List ℕ → Option Holding → Option Holding → Type 0
FileTakes bytes None None = ⊥
FileTakes bytes None (Some new) = (contents : Option (List ℕ)) × TakesAll bytes (fresh contents) new
FileTakes bytes (Some old) None = ⊥
FileTakes bytes (Some old) (Some new) = TakesAll bytes old new

-- a file did not accept `bytes`: it is not open, or its device failed
abbrev pub FileStops : List ℕ → Option Holding → Option Holding → Type 0
FileStops bytes None None = Unit {0}
FileStops bytes None (Some new) = (contents : Option (List ℕ)) × Stops bytes (fresh contents) new
FileStops bytes (Some old) None = ⊥
FileStops bytes (Some old) (Some new) = Stops bytes old new

-- all buffered bytes of a file were written to it, if it was opened
abbrev pub FilePasses : Option Holding → Option Holding → Type 0
FilePasses None new = new ≡ None
FilePasses (Some old) None = ⊥
FilePasses (Some old) (Some new) = PassesOn old new
