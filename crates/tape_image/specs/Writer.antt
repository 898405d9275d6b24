-- The state of an `ImageWriter` that callers see, and the effects of its calls.
use Rattle.std.specs.Prelude.{◌≡◌, ℕ, ◌+◌, ◌<◌, ◌≤◌, List, [], ◌∷◌, ◌++◌, length, Option, Some}
use Rattle.std.specs.{Prelude.Result, Prelude.Ok, Prelude.Err, Prelude.MatchBool, List.flat_map}
use Rattle.std.specs.Io.KnownBytes.{Appends}
use Rattle.byteorder.specs.Endian.{little_bytes}
use Rattle.tape_image.specs.declared.item.ImageWriteFault.TheVariants.{BlockLength, Device}
use Rattle.tape_image.specs.{declared.item.ImageWriteFault.ImageWriteFault, Word.end_word}
use Rattle.tape_image.specs.declared.item.ImageWriteFault.TheVariants.{Finished, TooLong}
use Rattle.tape_image.specs.{Tape.TapeItem, Tape.block, Tape.bad, Tape.mark, Spelling.Spells}
use Rattle.tape_image.specs.{Begins.image_limit, Written.written, Written.is_no_block}

-- open, finished by an end-of-medium marker, or failed
pub data Standing : Type 0 where
  writing : Standing
  finished : Standing
  broken : Standing

-- A writer: the number of bytes that its items and its end-of-medium marker take, its state, and
-- the contents of the device, if known.
pub record Writer : Type 0 where
  pub size : ℕ
  pub standing : Standing
  pub contents : Option (List ℕ)

-- all the bytes were written, within the limit
pub record PutsAll (bytes : List ℕ) (after : Standing) (old new : Writer) : Type 0 where
  pub stands : new.standing ≡ after
  pub size : new.size ≡ old.size + length bytes
  pub within : new.size ≤ image_limit
  pub wrote : Appends old.contents new.contents bytes

-- the device failed: a prefix of the bytes was written, and is not counted
pub record PutsSome (bytes : List ℕ) (old new : Writer) : Type 0 where
  pub stands : new.standing ≡ broken
  pub size : new.size ≡ old.size
  pub within : old.size + length bytes ≤ image_limit
  pub some : List ℕ
  pub wrote : Appends old.contents new.contents some
  pub rest : List ℕ
  pub front : bytes ≡ some ++ rest

-- the result of writing the bytes to an open writer, and the writer after it
abbrev pub Puts : List ℕ → Standing → Writer → Result (Unit {0}) ImageWriteFault → Writer → Type 0
Puts bytes after old (Ok _) new = PutsAll bytes after old new
Puts bytes after old (Err TooLong) new = (image_limit < old.size + length bytes) × (new ≡ old)
Puts bytes after old (Err Device) new = PutsSome bytes old new
Puts bytes after old (Err BlockLength) new = ⊥
Puts bytes after old (Err Finished) new = ⊥

-- the result of a call, and the writer after it: a failed or finished writer does not change
abbrev pub PutsFrom :
    Standing → List ℕ → Standing → Writer → Result (Unit {0}) ImageWriteFault → Writer → Type 0
PutsFrom writing bytes after old result new = Puts bytes after old result new
PutsFrom finished bytes after old result new = (result ≡ Err Finished) × (new ≡ old)
PutsFrom broken bytes after old result new = (result ≡ Err Device) × (new ≡ old)

-- the same for a block; its length is only checked if the writer is open
abbrev pub BlockFrom :
    Standing → List ℕ → Writer → Result (Unit {0}) ImageWriteFault → Writer → Type 0
BlockFrom writing content old result new =
    MatchBool (is_no_block content) ((result ≡ Err BlockLength) × (new ≡ old))
    (Puts (written (block content)) writing old result new)
BlockFrom finished content old result new = (result ≡ Err Finished) × (new ≡ old)
BlockFrom broken content old result new = (result ≡ Err Device) × (new ≡ old)

-- the call for the item succeeded
abbrev pub PutItem : TapeItem → Writer → Writer → Type 0
PutItem (block content) old new = BlockFrom old.standing content old (Ok tt) new
PutItem bad old new = PutsFrom old.standing (written bad) writing old (Ok tt) new
PutItem mark old new = PutsFrom old.standing (written mark) writing old (Ok tt) new

-- the calls for the items, one after another, succeeded
abbrev pub PutItems : List TapeItem → Writer → Writer → Type 0
PutItems [] old new = new ≡ old
PutItems (item ∷ items) old new = (mid : Writer) × PutItem item old mid × PutItems items mid new

-- the call for the item returned that the device failed
abbrev pub FailItem : TapeItem → Writer → Writer → Type 0
FailItem (block content) old new = BlockFrom old.standing content old (Err Device) new
FailItem bad old new = PutsFrom old.standing (written bad) writing old (Err Device) new
FailItem mark old new = PutsFrom old.standing (written mark) writing old (Err Device) new

-- If the calls for the items and `finish` succeeded, the bytes that were appended encode the items:
-- the encoding `written` of each item, and a final end-of-medium marker.
abbrev pub WrittenSpells : Type 0
WrittenSpells =
    (old mid new : Writer) (items : List TapeItem) (before after : List ℕ)
    → old.contents ≡ Some before → new.contents ≡ Some after
    → PutItems items old mid
    → PutsFrom mid.standing (little_bytes 4 end_word) finished mid (Ok tt) new
    → (bytes : List ℕ) × (after ≡ before ++ bytes)
    × (bytes ≡ flat_map written items ++ little_bytes 4 end_word)
    × Spells bytes items × (new.size ≡ old.size + length bytes)

-- If the calls for the items succeeded, and the call for the next item returned that the device
-- failed, the bytes that were appended are the encodings of the items and a prefix of the next
-- item's encoding. Only the items are counted.
abbrev pub FailedHoldsFront : Type 0
FailedHoldsFront =
    (old mid new : Writer) (items : List TapeItem) (item : TapeItem) (before after : List ℕ)
    → old.contents ≡ Some before → new.contents ≡ Some after
    → PutItems items old mid → FailItem item mid new
    → (front rest : List ℕ) × (after ≡ before ++ (flat_map written items ++ front))
    × (written item ≡ front ++ rest)
    × (new.size ≡ old.size + length (flat_map written items))
