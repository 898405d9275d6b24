-- The images of volumes.
use Rattle.std.specs.Prelude.{Bool, List, None, length, ℕ, ◌++◌, ◌+◌, ◌<◌, ◌∷◌, ◌≡◌, [], false}
use Rattle.std.specs.Prelude.{true, Option, Some, ◌≢◌, ◌⊎◌}
use Rattle.byteorder.specs.Endian.{little_bytes}
use Rattle.tape_image.specs.{Writer.finished, Writer.Writer, Writer.writing, Spelling.Leads}
use Rattle.tape_image.specs.{Spelling.Spells, Word.end_word, Written.written, Tape.TapeItem}
use Rattle.tape_image.specs.{Begins.image_limit}
use Rattle.tape_set.specs.Sizes.{items_size}
use Rattle.tape_writer.specs.Tapes.{Ended, Failures, Tapes, UnderWay}

-- Volumes as images: the store of the images that have ended, the writer of the current image, if
-- there is one, and the number of failed calls.
pub record Images (S : Type 0) : Type 0 where
  pub store : S
  pub image : Option Writer
  pub failed : ℕ

-- the next write: an item, or the end-of-medium marker
abbrev pub IsNext : List ℕ → Type 0
IsNext bytes = (bytes ≡ little_bytes 4 end_word) ⊎ ((item : TapeItem) × (bytes ≡ written item))

-- The given items are written, followed by a prefix of the next write if the device failed.
pub record IsImageSoFar (items : List TapeItem) (w : Writer) : Type 0 where
  pub bytes : List ℕ
  pub more : List ℕ
  pub contents : w.contents ≡ Some (bytes ++ more)
  pub leads : Leads bytes items []
  pub size : w.size ≡ length bytes
  pub sized : length bytes ≡ items_size items
  pub open_at : w.standing ≢ finished
  pub whole : w.standing ≡ writing → more ≡ []
  pub front : (next : List ℕ) × (rest : List ℕ) × IsNext next × (next ≡ more ++ rest)

-- The image encodes exactly the given items and the end-of-medium marker.
pub record IsImageOf (items : List TapeItem) (bytes : List ℕ) : Type 0 where
  pub spells : Spells bytes items
  pub sized : length bytes ≡ items_size items + 4

-- each image is that of the volume with the same number
abbrev pub AreImagesOf : List (List TapeItem) → List (List ℕ) → Type 0
AreImagesOf [] [] = Unit {0}
AreImagesOf (v ∷ vs) (b ∷ bs) = IsImageOf v b × AreImagesOf vs bs
AreImagesOf _ _ = ⊥

-- The store received exactly the images of the given volumes.
pub record HandedOn (H : List (List ℕ) → Type 0) (volumes : List (List TapeItem)) : Type 0 where
  pub images : List (List ℕ)
  pub held : H images
  pub spelled : AreImagesOf volumes images

-- there is a current image, with the given items
abbrev pub IsUnderWay : List TapeItem → Option Writer → Type 0
IsUnderWay items None = ⊥
IsUnderWay items (Some w) = IsImageSoFar items w

-- the volumes that have ended were passed to the store, and the current one is in `image`
abbrev pub AreImages : (Bool → List (List ℕ) → Type 0) → Option Writer → Tapes → Type 0
AreImages H image (Ended volumes) = (image ≡ None) × HandedOn (H false) volumes
AreImages H image (UnderWay volumes items) = IsUnderWay items image × HandedOn (H true) volumes

-- the same for image tapes and their store
abbrev pub Holds : {S : Type 0} → (S → Bool → List (List ℕ) → Type 0) → Images S → Tapes → Type 0
Holds H t tapes = AreImages (H t.store) t.image tapes

-- the current image, if there is one, accepts no further items: its device failed, or the longest
-- block would exceed the limit of an image
abbrev pub TakesNoMore : Option Writer → Type 0
TakesNoMore None = Unit {0}
TakesNoMore (Some w) = (w.standing ≢ writing) ⊎ (image_limit < w.size + 100008)

-- why a call of image tapes fails: the store has no device left, or the image accepts no further
-- items
abbrev pub HasStopped : ℕ → Option Writer → Type 0
HasStopped left image = (left ≡ 0) ⊎ TakesNoMore image

-- n failures of a device, and no failed allocations
abbrev pub device_failures : ℕ → Failures
device_failures n = record { device = n; memory = 0 }
