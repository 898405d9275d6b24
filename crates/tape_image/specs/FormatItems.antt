-- Items in images of other formats, and that the SIMH images spell the same items.
use Rattle.std.specs.Prelude.{◌≡◌, ◌≢◌, ◌⊎◌, ◌+◌, ℕ, ◌/◌, ◌%◌}
use Rattle.std.specs.Prelude.{◌^◌, ◌<◌, nat_eq, false, List, [], ◌∷◌}
use Rattle.std.specs.Prelude.{◌++◌, length, take, Some, ⊤}
use Rattle.std.specs.{List.flat_map, List.starts_with, List.AllByRecursion}
use Rattle.byteorder.specs.Endian.{little_bytes}
use Rattle.tape_image.specs.declared.format.ImageFormat.{ImageFormat}
use Rattle.tape_image.specs.declared.format.ImageFormat.TheVariants as formats
use Rattle.tape_image.specs.{declared.item.Ending.Ending, Format.simh_bytes}
use Rattle.tape_image.specs.Tape.{TapeItem, bad, mark}
use Rattle.tape_image.specs.Word.{IsWord, mark_word, gap_word, end_word, block_len}
use Rattle.tape_image.specs.Spelling.{IsSpelling, IsFramed, item_of, Spells, EndsHere}

-- ---- E11

-- the word w, the content, and w again, without a pad byte
pub record IsBare (bytes : List ℕ) (w : ℕ) (content : List ℕ) : Type 0 where
  pub lead : List ℕ
  pub trail : List ℕ
  pub whole : bytes ≡ lead ++ (content ++ trail)
  pub lead_is : IsWord lead w
  pub trail_is : IsWord trail w

-- the bytes are one encoding of `given`: an item, or none for an erase gap
pub data IsE11 (bytes : List ℕ) (given : List TapeItem) : Type 0 where
  e11_mark : IsWord bytes mark_word → given ≡ mark ∷ [] → IsE11 bytes given
  e11_gap : IsWord bytes gap_word → given ≡ [] → IsE11 bytes given
  e11_block :
      (w : ℕ) (content : List ℕ) → block_len w ≡ Some (length content) → IsBare bytes w content
      → given ≡ item_of w content ∷ [] → IsE11 bytes given

-- ---- SIMH's extended format: the first four bits of a word are its class

-- a record of this class is no block of the standard format
abbrev pub IsOther : ℕ → Type 0
IsOther w = (0 < w / 2 ^ 28) × (w / 2 ^ 28 < 15) × (w / 2 ^ 28 ≢ 7) × (w / 2 ^ 28 ≢ 8)

-- the word of a marker
abbrev pub IsMarker : ℕ → Type 0
IsMarker w =
    (w / 2 ^ 28 ≡ 7)
    ⊎ ((w / 2 ^ 28 ≡ 15) × (w ≢ end_word) × (w ≢ gap_word) × (w ≢ 0xFFFEFFFF))

-- The bytes, before the bytes `rest`, are one encoding of `given`: an item, or none for an erase
-- gap or half of one, a marker, or a record of another class.
pub data IsExtended (bytes rest : List ℕ) (given : List TapeItem) : Type 0 where
  standard_item : IsSpelling bytes given → IsExtended bytes rest given
  other_record :
      (w : ℕ) (content : List ℕ) → IsOther w → length content ≡ w % 2 ^ 28
      → IsFramed bytes w content → given ≡ [] → IsExtended bytes rest given
  a_marker : (w : ℕ) → IsWord bytes w → IsMarker w → given ≡ [] → IsExtended bytes rest given
  bad_word :
      IsWord bytes 0x80000000 → (IsWord (take 4 rest) 0x80000000 → ⊥) → given ≡ bad ∷ []
      → IsExtended bytes rest given
  bad_words :
      (lead trail : List ℕ) → bytes ≡ lead ++ trail → IsWord lead 0x80000000
      → IsWord trail 0x80000000 → given ≡ bad ∷ [] → IsExtended bytes rest given
  half_gap :
      IsWord bytes 0xFFFEFFFF → starts_with nat_eq rest (255 ∷ 255 ∷ []) ≡ false → given ≡ []
      → IsExtended bytes rest given
  gap_behind :
      (more : List ℕ) → bytes ≡ 255 ∷ 255 ∷ [] → rest ≡ 254 ∷ 255 ∷ 255 ∷ 255 ∷ more
      → given ≡ [] → IsExtended bytes rest given

-- ---- AWS

-- a header after a chunk of `before` bytes, and a chunk
abbrev pub chunk : ℕ → ℕ → List ℕ → List ℕ
chunk flags before bytes =
    little_bytes 2 (length bytes) ++ (little_bytes 2 before ++ flags ∷ 0 ∷ bytes)

-- a chunk has 1 to 65,535 bytes
abbrev pub IsChunk : List ℕ → Type 0
IsChunk bytes = (0 < length bytes) × (length bytes < 2 ^ 16)

-- the chunks of a block; `first` is 0x80 before the first of them, and 0 before the others
abbrev pub chunks : ℕ → ℕ → List (List ℕ) → List ℕ
chunks first before [] = []
chunks first before (c ∷ []) = chunk (first + 0x20) before c
chunks first before (c ∷ d ∷ cs) = chunk first before c ++ chunks 0 (length c) (d ∷ cs)

-- the bytes of a block
abbrev pub joined : List (List ℕ) → List ℕ
joined cs = flat_map (λ c. c) cs

-- the length of the last chunk
abbrev pub last_len : List (List ℕ) → ℕ
last_len [] = 0
last_len (c ∷ []) = length c
last_len (c ∷ d ∷ cs) = last_len (d ∷ cs)

-- The bytes, after a chunk of `before` bytes, are one encoding of `given`: a tape mark, or a block,
-- whose last chunk has `after` bytes. A block that has more than 99,999 bytes is bad.
pub data IsAws (before : ℕ) (bytes : List ℕ) (given : List TapeItem) (after : ℕ) : Type 0 where
  aws_mark :
      bytes ≡ chunk 0x40 before [] → given ≡ mark ∷ [] → after ≡ 0
      → IsAws before bytes given after
  aws_block :
      (cs : List (List ℕ)) → cs ≢ [] → AllByRecursion IsChunk cs → bytes ≡ chunks 0x80 before cs
      → given ≡ item_of (length (joined cs)) (joined cs) ∷ [] → after ≡ last_len cs
      → IsAws before bytes given after

-- ---- images

-- an encoding, the items it gives, at most one, and the length of the last AWS chunk
pub record Encoding : Type 0 where
  pub bytes : List ℕ
  pub given : List TapeItem
  pub after : ℕ

abbrev pub IsEncoding : ImageFormat → ℕ → Encoding → List ℕ → Type 0
IsEncoding formats.Extended before e rest = IsExtended e.bytes rest e.given × (e.after ≡ 0)
IsEncoding formats.E11 before e rest = IsE11 e.bytes e.given × (e.after ≡ 0)
IsEncoding formats.Aws before e rest = IsAws before e.bytes e.given e.after

-- the bytes of encodings, and the rest
abbrev pub bytes_of : List Encoding → List ℕ → List ℕ
bytes_of es rest = flat_map (λ e. e.bytes) es ++ rest

-- consecutive encodings, before the bytes `rest`
abbrev pub AreEncodings : ImageFormat → ℕ → List Encoding → List ℕ → Type 0
AreEncodings format before [] rest = ⊤
AreEncodings format before (e ∷ es) rest =
    IsEncoding format before e (bytes_of es rest) × AreEncodings format e.after es rest

-- The image ends before these bytes: with an end-of-medium marker, or because none are left. An AWS
-- image has no marker.
abbrev pub EndsImage : ImageFormat → List ℕ → Type 0
EndsImage formats.Aws rest = rest ≡ []
EndsImage format rest = (ending : Ending) × EndsHere ending rest

-- the bytes are an image of these items in the format
pub record HasItems (format : ImageFormat) (xs : List ℕ) (items : List TapeItem) : Type 0 where
  pub encodings : List Encoding
  pub rest : List ℕ
  pub whole : xs ≡ bytes_of encodings rest
  pub items_are : items ≡ flat_map (λ e. e.given) encodings
  pub are : AreEncodings format 0 encodings rest
  pub ends : EndsImage format rest

-- the SIMH image of an image spells the image's items
abbrev pub SimhImagesKeepItems : Type 0
SimhImagesKeepItems =
    (format : ImageFormat) (xs : List ℕ) (items : List TapeItem) → HasItems format xs items
    → Spells (simh_bytes format xs) items
