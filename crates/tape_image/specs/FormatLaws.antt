-- Laws about images of several formats: where bytes begin with one encoding, and one list of items.
use Rattle.std.specs.Prelude.{◌≡◌, ℕ, ◌<◌, ◌%◌, List, [], ◌++◌, length}
use Rattle.std.specs.List.{AllByRecursion}
use Rattle.tape_image.specs.declared.format.ImageFormat.{ImageFormat}
use Rattle.tape_image.specs.declared.format.ImageFormat.TheVariants as formats
use Rattle.tape_image.specs.{Tape.TapeItem, Spelling.Spells}
use Rattle.tape_image.specs.FormatItems.{IsE11, IsExtended, Encoding, IsEncoding, HasItems}

-- these are bytes
abbrev pub AreBytes : List ℕ → Type 0
AreBytes xs = AllByRecursion (λ b. b < 256) xs

-- ---- in one format

-- over each format the items are a function of the bytes
abbrev pub ItemsAreUnique : Type 0
ItemsAreUnique =
    (format : ImageFormat) (xs : List ℕ) (items others : List TapeItem)
    → HasItems format xs items → HasItems format xs others
    → items ≡ others

-- bytes begin with at most one encoding of a format
abbrev pub EncodingsAreUnique : Type 0
EncodingsAreUnique =
    (format : ImageFormat) (before : ℕ) (e f : Encoding) (rest more : List ℕ)
    → IsEncoding format before e rest → IsEncoding format before f more
    → e.bytes ++ rest ≡ f.bytes ++ more
    → e ≡ f

-- No encoding is a proper prefix of another before the same bytes. Which bytes follow counts in the
-- extended format alone, for bad records of length 0 and half gaps.
abbrev pub NoEncodingBeginsAnother : Type 0
NoEncodingBeginsAnother =
    (format : ImageFormat) (before : ℕ) (e f : Encoding) (more rest : List ℕ)
    → IsEncoding format before e (more ++ rest) → IsEncoding format before f rest
    → f.bytes ≡ e.bytes ++ more
    → more ≡ []

-- ---- in two formats

-- each image in SIMH's format is one of the same items in the extended format
abbrev pub SimhIsExtended : Type 0
SimhIsExtended =
    (xs : List ℕ) (items : List TapeItem) → Spells xs items → HasItems formats.Extended xs items

-- Bytes that are an image both in E11's format and in SIMH's, also in the extended one, have the
-- same items in both.
abbrev pub E11AndSimhAgree : Type 0
E11AndSimhAgree =
    (xs : List ℕ) (items others : List TapeItem) → AreBytes xs
    → HasItems formats.E11 xs items → HasItems formats.Extended xs others
    → items ≡ others

-- no bytes begin with an encoding of E11's format and another one of the extended format
abbrev pub E11AndSimhAreApart : Type 0
E11AndSimhAreApart =
    (s t x y : List ℕ) (given other : List TapeItem) → AreBytes (s ++ x)
    → IsE11 s given → IsExtended t y other → s ++ x ≡ t ++ y
    → (s ≡ t) × (given ≡ other)

-- an E11 image whose encodings all have even lengths, as those of blocks of even length, is one of
-- the same items in SIMH's format
abbrev pub EvenE11IsSimh : Type 0
EvenE11IsSimh =
    (xs : List ℕ) (items : List TapeItem) (h : HasItems formats.E11 xs items)
    → AllByRecursion (λ e. length e.bytes % 2 ≡ 0) h.encodings
    → Spells xs items
