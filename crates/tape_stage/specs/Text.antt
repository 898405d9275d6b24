-- The text of a checkpoint: 80 characters, in one of two versions.
use Rattle.std.specs.Prelude.{◌≡◌, ℕ, ◌<◌, ◌^◌, List, [], ◌∷◌, ◌++◌, length, codes, Bool}
use Rattle.std.specs.Prelude.{if◌then◌else◌, Option, Some, None, true}
use Rattle.tape_label.specs.Written.{Piece, chars, spaces, number, text_of}
use Rattle.tape_label.specs.{declared.values.Format.Format, Formats.letter, Formats.is_standard}
use Rattle.tape_set.specs.Lawful.{FileForm}
use Rattle.tape_core.specs.{Known.IsForm, Point.Point, Point.IsPoint}
use Rattle.tape_stage.specs.declared.point.Version.TheVariants.{One, Two}
use Rattle.tape_stage.specs.Fields.{place_of, form_of, fields_of}
use Rattle.tape_stage.specs.declared.{point.Version.Version, point.Place.Place, point.Fields.Fields}

-- ---- the text of fields, piece by piece

-- the digit of a version, `1` or `2`
abbrev pub version_digit : Version → ℕ
version_digit One = 49
version_digit Two = 50

-- the block number, and in version 2 the part number
abbrev pub place_pieces : Version → Place → List Piece
place_pieces One place = number 6 place.block ∷ []
place_pieces Two place = number 10 place.block ∷ number 5 place.part ∷ []

-- `D` if the whole file was delivered, otherwise `R`
abbrev pub state_letter : Bool → ℕ
state_letter done = if done then 68 else 82

-- `1` for true, `0` for false
abbrev pub flag_digit : Bool → ℕ
flag_digit flag = if flag then 49 else 48

-- the letter of the format, or a space for `None`
abbrev pub format_letter : Option Format → ℕ
format_letter None = 32
format_letter (Some format) = letter format

-- the number of spaces that fill the 80 characters
abbrev pub tail_width : Version → ℕ
tail_width One = 12
tail_width Two = 3

-- the pieces from the state, which are the same in both versions except for the spaces at the end
abbrev pub rest_pieces : Version → Fields → List Piece
rest_pieces version f = chars 1 (state_letter f.flags.done ∷ []) ∷ chars 1
    (flag_digit f.flags.begun ∷ []) ∷ chars 1 (flag_digit f.flags.known ∷ []) ∷ chars 1
    (format_letter f.form.format ∷ []) ∷ number 5 f.form.rec_len ∷ number 2 f.form.offset
    ∷ chars 17 f.form.file_id ∷ number 15 f.staged ∷ spaces (tail_width version) ∷ []

-- the whole text
abbrev pub pieces : Version → Fields → List Piece
pieces version f =
    chars 4 (codes "TPCK") ∷ chars 1 (version_digit version ∷ []) ∷ chars 6 f.set_id
    ∷ number 4 f.file ∷ number 4 f.sect ∷ place_pieces version f.place ++ rest_pieces version f

-- ---- checkpoints that have a text

-- The numbers of the position fit the version: version 1 has six digits for the block, and no part
-- number.
abbrev pub FitsVersion : Version → Place → Type 0
FitsVersion One place = (place.block < 10 ^ 6) × (place.part ≡ 0)
FitsVersion Two place = (place.block < 10 ^ 10) × (place.part < 10 ^ 5)

-- The numbers of the fields are in range.
pub record Fit (version : Version) (f : Fields) : Type 0 where
  pub file : f.file < 10 ^ 4
  pub sect : f.sect < 10 ^ 4
  pub place : FitsVersion version f.place
  pub rec_len : f.form.rec_len < 10 ^ 5
  pub offset : f.form.offset < 10 ^ 2
  pub staged : f.staged < 10 ^ 15

-- the numbers of the file's form are possible in labels
abbrev pub KnownFits : Option FileForm → Type 0
KnownFits None = Unit {0}
KnownFits (Some form) = IsForm form.format form.rec_len form.offset

-- The form is unknown, or its format is one of ECMA-13.
abbrev pub IsStandard : Option FileForm → Type 0
IsStandard None = Unit {0}
IsStandard (Some form) = is_standard form.format ≡ true

-- The checkpoint has a text in the given version: it satisfies the invariants of checkpoints and of
-- forms, and its numbers fit the version.
pub record IsWritable (version : Version) (c : Point) : Type 0 where
  pub right : IsPoint c
  pub known : KnownFits c.known
  pub fits : FitsVersion version (place_of c.position)

-- The bytes are the text of the checkpoint in the given version. A set identifier has 6 characters
-- and a file identifier 17.
pub record IsPointText (version : Version) (bytes : List ℕ) (c : Point) : Type 0 where
  pub writable : IsWritable version c
  pub set_id : length c.set_id ≡ 6
  pub file_id : length (form_of c.known).file_id ≡ 17
  pub text : bytes ≡ text_of (pieces version (fields_of c))
