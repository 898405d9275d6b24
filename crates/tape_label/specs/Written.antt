-- The text that is written for each label: its pieces in the order of their positions, with spaces
-- in reserved positions.
use Rattle.std.specs.Prelude.{◌≡◌, ℕ, List, [], ◌∷◌, ◌++◌, length, replicate}
use Rattle.tape_label.specs.{declared.values.Kind.Kind, declared.values.Vol1.Vol1, Digits.digits}
use Rattle.tape_label.specs.{declared.values.Head1.Head1, declared.values.Head2.Head2}
use Rattle.tape_label.specs.{declared.values.Trail1.Trail1, Formats.letter}
use Rattle.tape_label.specs.Kinds.{identifier, trailer}
use Rattle.tape_label.specs.declared.values.Kind.TheVariants as kinds

-- some characters of a label, and the number of positions for them
pub record Piece : Type 0 where
  pub width : ℕ
  pub text : List ℕ

-- the text `text`, in `width` positions
abbrev pub chars : ℕ → List ℕ → Piece
chars width text = record { width = width; text = text }

-- 32 is the space
abbrev pub spaces : ℕ → Piece
spaces width = chars width (replicate width 32)

-- the number n in decimal, in `width` positions
abbrev pub number : ℕ → ℕ → Piece
number width n = chars width (digits width n)

-- the texts of the pieces, one after another
abbrev pub text_of : List Piece → List ℕ
text_of [] = []
text_of (p ∷ ps) = p.text ++ text_of ps

-- Each piece has as many characters as it has positions.
abbrev pub HaveWidths : List Piece → Type 0
HaveWidths [] = Unit {0}
HaveWidths (p ∷ ps) = (length p.text ≡ p.width) × HaveWidths ps

-- a volume label
abbrev pub vol1_pieces : Vol1 → List Piece
vol1_pieces fields =
    chars 4 (identifier kinds.Vol1) ∷ chars 6 fields.volume ∷ chars 1 (fields.access ∷ [])
    ∷ spaces 13 ∷ chars 13 fields.implementation ∷ chars 14 fields.owner
    ∷ spaces 28 ∷ chars 1 (fields.version ∷ []) ∷ []

-- a first header or trailer label with the block count `blocks`
abbrev pub head_pieces : Kind → Head1 → ℕ → List Piece
head_pieces kind fields blocks =
    chars 4 (identifier kind) ∷ chars 17 fields.file_id ∷ chars 6 fields.set_id
    ∷ number 4 fields.sect ∷ number 4 fields.sequence
    ∷ chars 4 fields.generation ∷ chars 2 fields.gen_version
    ∷ chars 6 fields.created ∷ chars 6 fields.expires
    ∷ chars 1 (fields.access ∷ []) ∷ number 6 blocks
    ∷ chars 13 fields.implementation ∷ spaces 7 ∷ []

-- a first header label has the block count 0
abbrev pub head1_pieces : Head1 → List Piece
head1_pieces fields = head_pieces kinds.Hdr1 fields 0

-- a first trailer label
abbrev pub trail1_pieces : Trail1 → List Piece
trail1_pieces fields = head_pieces (trailer fields.eof) fields.head fields.blocks

-- a second header or trailer label
abbrev pub head2_pieces : Kind → Head2 → List Piece
head2_pieces kind fields =
    chars 4 (identifier kind) ∷ chars 1 (letter fields.format ∷ [])
    ∷ number 5 fields.block_len ∷ number 5 fields.rec_len
    ∷ spaces 35 ∷ number 2 fields.offset ∷ spaces 28 ∷ []
