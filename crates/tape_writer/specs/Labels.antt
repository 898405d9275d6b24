-- The labels that are written: each is the text that `tape_label` writes for its fields.
use Rattle.std.specs.Prelude.{if◌then◌else◌, Bool, ℕ, List, [], ◌∷◌, ◌≤◌}
use Rattle.tape_image.specs.{Tape.mark, Tape.TapeItem, Tape.block}
use Rattle.tape_label.specs.Written.{text_of, vol1_pieces, head1_pieces, head2_pieces}
use Rattle.tape_label.specs.{Written.trail1_pieces, declared.values.Head1.Head1}
use Rattle.tape_label.specs.{declared.values.Vol1.Vol1, declared.values.Trail1.Trail1}
use Rattle.tape_label.specs.{Widths.IsWide, declared.values.Kind.Kind}
use Rattle.tape_blocks.specs.Packing.{IsWritable}
use Rattle.tape_set.specs.{Lawful.label_count, Tight.second_of}
use Rattle.tape_writer.specs.declared.course.Opened.{Opened}
use Rattle.tape_label.specs.declared.values.Kind.TheVariants as kinds

-- The labels of the file can be written.
pub record IsReady (file : Opened) : Type 0 where
  pub wide : IsWide file.head
  pub writable : IsWritable file.shape
  pub first : 1 ≤ file.head.sequence
  pub most : file.head.sequence ≤ 9999

-- ---- texts

-- the file's head in the given section
abbrev pub head_at : Opened → ℕ → Head1
head_at file sect = record file.head { sect = sect }

-- the fields of the section's EOF1 or EOV1: the head, and the last six digits of the number of
-- blocks
abbrev pub trailer_at : Opened → ℕ → ℕ → Bool → Trail1
trailer_at file sect count eof =
    record { eof = eof; head = head_at file sect; blocks = label_count count }

-- VOL1
unfoldable pub volume_label : Vol1 → List ℕ
volume_label v = text_of (vol1_pieces v)

-- HDR1
unfoldable pub first_label : Opened → ℕ → List ℕ
first_label file sect = text_of (head1_pieces (head_at file sect))

-- HDR2, EOF2 or EOV2
unfoldable pub second_label : Opened → Kind → List ℕ
second_label file kind = text_of (head2_pieces kind (second_of file.shape))

-- EOF1 or EOV1
unfoldable pub trailer_label : Opened → ℕ → ℕ → Bool → List ℕ
trailer_label file sect count eof = text_of (trail1_pieces (trailer_at file sect count eof))

-- the kind EOF2 if the file ends, EOV2 if it continues
abbrev pub second_kind : Bool → Kind
second_kind eof = if eof then kinds.Eof2 else kinds.Eov2

-- ---- groups of items

-- the headers of a section: HDR1, HDR2 and a mark
abbrev pub header_items : Opened → ℕ → List TapeItem
header_items file sect =
    block (first_label file sect) ∷ block (second_label file kinds.Hdr2) ∷ mark ∷ []

-- the end of a section: a mark, EOF1 and EOF2 or EOV1 and EOV2, and a mark
abbrev pub trailer_items : Opened → ℕ → ℕ → Bool → List TapeItem
trailer_items file sect count eof =
    mark ∷ block (trailer_label file sect count eof)
    ∷ block (second_label file (second_kind eof)) ∷ mark ∷ []
