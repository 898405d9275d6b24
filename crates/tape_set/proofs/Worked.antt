-- The labels, blocks and sections in the worked sets, and proofs that they are valid.
use Rattle.std.proofs.Common.{◌≡◌, ◌≤◌, ℕ, List, [], ◌∷◌, ◌++◌, length, Bool, true, false, refl}
use Rattle.std.proofs.Common.{arith, codes, lit≤, lit<, inl, inr}
use Rattle.std.specs.{Prelude.map, Prelude.replicate, Prelude.if◌then◌else◌, List.AllByRecursion}
use Rattle.tape_image.specs.Tape.{IsTapeItem, block, mark}
use Rattle.tape_label.specs.Written.{text_of, vol1_pieces, head1_pieces, trail1_pieces}
use Rattle.tape_label.specs.{declared.values.Format.Format, declared.values.Kind.Kind}
use Rattle.tape_label.specs.{declared.values.Format.TheVariants.Fixed, declared.values.Vol1.Vol1}
use Rattle.tape_label.specs.{declared.values.Head1.Head1, declared.values.Trail1.Trail1}
use Rattle.tape_label.specs.{Kinds.HasKind, Kinds.IsSecond, Head1.IsHead1, Head1.HeadFits}
use Rattle.tape_label.specs.{Head2.IsHead2, Head2.Head2Fits, Trail1.IsTrail1, Trail1.TrailFits}
use Rattle.tape_label.specs.{Written.head2_pieces, Widths.IsWide}
use Rattle.tape_label.specs.declared.values.Kind.TheVariants as kinds
use Rattle.tape_label.proofs.Widths.{head_wide, head2_wide}
use Rattle.tape_label.proofs.Texts.{head1_text_is, trail1_text_is, head2_text_is}
use Rattle.tape_blocks.specs.{declared.parts.Shape.Shape, Block.Portion, Block.Holds, Tight.Filled}
use Rattle.tape_blocks.specs.{Packing.written, Spans.InOrder}
use Rattle.tape_set.specs.Layout.{FileSet, Section, Volume, Entry, item_of, section_entries}
use Rattle.tape_set.specs.Lawful.{IsVolume, IsSection, FileForm, HasForm, form_of, most_blocks}
use Rattle.tape_set.specs.{Layout.data_group, Lawful.label_count, Lawful.Ends, Lawful.IsFile}
use Rattle.tape_set.specs.{Before.section_parts, Tight.second_of, Tight.HasPlainLabels}
use Rattle.tape_set.proofs.Numbering.{placed}

-- ---- labels

abbrev pub set_id : List ℕ
set_id = codes "ABC001"

abbrev pub volume_fields : Vol1
volume_fields = record {
  volume = set_id;
  access = 32;
  implementation = replicate 13 32;
  owner = replicate 14 32;
  version = 52;
}

abbrev pub head : ℕ → ℕ → Head1
head file sect = record {
  file_id = codes "PAYROLL          ";
  set_id = set_id;
  sect = sect;
  sequence = file;
  generation = codes "0001";
  gen_version = codes "00";
  created = codes " 00000";
  expires = codes " 00000";
  access = 32;
  implementation = replicate 13 32;
}

abbrev pub trail : Bool → ℕ → ℕ → ℕ → Trail1
trail eof file sect n = record { eof = eof; head = head file sect; blocks = n }

abbrev pub vol1 : List ℕ
vol1 = text_of (vol1_pieces volume_fields)

abbrev pub hdr1 : ℕ → ℕ → List ℕ
hdr1 file sect = text_of (head1_pieces (head file sect))

abbrev pub second : Kind → Shape → List ℕ
second kind shape = text_of (head2_pieces kind (second_of shape))

abbrev pub trailer : Bool → ℕ → ℕ → ℕ → List ℕ
trailer eof file sect n = text_of (trail1_pieces (trail eof file sect n))

pub vol1_is : HasKind vol1 kinds.Vol1
vol1_is = record { size = refl; named = refl }

-- a first label with any identifiers of the right widths
pub wide : (file sect : ℕ) (name id : List ℕ) → length name ≡ 17 → length id ≡ 6
    → IsWide (record (head file sect) { file_id = name; set_id = id })
wide file sect name id named identified = search

head_is_wide : (file sect : ℕ) → IsWide (head file sect)
head_is_wide file sect = wide file sect (head file sect).file_id set_id refl refl

pub hdr1_is : (file sect : ℕ) → HeadFits (head file sect)
    → IsHead1 (hdr1 file sect) (head file sect)
hdr1_is file sect fits = grind (arith, head1_text_is, head_wide, head_is_wide)

pub trailer_is : (eof : Bool) (file sect n : ℕ) → TrailFits (trail eof file sect n)
    → IsTrail1 (trailer eof file sect n) (trail eof file sect n)
trailer_is eof file sect n fits = grind (arith, trail1_text_is, head_wide, head_is_wide)

pub second_is : (kind : Kind) (shape : Shape) → IsSecond kind → Head2Fits (second_of shape)
    → IsHead2 (second kind shape) kind (second_of shape)
second_is kind shape h fits = grind (arith, head2_text_is, head2_wide)

-- ---- sections

-- a shape whose blocks are not padded to the full length
abbrev pub shape_of : (format : Format) (block_len rec_len offset : ℕ)
    → (format ≡ Fixed → 1 ≤ rec_len) → Shape
shape_of format block_len rec_len offset some = record {
  format = format;
  block_len = block_len;
  rec_len = rec_len;
  offset = offset;
  pad_full = false;
  some_record = some;
}

abbrev pub second_kind : Bool → Kind
second_kind eof = if eof then kinds.Eof2 else kinds.Eov2

-- a section as it is written
abbrev pub made : Shape → ℕ → ℕ → ℕ → Bool → List Filled → Section
made shape volume file sect eof blocks = record {
  volume = volume;
  hdr1 = hdr1 file sect;
  hdr2 = second kinds.Hdr2 shape;
  headers = [];
  blocks = blocks;
  trailer = trailer eof file sect (label_count (length blocks));
  trailers = second (second_kind eof) shape ∷ [];
}

-- a block as it is written
abbrev pub filled : Shape → List Portion → Filled
filled shape parts = record { bytes = written shape parts; parts = parts }

abbrev pub form : Shape → FileForm
form shape = form_of (head 1 1) (second_of shape)

-- ---- proofs that they are valid

-- the numbers of a file and of a section fit their digits, and the section has at most
-- `most_blocks` blocks
pub record Fit (file sect n : ℕ) : Type 0 where
  pub file_least : 1 ≤ file
  pub file_most : file ≤ 9999
  pub sect_least : 1 ≤ sect
  pub sect_most : sect ≤ 9999
  pub count_most : n ≤ most_blocks

head_fits : (file sect n : ℕ) → Fit file sect n → HeadFits (head file sect)
head_fits file sect n fit = omega arith

-- the last six digits of a number fit in six digits
pub label_count_most : (n : ℕ) → label_count n ≤ 999999
label_count_most n = omega arith

trail_fits : (eof : Bool) (file sect n : ℕ) → Fit file sect n
    → TrailFits (trail eof file sect (label_count n))
trail_fits eof file sect n fit = omega (arith, head_fits, label_count_most)

pub sized_append : (xs ys : List Entry) → AllByRecursion IsTapeItem (map item_of xs)
    → AllByRecursion IsTapeItem (map item_of ys)
    → AllByRecursion IsTapeItem (map item_of (xs ++ ys))
sized_append [] ys h g = g
sized_append (x ∷ xs) ys h g = (h.0, sized_append xs ys h.1 g)

pub eighty : (bytes : List ℕ) → length bytes ≡ 80 → IsTapeItem (block bytes)
eighty bytes e = (omega (arith, e), omega (arith, e))

pub second_sized : (kind : Kind) (shape : Shape) → IsSecond kind → Head2Fits (second_of shape)
    → IsTapeItem (block (second kind shape))
second_sized kind shape h fits = eighty (second kind shape) (second_is kind shape h fits).kind.size

pub is_second : (eof : Bool) → IsSecond (second_kind eof)
is_second true = tt
is_second false = tt

-- the header group and the trailer group of a section that `made` returns
pub headers_sized : (shape : Shape) (file sect : ℕ) → Head2Fits (second_of shape)
    → HeadFits (head file sect)
    → AllByRecursion IsTapeItem (block (hdr1 file sect) ∷ block (second kinds.Hdr2 shape)
    ∷ mark ∷ [])
headers_sized shape file sect fits fit = search (lit≤, lit<, tt, second_sized)

pub trailers_sized : (shape : Shape) (eof : Bool) (file sect n : ℕ) → Head2Fits (second_of shape)
    → TrailFits (trail eof file sect n)
    → AllByRecursion IsTapeItem (mark ∷ block (trailer eof file sect n)
    ∷ block (second (second_kind eof) shape) ∷ mark ∷ [])
trailers_sized shape eof file sect n fits fit =
    grind (arith, eighty, trailer_is, second_sized, is_second)

-- the properties of a section that `made` returns
pub made_sized : (shape : Shape) (volume file sect : ℕ) (eof : Bool) (blocks : List Filled)
    → Head2Fits (second_of shape) → HeadFits (head file sect)
    → AllByRecursion IsTapeItem (map item_of (data_group blocks)) → AllByRecursion IsTapeItem
    (map item_of (section_entries (made shape volume file sect eof blocks)))
made_sized shape volume file sect eof blocks fits h data_sized =
    search (lit≤, lit<, tt, sized_append, headers_sized, trailers_sized, label_count_most)

pub made_section : (shape : Shape) (volumes volume file sect : ℕ) (eof : Bool)
    (blocks : List Filled) → Head2Fits (second_of shape) → Fit file sect (length blocks)
    → 1 ≤ volume → volume ≤ volumes → AllByRecursion IsTapeItem (map item_of (data_group blocks))
    → IsSection set_id volumes (placed file sect (made shape volume file sect eof blocks))
made_section shape volumes volume file sect eof blocks fits fit least most data_sized =
    let h : HeadFits (head file sect) = head_fits file sect (length blocks) fit in
    let n = label_count (length blocks) in
    let t : TrailFits (trail eof file sect n) = trail_fits eof file sect (length blocks) fit in
    record {
      header = (
        head file sect,
        record { label = hdr1_is file sect h; set_id = refl; file = refl; sect = refl },
      );
      trailer = (
        trail eof file sect n,
        record { label = trailer_is eof file sect n t; file = refl; sect = refl; count = refl },
      );
      volume = (least, most);
      few = fit.count_most;
      sized = made_sized shape volume file sect eof blocks fits h data_sized;
    }

pub made_form : (shape : Shape) (volume file sect : ℕ) (eof : Bool) (blocks : List Filled)
    → Head2Fits (second_of shape) → Fit file sect (length blocks)
    → AllByRecursion (λ b. Holds (form shape).format (form shape).rec_len
    (form shape).offset b.bytes b.parts) blocks
    → HasForm (form shape) (made shape volume file sect eof blocks)
made_form shape volume file sect eof blocks fits fit held = record {
  labels = record {
    head = head file sect;
    second = second_of shape;
    hdr1 = hdr1_is file sect (head_fits file sect (length blocks) fit);
    hdr2 = second_is kinds.Hdr2 shape tt fits;
    told = refl;
  };
  held = held;
}

pub made_plain : (shape : Shape) (volume file sect : ℕ) (eof : Bool) (blocks : List Filled)
    → Head2Fits (second_of shape) → HasPlainLabels shape (made shape volume file sect eof blocks)
made_plain shape volume file sect true blocks fits = grind (arith, second_is)
made_plain shape volume file sect false blocks fits = grind (arith, second_is)

abbrev pub plain_volume : Volume
plain_volume = record { vol1 = vol1; labels = [] }

pub plain_volume_is : IsVolume plain_volume
plain_volume_is = record { vol1 = vol1_is; labels = tt }

-- a set on n volumes without further labels
abbrev pub plain_set : ℕ → List (List Section) → FileSet
plain_set n files = record { set_id = set_id; volumes = replicate n plain_volume; files = files }

-- a file whose sections have the form of a shape
pub alike_file : (shape : Shape) (f : List Section) → Ends f
    → AllByRecursion (HasForm (form shape)) f → InOrder false (section_parts f) false → IsFile f
alike_file shape f ends held order = search (arith, lit≤, lit<, tt, inl, inr) depth 9

-- what the clauses of a valid set and of a tight set are found from
pub ruleset makes =
    (arith, lit≤, lit<, tt, inl, inr, plain_volume_is, made_section, made_form, made_plain)
