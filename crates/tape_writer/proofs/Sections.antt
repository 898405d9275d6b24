-- A finished section: its labels, its items and its size.
use Rattle.tape_writer.proofs.Words.{subst, ◌≡◌, ◌≤◌, ℕ, List, Bool, true, false, refl, arith, ◌%◌}
use Rattle.tape_writer.proofs.Words.{Vol1, Format, IsWideVolume, Shape, IsWritable, ◌<◌, ◌+◌, []}
use Rattle.tape_writer.proofs.Words.{◌∷◌, ◌++◌, length, sym, ap, ◌∙◌, add-one, map, slice_get}
use Rattle.tape_writer.proofs.Words.{AllByRecursion, map-append, block, Filled, Placed, Section}
use Rattle.tape_writer.proofs.Words.{Volume, on, all_entries, section_entries, item_of, group_of}
use Rattle.tape_writer.proofs.Words.{item_size, items_size, IsSection, used_before}
use Rattle.tape_writer.proofs.Volumes.{data_items}
use Rattle.tape_label.specs.{Kinds.identifier, Kinds.trailer, Kinds.IsSecond, Formats.least_record}
use Rattle.tape_label.specs.{declared.values.Kind.Kind, declared.values.Trail1.Trail1, Vol1.IsVol1}
use Rattle.tape_label.specs.declared.values.Format.TheVariants.{Fixed, Counted, Spanned}
use Rattle.tape_label.specs.declared.values.Format.TheVariants.{Undefined, Variable}
use Rattle.tape_label.specs.{Positions.positions, Head1.IsHead1, Head2.IsHead2, Head2.Head2Fits}
use Rattle.tape_label.specs.{Trail1.IsTrail1, Reading.begins_as, Widths.IsWide}
use Rattle.tape_label.proofs.Texts.{vol1_text_is, head1_text_is, head2_text_is, trail1_text_is}
use Rattle.tape_label.proofs.Widths.{vol1_wide, head_wide, head2_wide}
use Rattle.tape_blocks.specs.Packing.{HasWritableRecords}
use Rattle.tape_set.specs.Layout.{nth, header_group, data_group, trailer_group, up_to_data}
use Rattle.tape_set.specs.{Layout.ends_file, Tight.second_of, Sizes.entries_size}
use Rattle.tape_set.specs.Lawful.{most_blocks}
use Rattle.tape_writer.specs.Labels.{IsReady, head_at, trailer_at, volume_label, first_label}
use Rattle.tape_writer.specs.Labels.{second_label, trailer_label, header_items, trailer_items}
use Rattle.tape_writer.specs.{declared.course.Opened.Opened, declared.course.Course.Course}
use Rattle.tape_writer.specs.{Labels.second_kind, Told.IsOfFile}
use Rattle.tape_writer.specs.Draft.{data_item, closing, here, body}
use Rattle.tape_image.specs.Tape.{IsTapeItem}
use Rattle.tape_set.proofs.Everywhere.{every-append}
use Rattle.tape_blocks.proofs.PackLaws.{standard_of}
use Rattle.tape_label.specs.declared.values.Kind.TheVariants as kinds

-- ---- labels

rec_fits : (format : Format) (rec_len block_len offset : ℕ) (pad_full : Bool) → block_len ≤ 99999
    → HasWritableRecords format rec_len block_len offset pad_full
    → (least_record format ≤ rec_len) × (rec_len ≤ 99999)
rec_fits Fixed rec_len block_len offset pad_full most h = (omega (arith, h.0), omega (arith, h.1))
rec_fits Counted rec_len block_len offset pad_full most h = (omega (arith), omega (arith, h.1))
rec_fits Spanned rec_len block_len offset pad_full most h = (omega (arith), omega (arith, h.0))
rec_fits Undefined rec_len block_len offset pad_full most h = absurd h
rec_fits Variable rec_len block_len offset pad_full most h = absurd h

pub second_fits : (shape : Shape) → IsWritable shape → Head2Fits (second_of shape)
second_fits shape w = record {
  standard = standard_of shape w;
  block_len = w.most;
  rec_len = rec_fits shape.format shape.rec_len shape.block_len shape.offset shape.pad_full
      w.most w.units;
  offset = w.front;
}

pub vol1_is : (v : Vol1) → IsWideVolume v → IsVol1 (volume_label v) v
unfolding volume_label
vol1_is v w = vol1_text_is v (vol1_wide v w)

wide_at : (file : Opened) (sect : ℕ) → IsWide file.head → IsWide (head_at file sect)
wide_at file sect w = record {
  file_id = w.file_id;
  set_id = w.set_id;
  generation = w.generation;
  gen_version = w.gen_version;
  created = w.created;
  expires = w.expires;
  implementation = w.implementation;
}

pub first_is : (file : Opened) (sect : ℕ) → IsReady file → (1 ≤ sect) × (sect ≤ 9999)
    → IsHead1 (first_label file sect) (head_at file sect)
unfolding first_label
first_is file sect r number =
    head1_text_is (head_at file sect) (record { sect = number; sequence = (r.first, r.most) })
    (head_wide kinds.Hdr1 (head_at file sect) 0 (wide_at file sect r.wide))

pub second_is : (file : Opened) (kind : Kind) → IsReady file → IsSecond kind
    → IsHead2 (second_label file kind) kind (second_of file.shape)
unfolding second_label
second_is file kind r s = head2_text_is kind (second_of file.shape) s
    (second_fits file.shape r.writable) (head2_wide kind (second_of file.shape))

few_digits : (n : ℕ) → n % 1000000 ≤ 999999
few_digits n = omega (arith)

pub trailer_is : (file : Opened) (sect count : ℕ) (eof : Bool) → IsReady file
    → (1 ≤ sect) × (sect ≤ 9999)
    → IsTrail1 (trailer_label file sect count eof) (trailer_at file sect count eof)
unfolding trailer_label
trailer_is file sect count eof r number =
    trail1_text_is (trailer_at file sect count eof) (record {
      head = record { sect = number; sequence = (r.first, r.most) };
      blocks = few_digits count;
    })
    (head_wide (trailer eof) (head_at file sect) (count % 1000000) (wide_at file sect r.wide))

begins_by : (label : List ℕ) (eof : Bool) → positions label 1 4 ≡ identifier (trailer eof)
    → begins_as label kinds.Eof1 ≡ eof
begins_by label true e = rw e refl
begins_by label false e = rw e refl

-- a trailer says whether its file ends
pub trailer_ends : (label : List ℕ) (t : Trail1) → IsTrail1 label t
    → begins_as label kinds.Eof1 ≡ t.eof
trailer_ends label t is = begins_by label t.eof is.kind.named

-- ---- items

-- the items of a section
pub section_items : (file : Opened) (course : Course) (bs : List Filled) (eof : Bool)
    → map item_of (section_entries (closing file course.volume course.sect bs eof))
    ≡ header_items file course.sect ++ map data_item bs
    ++ trailer_items file course.sect (length bs) eof
section_items file course bs eof =
    ap (λ v. header_items file course.sect ++ v) (map-append item_of (data_group bs)
    (trailer_group (closing file course.volume course.sect bs eof))
    ∙ ap (λ v. v ++ trailer_items file course.sect (length bs) eof) (data_items bs))

pub second_kind_is : (eof : Bool) → IsSecond (second_kind eof)
second_kind_is true = tt
second_kind_is false = tt

pub ends_by : (file : Opened) (course : Course) (bs : List Filled) (eof : Bool)
    → IsReady file → (1 ≤ course.sect) × (course.sect ≤ 9999)
    → ends_file (closing file course.volume course.sect bs eof) ≡ eof
ends_by file course bs eof r number =
    trailer_ends (trailer_label file course.sect (length bs) eof) (trailer_at file course.sect
    (length bs) eof) (trailer_is file course.sect (length bs) eof r number)

-- ---- sizes

label_size : (b : List ℕ) → length b ≡ 80 → item_size (block b) ≡ 88
label_size b e = ap (λ n. 8 + n + n % 2) e

pub header_size : (file : Opened) (sect : ℕ) → IsReady file → (1 ≤ sect) × (sect ≤ 9999)
    → items_size (header_items file sect) ≡ 180
header_size file sect r number =
    let a = label_size (first_label file sect) (first_is file sect r number).kind.size in
    let b = label_size (second_label file kinds.Hdr2) (second_is file kinds.Hdr2 r tt).kind.size in
    omega (arith, a, b)

pub trailer_size : (file : Opened) (sect n : ℕ) (eof : Bool) → IsReady file
    → (1 ≤ sect) × (sect ≤ 9999) → items_size (trailer_items file sect n eof) ≡ 184
trailer_size file sect n eof r number =
    let a = label_size (trailer_label file sect n eof)
    (trailer_is file sect n eof r number).kind.size in
    let b = label_size (second_label file (second_kind eof))
    (second_is file (second_kind eof) r (second_kind_is eof)).kind.size in
    omega (arith, a, b)

pub vol1_size : (v : Vol1) → IsWideVolume v → item_size (block (volume_label v)) ≡ 88
vol1_size v w = label_size (volume_label v) (vol1_is v w).kind.size

-- ---- a valid section

label_sized : (b : List ℕ) → length b ≡ 80 → (0 < length b) × (length b ≤ 99999)
label_sized b e = (omega (arith, e), omega (arith, e))

data_sized : (bs : List Filled)
    → AllByRecursion (λ b. (0 < length b.bytes) × (length b.bytes ≤ 99999)) bs
    → AllByRecursion IsTapeItem (map data_item bs)
data_sized [] h = tt
data_sized (b ∷ bs) h = (h.0, data_sized bs h.1)

items_sized : (file : Opened) (sect : ℕ) (bs : List Filled) (eof : Bool) → IsReady file
    → (1 ≤ sect) × (sect ≤ 9999)
    → AllByRecursion (λ b. (0 < length b.bytes) × (length b.bytes ≤ 99999)) bs
    → AllByRecursion IsTapeItem (header_items file sect ++ map data_item bs
    ++ trailer_items file sect (length bs) eof)
items_sized file sect bs eof r number h = (
  label_sized (first_label file sect) (first_is file sect r number).kind.size,
  (
    label_sized (second_label file kinds.Hdr2) (second_is file kinds.Hdr2 r tt).kind.size,
    (
      tt,
      every-append IsTapeItem (map data_item bs) (trailer_items file sect (length bs) eof)
          (data_sized bs h) (
            tt,
            (
              label_sized (trailer_label file sect (length bs) eof)
                  (trailer_is file sect (length bs) eof r number).kind.size,
              (
                label_sized (second_label file (second_kind eof))
                    (second_is file (second_kind eof) r (second_kind_is eof)).kind.size,
                (tt, tt),
              ),
            ),
          ),
    ),
  ),
)

pub section_is : (set_id : List ℕ) (volumes : ℕ) (file : Opened) (course : Course)
    (bs : List Filled) (eof : Bool) → IsReady file → file.head.set_id ≡ set_id
    → 0 < course.volume → course.volume ≤ volumes → length bs ≤ most_blocks
    → (1 ≤ course.sect) × (course.sect ≤ 9999)
    → AllByRecursion (λ b. (0 < length b.bytes) × (length b.bytes ≤ 99999)) bs
    → IsSection set_id volumes (here file course bs eof)
section_is set_id volumes file course bs eof r s p q few number sized = record {
  header = (
    head_at file course.sect,
    record { label = first_is file course.sect r number; set_id = s; file = refl; sect = refl },
  );
  trailer = (
    trailer_at file course.sect (length bs) eof,
    record {
      label = trailer_is file course.sect (length bs) eof r number;
      file = refl;
      sect = refl;
      count = refl;
    },
  );
  volume = (p, q);
  few = few;
  sized = subst (AllByRecursion IsTapeItem) (sym (section_items file course bs eof))
      (items_sized file course.sect bs eof r number sized);
}

pub of_file : (file : Opened) (course : Course) (bs : List Filled) (eof : Bool)
    → (1 ≤ course.sect) × (course.sect ≤ 9999) → IsOfFile file (here file course bs eof)
of_file file course bs eof number = record {
  number = number;
  hdr1 = refl;
  hdr2 = refl;
  headers = refl;
  eof = eof;
  trailer = refl;
  trailers = refl;
}

-- **the size that the writer counts is the one in the rule for the change of volumes**
pub used_is : (vs : List Volume) (xs : List Placed)
    (file : Opened) (course : Course) (bs : List Filled) (eof : Bool) (k : ℕ)
    → course.volume ≡ k + 1
    → items_size (map item_of (body vs xs k) ++ header_items file course.sect ++ map data_item bs)
    ≡ used_before vs xs (closing file course.volume course.sect bs eof)
used_is vs xs file course bs eof k e =
    let s : Section = closing file course.volume course.sect bs eof in
    let group : nth vs course.volume ≡ slice_get vs k = ap (nth vs) (e ∙ add-one k) in
    let before : up_to_data vs xs s ≡ body vs xs k ++ header_group s =
    ap (λ z. group_of z ++ all_entries (on course.volume xs) ++ header_group s) group
    ∙ ap (λ n. group_of (slice_get vs k) ++ all_entries (on n xs) ++ header_group s) e in
    sym (ap (λ z. entries_size (z ++ data_group bs)) before
    ∙ (ap items_size (map-append item_of (body vs xs k ++ header_group s) (data_group bs))
    ∙ (ap (λ z. items_size (z ++ map item_of (data_group bs)))
    (map-append item_of (body vs xs k) (header_group s))
    ∙ ap (λ z. items_size (map item_of (body vs xs k) ++ header_items file course.sect ++ z))
    (data_items bs))))
