-- The worked file: 25 records of 80 bytes in blocks of 800 bytes, on one volume and on two; and a
-- file without records.
use Rattle.std.proofs.Common.{◌≡◌, ◌≤◌, ℕ, zero, suc, ◌+◌, List, [], ◌∷◌, ◌++◌, length, true, false}
use Rattle.std.proofs.Common.{refl, codes, lit≤, lit<}
use Rattle.std.specs.{Prelude.map, Prelude.replicate, List.AllByRecursion}
use Rattle.tape_image.specs.Tape.{IsTapeItem, block, mark}
use Rattle.tape_label.specs.declared.values.Format.TheVariants.{Fixed}
use Rattle.tape_label.specs.{Digits.digits, Head2.Head2Fits}
use Rattle.tape_label.specs.declared.values.Kind.TheVariants as kinds
use Rattle.tape_blocks.specs.Packing.{HasRecordLength, IsWritable}
use Rattle.tape_blocks.specs.{declared.parts.Shape.Shape, declared.parts.Span.TheVariants.Whole}
use Rattle.tape_blocks.specs.{Block.Portion, Block.Holds, Block.IsUnit, Spans.InOrder, Tight.Filled}
use Rattle.tape_blocks.specs.Tight as packing
use Rattle.tape_blocks.proofs.PackLaws.{written_holds}
use Rattle.tape_set.specs.declared.position.Position.TheVariants.{Finished}
use Rattle.tape_set.specs.Layout.{FileSet, items, all_items, item_of, data_group}
use Rattle.tape_set.specs.{Position.awaiting, Sizes.items_size, Before.before, Lawful.IsLawful}
use Rattle.tape_set.specs.{Lawful.most_blocks, Tight.IsTight, Tight.IsTightFile, Tight.second_of}
use Rattle.tape_set.proofs.Worked.{makes, alike_file, vol1, hdr1, second, trailer, made}
use Rattle.tape_set.proofs.Worked.{filled, Fit, made_plain, plain_set, shape_of}

-- ---- records and blocks

abbrev pub shape : Shape
shape = shape_of Fixed 800 80 0 (λ _. lit≤ tt)

pub shape_fits : Head2Fits (second_of shape)
shape_fits = record {
  standard = refl;
  block_len = lit≤ tt;
  rec_len = (lit≤ tt, lit≤ tt);
  offset = lit≤ tt;
}

pub writable : IsWritable shape
writable =
    record { least = lit≤ tt; most = lit≤ tt; front = lit≤ tt; units = (lit≤ tt, lit≤ tt, refl) }

-- record number i: the number in four digits, and 76 spaces
abbrev pub record_of : ℕ → List ℕ
record_of i = digits 4 i ++ replicate 76 32

-- the given number of records, from number i
abbrev pub records : ℕ → ℕ → List (List ℕ)
records i zero = []
records i (suc n) = record_of i ∷ records (i + 1) n

abbrev pub whole : List ℕ → Portion
whole bytes = record { span = Whole; bytes = bytes }

abbrev pub wholes : ℕ → ℕ → List Portion
wholes i n = map whole (records i n)

pub size_of_record : (i : ℕ) → length (record_of i) ≡ 80
size_of_record i = search

pub units : (i n : ℕ) → AllByRecursion (IsUnit Fixed 80) (wholes i n)
units i zero = tt
units i (suc n) = ((refl, size_of_record i), units (i + 1) n)

pub lengths : (i n : ℕ) → AllByRecursion (λ r. HasRecordLength Fixed 80 (length r)) (records i n)
lengths i zero = tt
lengths i (suc n) = (size_of_record i, lengths (i + 1) n)

pub in_order : (i n : ℕ) → InOrder false (wholes i n) false
in_order i zero = refl
in_order i (suc n) = (refl, in_order (i + 1) n)

abbrev pub blocks : List Filled
blocks = filled shape (wholes 1 10) ∷ filled shape (wholes 11 10) ∷ filled shape (wholes 21 5) ∷ []

pub held : AllByRecursion (λ b. Holds Fixed 80 0 b.bytes b.parts) blocks
held = (
  written_holds shape (wholes 1 10) (units 1 10) refl,
  (
    written_holds shape (wholes 11 10) (units 11 10) refl,
    (written_holds shape (wholes 21 5) (units 21 5) refl, tt),
  ),
)

pub sized : AllByRecursion IsTapeItem (map item_of (data_group blocks))
sized = ((lit< tt, lit≤ tt), ((lit< tt, lit≤ tt), ((lit< tt, lit≤ tt), tt)))

pub fit_of : (sect n : ℕ) → 1 ≤ sect → sect ≤ 9999 → n ≤ most_blocks → Fit 1 sect n
fit_of sect n a b c = search (lit≤, tt)

-- ---- on one volume

abbrev pub one_volume : FileSet
one_volume = plain_set 1 ((made shape 1 1 1 true blocks ∷ []) ∷ [])

pub one_volume_lawful : IsLawful one_volume
one_volume_lawful =
    search (makes, alike_file shape, shape_fits, sized, held, in_order 1 25) depth 9

-- the labels of the volume, as written out in the standard's tables
vol1_text : vol1
    ≡ codes "VOL1ABC001                                                                     4"
vol1_text = refl

hdr1_text : hdr1 1 1
    ≡ codes "HDR1PAYROLL          ABC00100010001000100 00000 00000 000000                    "
hdr1_text = refl

hdr2_text : second kinds.Hdr2 shape
    ≡ codes "HDR2F0080000080                                   00                            "
hdr2_text = refl

eof1_text : trailer true 1 1 3
    ≡ codes "EOF1PAYROLL          ABC00100010001000100 00000 00000 000003                    "
eof1_text = refl

-- its twelve items
abbrev pub data_bytes : ℕ → ℕ → List ℕ
data_bytes i zero = []
data_bytes i (suc n) = record_of i ++ data_bytes (i + 1) n

one_volume_items : items one_volume 1 ≡
    block vol1 ∷ block (hdr1 1 1) ∷ block (second kinds.Hdr2 shape) ∷ mark
    ∷ block (data_bytes 1 10) ∷ block (data_bytes 11 10) ∷ block (data_bytes 21 5)
    ∷ mark ∷ block (trailer true 1 1 3) ∷ block (second kinds.Eof2 shape) ∷ mark ∷ mark ∷ []
one_volume_items = refl

-- the items take 2,480 bytes of an image, and the end-of-medium marker 4 more
one_volume_size : items_size (items one_volume 1) ≡ 2480
one_volume_size = refl

-- other volumes have no items
none_before : items one_volume 0 ≡ []
none_before = refl

none_behind : items one_volume 2 ≡ []
none_behind = refl

-- the first 20 records are before block 2
twenty_before : before one_volume 1 (awaiting 1 2) ≡ wholes 1 20
twenty_before = refl

all_before : before one_volume 1 Finished ≡ wholes 1 25
all_before = refl

none_of_file_0 : before one_volume 0 Finished ≡ []
none_of_file_0 = refl

pub packed : packing.IsTight shape (records 1 25) blocks
packed = record {
  joins = refl;
  order = in_order 1 25;
  each = (
    record {
      some = λ e. cc;
      text = refl;
      holds = held.0;
      within = lit≤ tt;
      segments = λ e. absurd (cc);
    },
    (
      record {
        some = λ e. cc;
        text = refl;
        holds = held.1.0;
        within = lit≤ tt;
        segments = λ e. absurd (cc);
      },
      (
        record {
          some = λ e. cc;
          text = refl;
          holds = held.1.1.0;
          within = lit≤ tt;
          segments = λ e. absurd (cc);
        },
        tt,
      ),
    ),
  );
  closed = (lit< tt, (lit< tt, tt));
}

pub one_volume_tight_file : IsTightFile 100000 shape (made shape 1 1 1 true blocks ∷ [])
one_volume_tight_file = search (lit≤, tt, writable, made_plain, shape_fits, lengths, packed)

pub one_volume_tight : IsTight one_volume 100000 (shape ∷ [])
one_volume_tight = search (lit≤, tt, one_volume_tight_file)

-- ---- on two volumes of 2,500 bytes: the end of the file does not fit after the third block, and
-- the second section is empty

abbrev pub two_volumes : FileSet
two_volumes = plain_set 2 ((made shape 1 1 1 false blocks ∷ made shape 2 1 2 true [] ∷ []) ∷ [])

pub two_volumes_lawful : IsLawful two_volumes
two_volumes_lawful =
    search (makes, alike_file shape, shape_fits, sized, held, in_order 1 25) depth 9

pub two_volumes_tight : IsTight two_volumes 2500 (shape ∷ [])
two_volumes_tight = search (lit≤, tt, writable, made_plain, shape_fits, lengths, packed)

-- the volumes take 2,484 and 460 bytes, including the end-of-medium marker
two_volumes_sizes : map items_size (all_items two_volumes) ≡ 2480 ∷ 456 ∷ []
two_volumes_sizes = refl

-- ---- a file without records: nine items

abbrev pub no_records : FileSet
no_records = plain_set 1 ((made shape 1 1 1 true [] ∷ []) ∷ [])

no_records_items : items no_records 1 ≡
    block vol1 ∷ block (hdr1 1 1) ∷ block (second kinds.Hdr2 shape) ∷ mark ∷ mark
    ∷ block (trailer true 1 1 0) ∷ block (second kinds.Eof2 shape) ∷ mark ∷ mark ∷ []
no_records_items = refl
