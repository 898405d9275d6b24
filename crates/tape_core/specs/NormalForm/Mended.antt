-- Labels that are inserted, dropped or changed.
use Rattle.std.specs.Prelude.{ℕ, ◌+◌, ◌-◌, ◌==◌, nat_lt, take, drop, ◌||◌, ◌&&◌, not, Bool}
use Rattle.std.specs.Prelude.{true, false, List, [], ◌∷◌}
use Rattle.std.specs.Prelude.{◌++◌, replicate, codes, Option, Some, None, Result, Ok, Err}
use Rattle.std.specs.Prelude.{if◌then◌else◌}
use Rattle.std.specs.Str.{bytes_eq}
use Rattle.tape_label.specs.declared.values.{Kind.Kind}
use Rattle.tape_label.specs.declared.values.Kind.TheVariants as kinds
use Rattle.tape_label.specs.declared.label.LabelFault.{LabelFault}
use Rattle.tape_label.specs.{Positions.positions, Reading.head1_at, Reading.head2_at}
use Rattle.tape_label.specs.{Reading.wide_head2_at, Reading.trail1_at, Digits.digits}
use Rattle.tape_label.specs.declared.{values.Head1.Head1, values.Trail1.Trail1}
use Rattle.tape_set.specs.Lawful.{label_count}
use Rattle.tape_core.specs.declared.normal.numbers.FileSeen.{FileSeen}

-- ---- kinds

abbrev pub is_vol1 : Option Kind → Bool
is_vol1 (Some kinds.Vol1) = true
is_vol1 _ = false

abbrev pub is_hdr1 : Option Kind → Bool
is_hdr1 (Some kinds.Hdr1) = true
is_hdr1 _ = false

abbrev pub is_hdr2 : Option Kind → Bool
is_hdr2 (Some kinds.Hdr2) = true
is_hdr2 _ = false

-- EOF1 or EOV1
abbrev pub is_first_trailer : Option Kind → Bool
is_first_trailer (Some kinds.Eof1) = true
is_first_trailer (Some kinds.Eov1) = true
is_first_trailer _ = false

-- the label could be read
abbrev pub is_ok : {A : Type 0} → Result A LabelFault → Bool
is_ok (Ok x) = true
is_ok (Err fault) = false

-- ---- labels that are inserted

-- the volume label of a tape that has none: the identifier is blank
abbrev pub no_volume_label : List ℕ
no_volume_label = codes "VOL1" ++ replicate 75 32 ++ codes "4"

-- ---- labels that are dropped

-- an HDR1 of zeros alone, as volumes without files have it; it cannot be read as a header label
abbrev pub is_dummy : List ℕ → Bool
is_dummy label =
    not (is_ok (head1_at label)) && bytes_eq label (codes "HDR1" ++ replicate 76 48)

-- ---- second labels that are changed

-- zeros in place of the blanks and NULs that the characters begin with
abbrev pub filled_number : List ℕ → List ℕ
filled_number [] = []
filled_number (c ∷ cs) = if (c == 0) || (c == 32) then 48 ∷ filled_number cs else c ∷ cs

-- the label with the number at these positions filled
abbrev pub fill_at : ℕ → ℕ → List ℕ → List ℕ
fill_at first last label =
    take (first - 1) label ++ (filled_number (positions label first last) ++ drop last label)

-- the second label with its numbers filled
abbrev pub filled : List ℕ → List ℕ
filled label = fill_at 51 52 (fill_at 11 15 (fill_at 6 10 label))

-- a label that can be read is kept; one that can be read with its numbers filled is filled: by the
-- strict reading, or else by the wider one
abbrev pub mended : List ℕ → List ℕ
mended label =
    if is_ok (head2_at label) then label
    else if is_ok (head2_at (filled label)) then filled label
    else if is_ok (wide_head2_at label) then label
    else if is_ok (wide_head2_at (filled label)) then filled label
    else label

-- ---- first header and trailer labels that are changed

-- the digits of a number of four digits, or those of n if it is blank, NUL or zero
abbrev pub number_or : ℕ → List ℕ → List ℕ
number_or n field =
    if bytes_eq (filled_number field) (codes "0000") then digits 4 n else filled_number field

-- the label with the number at these positions, or n
abbrev pub number_at_or : ℕ → ℕ → ℕ → List ℕ → List ℕ
number_at_or first last n label =
    take (first - 1) label ++ (number_or n (positions label first last) ++ drop last label)

-- the label of section 1, and of this file, if it has no numbers
abbrev pub numbered : ℕ → List ℕ → List ℕ
numbered sequence label = number_at_or 32 35 sequence (number_at_or 28 31 1 label)

-- what is seen before the first file
abbrev pub no_file : FileSeen
no_file = record {
  sequence = 0;
  is_filled = false;
  blocks = None;
  has_no_count = false;
  counts = false;
}

-- what is seen of a file before its data, and of the tape before it
abbrev pub seen_of : FileSeen → ℕ → Bool → FileSeen
seen_of before sequence is_filled = record {
  sequence = sequence;
  is_filled = is_filled;
  blocks = Some 0;
  has_no_count = false;
  counts = before.counts;
}

-- a file of which the header label was read
abbrev pub seen_as : FileSeen → Bool → Head1 → FileSeen
seen_as before is_filled head = seen_of before head.sequence is_filled

-- a header label that can be read is kept; one that can be read with its numbers filled in is
-- changed, unless it is that of a volume without files
abbrev pub headed_by : FileSeen → List ℕ → Result Head1 LabelFault → Result Head1 LabelFault
    → List ℕ × FileSeen
headed_by before label (Ok head) better = (label, seen_as before false head)
headed_by before label (Err fault) (Ok head) =
    if nat_lt before.sequence 9999 && not (is_dummy label)
    then (numbered (before.sequence + 1) label, seen_as before true head)
    else (label, seen_of before before.sequence false)
headed_by before label (Err fault) (Err fault') = (label, seen_of before before.sequence false)

-- A header label after the file before it on the tape. One without numbers is that of section 1 of
-- the next file.
unfoldable pub headed : FileSeen → List ℕ → List ℕ × FileSeen
headed before label =
    headed_by before label (head1_at label) (head1_at (numbered (before.sequence + 1) label))

-- ---- what is seen of a file

-- one block more: no image has so many that they cannot be counted
abbrev pub one_more : Option ℕ → Option ℕ
one_more None = None
one_more (Some n) = if nat_lt n 4294967295 then Some (n + 1) else None

-- a block of data was read
abbrev pub counted : FileSeen → FileSeen
counted seen = record {
  sequence = seen.sequence;
  is_filled = seen.is_filled;
  blocks = one_more seen.blocks;
  has_no_count = seen.has_no_count;
  counts = seen.counts;
}

-- an item among the data could not be read: it may have been a tape mark
abbrev pub uncounted : FileSeen → FileSeen
uncounted seen = record {
  sequence = seen.sequence;
  is_filled = seen.is_filled;
  blocks = None;
  has_no_count = seen.has_no_count;
  counts = seen.counts;
}

-- After an item that is not expected it is not known which file comes next, nor how many blocks it
-- has, so nothing is filled in.
abbrev pub lost : FileSeen → FileSeen
lost seen = record {
  sequence = 9999;
  is_filled = false;
  blocks = None;
  has_no_count = false;
  counts = seen.counts;
}

-- the blocks were counted instead of the trailer label
abbrev pub without_count : Bool → FileSeen → FileSeen
without_count is seen = record {
  sequence = seen.sequence;
  is_filled = seen.is_filled;
  blocks = seen.blocks;
  has_no_count = is;
  counts = seen.counts;
}

-- a trailer label with this block count was read
abbrev pub told : ℕ → FileSeen → FileSeen
told blocks seen = record {
  sequence = seen.sequence;
  is_filled = seen.is_filled;
  blocks = seen.blocks;
  has_no_count = seen.has_no_count;
  counts = seen.counts || not (blocks == 0);
}

-- ---- first trailer labels that are changed

-- a block count, or n if it is blank, NUL or zero
abbrev pub count_or : ℕ → List ℕ → List ℕ
count_or n field =
    if bytes_eq (filled_number field) (codes "000000") then digits 6 n else filled_number field

-- the label with the block count at these positions, or n
abbrev pub count_at_or : ℕ → ℕ → ℕ → List ℕ → List ℕ
count_at_or first last n label =
    take (first - 1) label ++ (count_or n (positions label first last) ++ drop last label)

-- the label with the count of the blocks that were read, if it has none
abbrev pub with_count : Option ℕ → List ℕ → List ℕ
with_count None label = label
with_count (Some n) label = count_at_or 55 60 (label_count n) label

-- the label with the numbers of the header label, if those were filled in
abbrev pub with_numbers : FileSeen → List ℕ → List ℕ
with_numbers seen label =
    if seen.is_filled && nat_lt seen.sequence 10000 then numbered seen.sequence label else label

-- whether the block count of a label was replaced
abbrev pub is_recounted : List ℕ → List ℕ → Bool
is_recounted better label = not (bytes_eq (positions better 55 60) (positions label 55 60))

abbrev pub completed : FileSeen → List ℕ → List ℕ
completed seen label = with_count seen.blocks (with_numbers seen label)

-- whether the number of blocks read is known, and a label would not state it as 0
abbrev pub is_some_count : Option ℕ → Bool
is_some_count None = false
is_some_count (Some n) = not (label_count n == 0)

-- whether a label states that there are no blocks, though some were read, on a tape of which no
-- label before it counts blocks
abbrev pub is_uncounted : FileSeen → ℕ → Bool
is_uncounted seen blocks = not seen.counts && ((blocks == 0) && is_some_count seen.blocks)

-- a label that can be read, with this block count
abbrev pub recounted : FileSeen → ℕ → List ℕ → List ℕ × FileSeen
recounted seen blocks label =
    if is_uncounted seen blocks then (with_count seen.blocks label, without_count true seen)
    else (label, told blocks seen)

abbrev pub trailed_by : FileSeen → List ℕ → Result Trail1 LabelFault → Result Trail1 LabelFault
    → List ℕ × FileSeen
trailed_by seen label (Ok t) better = recounted seen t.blocks label
trailed_by seen label (Err fault) (Ok t) =
    (completed seen label, without_count (is_recounted (completed seen label) label) seen)
trailed_by seen label (Err fault) (Err fault') = (label, seen)

-- A trailer label that can be read is kept, unless it counts no blocks on a tape that counts none.
-- Such a label gets the number of the blocks read; one that can be read only with that number, or
-- with the numbers of its header label, if those were filled in, gets them. The blocks are not
-- counted after an item that cannot be read.
unfoldable pub trailed : FileSeen → List ℕ → List ℕ × FileSeen
trailed seen label = trailed_by seen label (trail1_at label) (trail1_at (completed seen label))
