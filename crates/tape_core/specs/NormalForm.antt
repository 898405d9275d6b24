-- The normal form of a tape: the tape as the standard would have it. Each part of a tape has its
-- own function, which takes the items from that part on. From an item that should not be there the
-- rest of the tape is left as it is, unless its labels are in another code than ASCII or have
-- padding: these are still looked for.
pub mod Codes
pub mod Mended
pub mod Laws
pub mod Ahead
-- A definition about private code, proved to agree with the ones above.
pub mod Steps
-- The bytes of images in normal form, and what is left of one.
pub mod Bytes
pub mod Image
use Rattle.std.specs.Prelude.{ℕ, ◌+◌, nat_lt, ◌&&◌, ◌||◌, not, Bool, true, false, List, [], ◌∷◌}
use Rattle.std.specs.Prelude.{length, if◌then◌else◌, Option, Some, None, is_some, nat_le, ◌==◌}
use Rattle.std.specs.Prelude.{slice_index}
use Rattle.std.specs.{List.find}
use Rattle.tape_image.specs.Tape.{TapeItem, block, bad, mark}
use Rattle.tape_label.specs.{Kinds.kind_at, VolumeLabels.is_volume_label}
use Rattle.tape_label.specs.WideHead2.{is_further_header}
use Rattle.tape_core.specs.declared.normal.code.Code.{Code}
use Rattle.tape_core.specs.declared.normal.code.Code.TheVariants.{Ascii, Ebcdic, PaddedAscii}
use Rattle.tape_core.specs.declared.normal.code.Code.TheVariants.{PaddedEbcdic}
use Rattle.tape_core.specs.NormalForm.{Codes.in_ascii, Mended.is_vol1, Mended.is_hdr1}
use Rattle.tape_core.specs.NormalForm.{Mended.is_hdr2}
use Rattle.tape_core.specs.NormalForm.Mended.{is_first_trailer, is_dummy, mended}
use Rattle.tape_core.specs.NormalForm.Mended.{no_volume_label, no_file, headed, trailed}
use Rattle.tape_core.specs.NormalForm.Mended.{counted, uncounted, lost}
use Rattle.tape_core.specs.declared.normal.numbers.FileSeen.{FileSeen}

-- the greatest number of items that are dropped before VOL1, or between VOL1 and HDR1
abbrev pub most_dropped : ℕ
most_dropped = 64

-- a block that is too short to have been written on purpose
abbrev pub is_noise : List ℕ → Bool
is_noise bytes = nat_lt (length bytes) 14

-- a label with which a tape begins, in this code
abbrev pub begins_tape : Code → List ℕ → Bool
begins_tape code b = is_vol1 (kind_at (in_ascii code b)) || is_hdr1 (kind_at (in_ascii code b))

abbrev pub is_capital : ℕ → Bool
is_capital c = nat_le 65 c && nat_le c 90

abbrev pub is_digit : ℕ → Bool
is_digit c = nat_le 48 c && nat_le c 57

-- the code in which a block is such a label
abbrev pub code_of : List ℕ → Option Code
code_of b =
    find (λ code. begins_tape code b) (Ascii ∷ Ebcdic ∷ PaddedAscii ∷ PaddedEbcdic ∷ [])

-- the first label of the tape, if the block is one in a code, and the rest, which is `labels` after
-- VOL1, and `second` after HDR1; or else `later` after a block that is dropped
abbrev pub of_first : ℕ → List ℕ → List TapeItem → (Code → List TapeItem)
    → (Code → FileSeen → List TapeItem) → List TapeItem → Option Code → List TapeItem
of_first n b xs labels second later (Some code) =
    if is_vol1 (kind_at (in_ascii code b)) then block (in_ascii code b) ∷ labels code
    else block no_volume_label ∷ block (headed no_file (in_ascii code b)).0
    ∷ second code (headed no_file (in_ascii code b)).1
of_first n b xs labels second later None =
    if is_noise b && nat_lt n most_dropped then later else block b ∷ xs

-- what follows an item that is not expected: the rest as it is or, in another code, this part of a
-- tape
abbrev pub of_left : Code → FileSeen → List TapeItem → (FileSeen → List TapeItem) → List TapeItem
of_left Ascii seen xs part = xs
of_left code seen xs part = part (lost seen)

-- whether a label that is not expected begins a file
abbrev pub is_lost_header : Code → List ℕ → Bool
is_lost_header Ascii text = false
is_lost_header code text = is_hdr1 (kind_at text)

-- whether a block seems to be a label that is not known here: 80 characters, of which the first are
-- three capital letters and a digit
abbrev pub seems_label : List ℕ → Bool
seems_label text =
    (length text == 80) && (not (is_some (kind_at text)) && (is_capital (slice_index text 0)
    && (is_capital (slice_index text 1) && (is_capital (slice_index text 2)
    && is_digit (slice_index text 3)))))

-- whether header labels go on with this one
abbrev pub is_next_header : Code → List ℕ → Bool
is_next_header Ascii text = true
is_next_header code text = is_hdr2 (kind_at text) || (is_further_header text || seems_label text)

-- a block that is not the label expected there, and the rest, which is `second` if the block begins
-- a file; any other is taken for data in another code than ASCII
abbrev pub of_other : Code → FileSeen → List ℕ → List TapeItem → (FileSeen → List TapeItem)
    → (FileSeen → List TapeItem) → List TapeItem
of_other code seen b xs second data' =
    if is_lost_header code (in_ascii code b)
    then block (headed (lost seen) (in_ascii code b)).0
    ∷ second (headed (lost seen) (in_ascii code b)).1
    else block b ∷ of_left code seen xs data'

abbrev mutual
  -- VOL1, or HDR1 if there is none; marks and noise before it are dropped. All labels of the tape
  -- are in the code of the first.
  pub of_start : ℕ → List TapeItem → List TapeItem
  of_start n [] = []
  of_start n (block b ∷ xs) =
      of_first n b xs (λ code. of_labels code 0 xs) (λ code seen. of_second code seen xs)
      (of_start (n + 1) xs) (code_of b)
  of_start n (mark ∷ xs) = if nat_lt n most_dropped then of_start (n + 1) xs else mark ∷ xs
  of_start n (bad ∷ xs) = bad ∷ xs

  -- further volume labels, and the HDR1 of the first file; other blocks before it are dropped, and
  -- so is the dummy HDR1 of a volume without files
  pub of_labels : Code → ℕ → List TapeItem → List TapeItem
  of_labels code n [] = []
  of_labels code n (block b ∷ xs) =
      if is_volume_label (in_ascii code b) then block (in_ascii code b) ∷ of_labels code n xs
      else if is_hdr1 (kind_at (in_ascii code b)) && not (is_dummy (in_ascii code b))
      then block (headed no_file (in_ascii code b)).0 ∷ of_second code (headed no_file (in_ascii code b)).1 xs
      else if nat_lt n most_dropped then of_labels code (n + 1) xs
      else block b ∷ xs
  of_labels code n (mark ∷ xs) = mark ∷ of_blank code xs
  of_labels code n (bad ∷ xs) = bad ∷ of_left code no_file xs (λ s. of_headers code s xs)

  -- The second mark of a volume without files. If another item follows, the HDR1 of the first file
  -- was lost, or stands after the mark.
  pub of_blank : Code → List TapeItem → List TapeItem
  of_blank code [] = []
  of_blank code (block b ∷ xs) =
      of_other code no_file b xs (λ s. of_second code s xs) (λ s. of_data code s xs)
  of_blank code (mark ∷ xs) = mark ∷ of_ended xs
  of_blank code (bad ∷ xs) = bad ∷ of_left code no_file xs (λ s. of_trailer code s xs)

  -- HDR2; if another header label or the mark was read there, the file has none
  pub of_second : Code → FileSeen → List TapeItem → List TapeItem
  of_second code seen [] = []
  of_second code seen (block b ∷ xs) =
      if is_hdr2 (kind_at (in_ascii code b))
      then block (mended (in_ascii code b)) ∷ of_headers code seen xs
      else if is_further_header (in_ascii code b)
      then block (in_ascii code b) ∷ of_headers code seen xs
      else of_other code seen b xs (λ s. of_second code s xs) (λ s. of_data code s xs)
  of_second code seen (mark ∷ xs) = mark ∷ of_data code seen xs
  of_second code seen (bad ∷ xs) = bad ∷ of_left code seen xs (λ s. of_headers code s xs)

  -- further header labels, up to a mark
  pub of_headers : Code → FileSeen → List TapeItem → List TapeItem
  of_headers code seen [] = []
  of_headers code seen (block b ∷ xs) =
      if is_next_header code (in_ascii code b)
      then block (in_ascii code b) ∷ of_headers code seen xs
      else of_other code seen b xs (λ s. of_second code s xs) (λ s. of_data code s xs)
  of_headers code seen (mark ∷ xs) = mark ∷ of_data code seen xs
  of_headers code seen (bad ∷ xs) = bad ∷ of_left code seen xs (λ s. of_headers code s xs)

  -- data, up to a mark: never changed
  pub of_data : Code → FileSeen → List TapeItem → List TapeItem
  of_data code seen [] = []
  of_data code seen (block b ∷ xs) = block b ∷ of_data code (counted seen) xs
  of_data code seen (mark ∷ xs) = mark ∷ of_trailer code seen xs
  of_data code seen (bad ∷ xs) = bad ∷ of_data code (uncounted seen) xs

  -- EOF1 or EOV1
  pub of_trailer : Code → FileSeen → List TapeItem → List TapeItem
  of_trailer code seen [] = []
  of_trailer code seen (block b ∷ xs) =
      if is_first_trailer (kind_at (in_ascii code b))
      then block (trailed seen (in_ascii code b)).0
      ∷ of_trailers code (trailed seen (in_ascii code b)).1 xs
      else of_other code seen b xs (λ s. of_second code s xs) (λ s. of_data code s xs)
  of_trailer code seen (mark ∷ xs) = mark ∷ of_left code seen xs (λ s. of_trailer code s xs)
  of_trailer code seen (bad ∷ xs) = bad ∷ of_left code seen xs (λ s. of_trailer code s xs)

  -- further trailer labels, up to a mark
  pub of_trailers : Code → FileSeen → List TapeItem → List TapeItem
  of_trailers code seen [] = []
  of_trailers code seen (block b ∷ xs) =
      if is_lost_header code (in_ascii code b)
      then block (headed (lost seen) (in_ascii code b)).0
      ∷ of_second code (headed (lost seen) (in_ascii code b)).1 xs
      else block (in_ascii code b) ∷ of_trailers code seen xs
  of_trailers code seen (mark ∷ xs) = mark ∷ of_next code seen xs
  of_trailers code seen (bad ∷ xs) = bad ∷ of_left code seen xs (λ s. of_trailers code s xs)

  -- the HDR1 of the next file, or the second mark
  pub of_next : Code → FileSeen → List TapeItem → List TapeItem
  of_next code seen [] = []
  of_next code seen (block b ∷ xs) =
      if is_hdr1 (kind_at (in_ascii code b))
      then block (headed seen (in_ascii code b)).0
      ∷ of_second code (headed seen (in_ascii code b)).1 xs
      else of_other code seen b xs (λ s. of_second code s xs) (λ s. of_data code s xs)
  of_next code seen (mark ∷ xs) = mark ∷ of_ended xs
  of_next code seen (bad ∷ xs) = bad ∷ of_left code seen xs (λ s. of_headers code s xs)

  -- what follows the end of the volume is dropped, up to a label with which a tape begins
  pub of_ended : List TapeItem → List TapeItem
  of_ended [] = []
  of_ended (block b ∷ xs) =
      if is_some (code_of b) then block b ∷ xs else of_ended xs
  of_ended (mark ∷ xs) = of_ended xs
  of_ended (bad ∷ xs) = of_ended xs

-- the normal form of a tape
abbrev pub normal : List TapeItem → List TapeItem
normal items = of_start 0 items
