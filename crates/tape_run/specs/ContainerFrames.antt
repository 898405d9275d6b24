-- The items that bytes begin with, in the formats that are close to SIMH's.
use Rattle.std.specs.Prelude.{ℕ, ◌+◌, ◌/◌, ◌%◌, ◌^◌, ◌==◌, ◌&&◌, ◌||◌, Bool, false, not}
use Rattle.std.specs.Prelude.{if◌then◌else◌, List, [], ◌∷◌, length, drop, nat_le, nat_lt}
use Rattle.std.specs.Prelude.{Option, Some, None, is_some}
use Rattle.byteorder.specs.Endian.{little_number}
use Rattle.tape_image.specs.Word.{mark_word, gap_word, end_word, block_len, block_extent}

-- the word w is at offset `place`
abbrev pub is_word_at : ℕ → ℕ → List ℕ → Bool
is_word_at place w xs =
    nat_le 4 (length (drop place xs)) && (little_number 4 (drop place xs) == w)

-- ---- SIMH

-- a block of n bytes is whole if its word is behind it too
abbrev pub whole_block : ℕ → Option ℕ → List ℕ → Option ℕ
whole_block w None xs = None
whole_block w (Some n) xs =
    if is_word_at (4 + n + n % 2) w xs then Some (block_extent n) else None

abbrev pub whole_by : ℕ → List ℕ → Option ℕ
whole_by w xs =
    if (w == mark_word) || (w == gap_word) then Some 4 else whole_block w (block_len w) xs

-- the length of the item that the bytes begin with, if it is a mark, a gap, or a whole block
abbrev pub whole_len : List ℕ → Option ℕ
whole_len xs = if nat_lt (length xs) 4 then None else whole_by (little_number 4 xs) xs

-- the bytes begin with a whole block
abbrev pub begins_block : List ℕ → Bool
begins_block xs =
    if nat_lt (length xs) 4 then false
    else is_some (whole_block (little_number 4 xs) (block_len (little_number 4 xs)) xs)

-- ---- E11

abbrev pub e11_by : ℕ → Option ℕ → List ℕ → Bool
e11_by w None xs = false
e11_by w (Some n) xs = (n % 2 == 1) && is_word_at (4 + n) w xs

-- the bytes begin with a block of odd length, directly followed by its word
abbrev pub is_e11 : List ℕ → Bool
is_e11 xs =
    if nat_lt (length xs) 4 then false
    else e11_by (little_number 4 xs) (block_len (little_number 4 xs)) xs

-- ---- SIMH's extended format: the class of an item is the first four bits of its word

-- a marker, or the word of a bad block of which nothing is known
abbrev pub is_marker : ℕ → Bool
is_marker w = not (w == end_word)
    && ((w / 2 ^ 28 == 7) || ((w / 2 ^ 28 == 15) || (w == 0x80000000)))

-- a record of a class that the standard format does not have, or of such a bad block
abbrev pub is_record : ℕ → Bool
is_record w = nat_lt 0 (w / 2 ^ 28) && (nat_lt (w / 2 ^ 28) 15 && not (w / 2 ^ 28 == 7))

-- where the second word of a record is
abbrev pub record_end : ℕ → ℕ
record_end n = 4 + n + n % 2

-- the bytes begin with a whole block, or with a tape mark and a whole block
abbrev pub goes_on : List ℕ → Bool
goes_on xs = begins_block xs || (is_word_at 0 mark_word xs && begins_block (drop 4 xs))

abbrev pub extended_by : ℕ → List ℕ → Bool
extended_by w xs = (is_record w && is_word_at (record_end (w % 2 ^ 28)) w xs)
    || (is_marker w && goes_on (drop 4 xs))

-- the bytes begin with such a record between two equal words, or with a marker before such items
abbrev pub is_extended : List ℕ → Bool
is_extended xs =
    if nat_lt (length xs) 4 then false else extended_by (little_number 4 xs) xs

-- ---- SIMH, copied as text

abbrev pub begins_lf : List ℕ → Bool
begins_lf [] = false
begins_lf (x ∷ xs) = x == 10

-- the bytes without each CR that an LF follows
abbrev pub in_lf : List ℕ → List ℕ
in_lf [] = []
in_lf (x ∷ xs) = if (x == 13) && begins_lf xs then in_lf xs else x ∷ in_lf xs

-- the bytes begin with a block that is whole without these
abbrev pub begins_text : List ℕ → Bool
begins_text xs = begins_block (in_lf xs)
