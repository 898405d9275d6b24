-- Where the items of a damaged SIMH image begin again, counted from its wrong word or from the
-- block that the word begins or ends.
use Rattle.std.specs.Prelude.{◌≤◌, ℕ, zero, suc, ◌-◌, ◌==◌, ◌&&◌, ◌||◌, nat_le, nat_lt, min}
use Rattle.std.specs.Prelude.{if◌then◌else◌, List, length, take, drop, Option, Some}
use Rattle.std.specs.Prelude.{None, Bool, true, false, is_some}
use Rattle.byteorder.specs.Endian.{little_number}
use Rattle.tape_image.specs.Word.{mark_word, gap_word, end_word, block_len, block_extent}
use Rattle.tape_image.specs.Word.{longest_block}

-- the word with which these n bytes end is that with which they begin
abbrev pub same_words : ℕ → List ℕ → Bool
same_words n xs = little_number 4 (drop (n - 4) xs) == little_number 4 xs

-- the number of bytes of the block that the bytes begin with, if it has up to 99,999 bytes and two
-- equal words
abbrev pub whole_of : Option ℕ → List ℕ → Option ℕ
whole_of None xs = None
whole_of (Some n) xs =
    if nat_lt longest_block n || nat_lt (length xs) (block_extent n) then None
    else if same_words (block_extent n) xs then Some (block_extent n) else None

abbrev pub whole_block : List ℕ → Option ℕ
whole_block xs = if nat_lt (length xs) 4 then None else whole_of (block_len (little_number 4 xs)) xs

-- what may follow a block: another one, a tape mark, an erase gap, or the end of the medium
abbrev pub continues : List ℕ → Bool
continues xs =
    if nat_lt (length xs) 4 then length xs == 0
    else if (little_number 4 xs == mark_word) || ((little_number 4 xs == gap_word)
    || (little_number 4 xs == end_word)) then true else is_some (whole_block xs)

-- a whole block, and after it what may follow a block
abbrev pub continues_after : Option ℕ → List ℕ → Bool
continues_after None xs = false
continues_after (Some n) xs = continues (drop n xs)

abbrev pub begins_again : List ℕ → Bool
begins_again xs = continues_after (whole_block xs) xs

-- here, or after a tape mark
abbrev pub again_behind : List ℕ → Bool
again_behind xs =
    if nat_le 4 (length xs) && (little_number 4 xs == mark_word) then begins_again (drop 4 xs)
    else begins_again xs

-- the first of n places from `at` on
abbrev pub place_from : ℕ → ℕ → List ℕ → Option ℕ
place_from at zero xs = None
place_from at (suc n) xs =
    if begins_again (drop at xs) then Some at else place_from (suc at) n xs

-- among the first 262,144 bytes, but for the first of them
abbrev pub found : List ℕ → Option ℕ
found xs = place_from 1 (min (length xs) 262144 - 1) xs

-- directly after a block of `size` bytes with different words, or the first place that is found
abbrev pub behind_block : ℕ → List ℕ → Option ℕ
behind_block size xs =
    if nat_lt (length xs) size then None
    else if same_words size xs then None
    else if again_behind (drop size xs) then Some size else found xs

-- after the word w, with which a block of so many bytes begins
abbrev pub behind_word : Option ℕ → ℕ → List ℕ → Option ℕ
behind_word None w xs =
    if (w == mark_word) || ((w == gap_word) || (w == end_word)) then None else found xs
behind_word (Some n) w xs = behind_block (block_extent n) xs

abbrev pub place_again : List ℕ → Option ℕ
place_again xs =
    if nat_lt (length xs) 4 then None
    else behind_word (block_len (little_number 4 xs)) (little_number 4 xs) xs

-- The bytes that are looked at: the longest block that a word may announce, those behind it among
-- which its end is sought, and more.
abbrev pub window : ℕ
window = 17301504

-- The number of bytes before the place at which items begin again; `None` if no word is wrong here,
-- or no such place is near.
abbrev pub items_again : List ℕ → Option ℕ
items_again xs = place_again (take window xs)
