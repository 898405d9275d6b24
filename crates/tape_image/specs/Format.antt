-- The SIMH image of an image of another format. An image is a list of items in each format, and what
-- its first eight bytes, or fewer if there are no more, say of the first item decides which bytes of
-- the SIMH image stand for it.
use Rattle.std.specs.Prelude.{ℕ, zero, suc, ◌+◌, ◌-◌, ◌/◌}
use Rattle.std.specs.Prelude.{◌%◌, ◌^◌, ◌==◌, ◌&&◌, ◌||◌, nat_eq, nat_le}
use Rattle.std.specs.Prelude.{nat_lt, if◌then◌else◌, List, [], ◌∷◌, ◌++◌, length, take, drop}
use Rattle.std.specs.Prelude.{Option, Some, None, not, Bool, true, false}
use Rattle.std.specs.List.{starts_with}
use Rattle.byteorder.specs.Endian.{little_number, little_bytes}
use Rattle.tape_image.specs.Word.{mark_word, gap_word, end_word, block_len}
use Rattle.tape_image.specs.{Tape.bad, Written.written}
use Rattle.tape_image.specs.Word.{longest_block}
use Rattle.tape_image.specs.declared.format.ImageFormat.{ImageFormat}
use Rattle.tape_image.specs.declared.format.ImageFormat.TheVariants as formats
use Rattle.tape_image.specs.declared.format.step.Piece.{Piece}
use Rattle.tape_image.specs.declared.format.step.Piece.TheVariants as pieces
use Rattle.tape_image.specs.declared.format.step.Passed.{Passed}
use Rattle.tape_image.specs.declared.format.step.Step.{Step}
use Rattle.tape_image.specs.declared.format.step.Step.TheVariants.{Stop, Give, Leave, Keep}
use Rattle.tape_image.specs.declared.format.step.Chunk.{Chunk}

-- ---- the bytes that stand for an item

abbrev pub piece_bytes : Piece → List ℕ
piece_bytes pieces.Nothing = []
piece_bytes pieces.Zero = 0 ∷ []
piece_bytes (pieces.Word w) = little_bytes 4 w
piece_bytes (pieces.ZeroWord w) = 0 ∷ little_bytes 4 w
piece_bytes pieces.Bad = written bad

-- the word after a block of n bytes, which a pad byte precedes if n is odd
abbrev pub word_behind : ℕ → Piece
word_behind n = if n % 2 == 1 then pieces.ZeroWord n else pieces.Word n

-- n bytes as they are, a piece, and m bytes as they are; and then the rest
abbrev pub passed : Passed → List ℕ → (List ℕ → List ℕ) → List ℕ
passed p xs rest =
    take p.count xs ++ (piece_bytes p.tail
    ++ (take p.last (drop p.count xs) ++ rest (drop p.last (drop p.count xs))))

-- n bytes, and the word w after them, are left out; if another word is there, or none, the image
-- ends with w, which begins no item
abbrev pub left_out : ℕ → ℕ → List ℕ → (List ℕ → List ℕ) → List ℕ
left_out n w xs rest =
    if nat_le 4 (length (drop n xs)) && (little_number 4 (drop n xs) == w)
    then rest (drop 4 (drop n xs))
    else little_bytes 4 w

-- the AWS chunk before: its length, and the bytes that are kept of its block if it continues
pub record Before : Type 0 where
  pub chunk : ℕ
  pub kept : List ℕ

-- after a chunk of n bytes with which its block ends, or after none if n is 0
abbrev pub after : ℕ → Before
after n = record { chunk = n; kept = [] }

-- of a block's bytes as many are kept as the longest block has, and one more
abbrev pub with_more : List ℕ → List ℕ → List ℕ
with_more kept bytes = kept ++ take (100000 - length kept) bytes

-- what stands for a block of which these bytes are kept
abbrev pub kept_block : List ℕ → List ℕ
kept_block kept =
    if nat_lt longest_block (length kept) then written bad
    else little_bytes 4 (length kept) ++ (kept ++ piece_bytes (word_behind (length kept)))

-- n bytes, with which a chunk of m bytes ends, are kept; with the last chunk the block is given
abbrev pub kept_in : ℕ → Chunk → List ℕ → List ℕ → (Before → List ℕ → List ℕ) → List ℕ
kept_in n c kept xs rest =
    if nat_lt (length xs) n then 0 ∷ []
    else if c.last then kept_block (with_more kept (take n xs)) ++ rest (after c.count) (drop n xs)
    else rest (record { chunk = c.count; kept = with_more kept (take n xs) }) (drop n xs)

-- what stands for the first item, and the rest
abbrev pub by_step : Step → List ℕ → List ℕ → (Before → List ℕ → List ℕ) → List ℕ
by_step (Stop piece) kept xs rest = piece_bytes piece
by_step (Give g) kept xs rest =
    piece_bytes g.front ++ passed g.passed (drop g.taken xs) (rest (after g.before))
by_step (Leave n w) kept xs rest = left_out n w (drop 4 xs) (rest (after 0))
by_step (Keep c) kept xs rest = kept_in c.count c kept (drop 6 xs) rest

-- ---- items

-- the end of the bytes, or too few of them for an item: the image is cut off
abbrev pub short : List ℕ → Step
short front = if length front == 0 then Stop pieces.Nothing else Stop pieces.Zero

-- an item of n bytes for which a piece is given
abbrev pub instead : Piece → ℕ → Step
instead piece n = Give (record {
  front = piece;
  taken = n;
  passed = record { count = 0; tail = pieces.Nothing; last = 0 };
  before = 0;
})

-- a tape mark and an erase gap are the same in all SIMH formats; another word that begins no block
-- is the end of the image, or no item
abbrev pub word_alone : ℕ → Step
word_alone w =
    if (w == mark_word) || (w == gap_word) then instead (pieces.Word w) 4
    else Stop (pieces.Word w)

-- E11: a block of n bytes is its word, the bytes, and the word, which in the SIMH image a pad byte
-- precedes if n is odd
abbrev pub e11_block : ℕ → Option ℕ → Step
e11_block w None = word_alone w
e11_block w (Some n) = Give (record {
  front = pieces.Word w;
  taken = 4;
  passed = record {
    count = n;
    tail = if n % 2 == 1 then pieces.Zero else pieces.Nothing;
    last = 4;
  };
  before = 0;
})

abbrev pub e11_step : List ℕ → Step
e11_step front =
    if nat_lt (length front) 4 then short front
    else e11_block (little_number 4 front) (block_len (little_number 4 front))

-- SIMH's extended format: the first four bits of a word are its class. A bad record of length 0 has
-- one word or two. Half an erase gap takes two bytes if the other half follows, else four. A
-- marker of class 7 or 15 is left out, and so is a record of a class that the standard format does
-- not have. Records of the classes 0 and 8 of more than 24 bits are no items.
abbrev pub class_step : ℕ → List ℕ → Step
class_step w next =
    if w == 0x80000000
    then instead pieces.Bad
    (if nat_le 4 (length next) && (little_number 4 next == w) then 8 else 4)
    else if w == 0xFFFEFFFF
    then instead pieces.Nothing (if starts_with nat_eq next (255 ∷ 255 ∷ []) then 2 else 4)
    else if (w == gap_word) || (w == end_word) then word_alone w
    else if (w / 2 ^ 28 == 0) || (w / 2 ^ 28 == 8) then word_alone w
    else if (w / 2 ^ 28 == 7) || (w / 2 ^ 28 == 15) then instead pieces.Nothing 4
    else Leave (w % 2 ^ 28 + w % 2 ^ 28 % 2) w

-- a block is that of the standard format
abbrev pub extended_block : ℕ → Option ℕ → List ℕ → Step
extended_block w None next = class_step w next
extended_block w (Some n) next = Give (record {
  front = pieces.Word w;
  taken = 4;
  passed = record { count = n + n % 2 + 4; tail = pieces.Nothing; last = 0 };
  before = 0;
})

abbrev pub extended_step : List ℕ → Step
extended_step front =
    if nat_lt (length front) 4 then short front
    else extended_block (little_number 4 front) (block_len (little_number 4 front)) (drop 4 front)

-- AWS: a block of n bytes is between two words in the SIMH image, the second of which a pad byte
-- precedes if n is odd
abbrev pub aws_block : ℕ → Step
aws_block n = Give (record {
  front = pieces.Word n;
  taken = 6;
  passed = record {
    count = n;
    tail = word_behind n;
    last = 0;
  };
  before = n;
})

-- The header of six bytes has the length of the chunk, that of the chunk before, and flags: 0x40
-- for a tape mark, 0x80 for the first chunk of a block, and 0x20 for its last. A header of zeros
-- fills the end of the image. What is no header, or does not continue a block that has begun,
-- ends the image with a word that begins no item.
abbrev pub keep : ℕ → Bool → Step
keep n last = Keep (record { count = n; last = last })

abbrev pub first_header : ℕ → ℕ → Step
first_header n flags =
    if (flags == 0x40) && (n == 0) then instead (pieces.Word mark_word) 6
    else if (flags == 0xA0) && nat_lt 0 n then aws_block n
    else if (flags == 0x80) && nat_lt 0 n then keep n false
    else Stop (pieces.Word 0x7FFFFFFF)

abbrev pub next_header : ℕ → ℕ → Step
next_header n flags =
    if (flags == 0) && nat_lt 0 n then keep n false
    else if (flags == 0x20) && nat_lt 0 n then keep n true
    else Stop (pieces.Word 0x7FFFFFFF)

abbrev pub aws_header : ℕ → Bool → ℕ → ℕ → ℕ → Step
aws_header before begun n previous flags =
    if not begun && ((n == 0) && ((previous == 0) && (flags == 0))) then Stop pieces.Nothing
    else if not (previous == before) then Stop (pieces.Word 0x7FFFFFFF)
    else if begun then next_header n flags else first_header n flags

abbrev pub aws_step : ℕ → Bool → List ℕ → Step
aws_step before begun front =
    if nat_lt (length front) 6 then (if begun then Stop pieces.Zero else short front)
    else aws_header before begun (little_number 2 front) (little_number 2 (drop 2 front))
    (little_number 2 (drop 4 front))

abbrev pub step_of : ImageFormat → ℕ → Bool → List ℕ → Step
step_of formats.Extended before begun front = extended_step front
step_of formats.E11 before begun front = e11_step front
step_of formats.Aws before begun front = aws_step before begun front

-- ---- images

-- what is done with the first item
abbrev pub looked : ImageFormat → Before → List ℕ → Step
looked format before xs =
    step_of format before.chunk (not (length before.kept == 0)) (take 8 xs)

-- The bytes of the SIMH image. Each item takes a byte at least, so one step more than there are
-- bytes is enough.
abbrev pub bytes_in : ℕ → ImageFormat → Before → List ℕ → List ℕ
bytes_in zero format before xs = []
bytes_in (suc steps) format before xs =
    by_step (looked format before xs) before.kept xs (bytes_in steps format)

-- the bytes of the SIMH image after a chunk
abbrev pub bytes_after : ImageFormat → Before → List ℕ → List ℕ
bytes_after format before xs = bytes_in (suc (length xs)) format before xs

-- the bytes of the SIMH image
abbrev pub simh_bytes : ImageFormat → List ℕ → List ℕ
simh_bytes format xs = bytes_after format (after 0) xs
