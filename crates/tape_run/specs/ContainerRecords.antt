-- Images that hold lengths in other forms than SIMH's.
use Rattle.std.specs.Prelude.{ℕ, zero, suc, ◌+◌, ◌%◌, ◌-◌, ◌^◌, ◌==◌, ◌&&◌, ◌||◌, Bool, false}
use Rattle.std.specs.Prelude.{if◌then◌else◌, List, codes, length, take, drop, not}
use Rattle.std.specs.Prelude.{nat_eq, nat_le, nat_lt, slice_index, Option, Some, None}
use Rattle.std.specs.List.{starts_with, list_all}
use Rattle.byteorder.specs.Endian.{little_number, big_number}
use Rattle.tape_run.specs.declared.container.Container.{Container}
use Rattle.tape_run.specs.declared.container.Container.TheVariants as kinds
use Rattle.tape_run.specs.ContainerMarks.{has, has_volume}

-- ---- AWS, and HET, which is AWS with compressed blocks: a header of six bytes before each block

-- flags of a block: whether it begins and ends there, and, in HET, how it is compressed
abbrev pub is_block_flag : ℕ → Bool
is_block_flag flag = nat_lt (flag % 4) 3
    && ((flag - flag % 4 == 0xA0) || ((flag - flag % 4 == 0x80)
    || ((flag - flag % 4 == 0x20) || (flag - flag % 4 == 0))))

-- a block has a length, and a tape mark has none
abbrev pub fits_flag : ℕ → ℕ → Bool
fits_flag n flag = if n == 0 then flag == 0x40 else is_block_flag flag

-- the bytes begin with a header that follows a block of `before` bytes
abbrev pub is_header : ℕ → List ℕ → Bool
is_header before xs = nat_le 6 (length xs) && ((little_number 2 (drop 2 xs) == before)
    && ((slice_index xs 5 == 0) && fits_flag (little_number 2 xs) (slice_index xs 4)))

-- what follows the header and its block
abbrev pub after_header : List ℕ → List ℕ
after_header xs = drop (6 + little_number 2 xs) xs

-- the bytes begin with a header and its block, and another header that fits follows; or the block
-- is a volume label
abbrev pub begins_aws : List ℕ → Bool
begins_aws xs = is_header 0 xs
    && (is_header (little_number 2 xs) (after_header xs) || has_volume 6 xs)

-- one of the headers, as far as they fit, has the flag of a compressed block
abbrev pub packs_from : ℕ → ℕ → List ℕ → Bool
packs_from zero before xs = false
packs_from (suc steps) before xs =
    if is_header before xs
    then nat_lt 0 (slice_index xs 4 % 4)
    || packs_from steps (little_number 2 xs) (after_header xs)
    else false

abbrev pub has_packed : List ℕ → Bool
has_packed xs = packs_from (length xs) 0 xs

-- ---- FakeTape: before each block its length and that of the block before it, and a check of the
-- two, as four hexadecimal digits each

abbrev pub is_digit : ℕ → Bool
is_digit byte = (nat_le 48 byte && nat_le byte 57) || (nat_le 65 byte && nat_le byte 70)

-- nothing is before the first block, so its check is its length
abbrev pub is_fake_tape : List ℕ → Bool
is_fake_tape xs = has 0 (codes "0000") xs && (not (has 4 (codes "0000") xs)
    && (nat_le 12 (length xs) && (list_all is_digit (take 4 (drop 4 xs))
    && starts_with nat_eq (drop 8 xs) (take 4 (drop 4 xs)))))

-- ---- P7B: the first byte of each block is marked by its highest bit

abbrev pub is_marked : ℕ → Bool
is_marked byte = nat_le 128 byte

abbrev pub is_plain : ℕ → Bool
is_plain byte = nat_lt byte 128

-- the bytes begin with a block of 80 bytes, and another follows
abbrev pub is_seven_track : List ℕ → Bool
is_seven_track xs = nat_lt 80 (length xs) && (is_marked (slice_index xs 0)
    && (is_marked (slice_index xs 80) && list_all is_plain (take 79 (drop 1 xs))))

-- the first two blocks have 80 bytes, as labels have
abbrev pub is_p7b : List ℕ → Bool
is_p7b xs = is_seven_track xs && is_seven_track (drop 80 xs)

-- ---- SIMH with the greatest byte of each word first

abbrev pub is_big_by : ℕ → List ℕ → Bool
is_big_by n xs = nat_lt 0 n && (nat_lt n (2 ^ 24)
    && (nat_le 4 (length (drop (4 + n + n % 2) xs))
    && (big_number 4 (drop (4 + n + n % 2) xs) == n)))

-- the bytes begin with a block between two such words
abbrev pub is_big : List ℕ → Bool
is_big xs = if nat_lt (length xs) 4 then false else is_big_by (big_number 4 xs) xs

abbrev pub recorded : List ℕ → Option Container
recorded xs =
    if begins_aws xs then Some (if has_packed xs then kinds.Het else kinds.Aws)
    else if is_fake_tape xs then Some kinds.FakeTape
    else if is_p7b xs then Some kinds.P7b
    else if is_big xs then Some kinds.BigEndian
    else None
