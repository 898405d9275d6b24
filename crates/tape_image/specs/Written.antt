-- The encoding that is written for an item.
use Rattle.std.specs.Prelude.{◌≡◌, ℕ, ◌%◌, ◌==◌, ◌||◌, nat_lt, Bool, List, [], ◌∷◌, ◌++◌, length}
use Rattle.std.specs.Prelude.{replicate, Option, Result, Ok, Err}
use Rattle.std.specs.Io.KnownBytes.{Appends}
use Rattle.byteorder.specs.Endian.{little_bytes}
use Rattle.tape_image.specs.declared.item.ImageWriteFault.{ImageWriteFault}
use Rattle.tape_image.specs.declared.item.ImageWriteFault.TheVariants.{Device}
use Rattle.tape_image.specs.Tape.{TapeItem, block, bad, mark}
use Rattle.tape_image.specs.Word.{mark_word, longest_block}

-- the word of the block's length, its bytes, a zero pad byte if their number is odd, and the word
-- again
abbrev pub written_block : List ℕ → List ℕ
written_block content =
    little_bytes 4 (length content)
    ++ (content ++ (replicate (length content % 2) 0 ++ little_bytes 4 (length content)))

-- the encoding that is written for an item; for a bad one: one byte, 0, with the error flag set,
-- and a pad byte
abbrev pub written : TapeItem → List ℕ
written (block content) = written_block content
written bad = 1 ∷ 0 ∷ 0 ∷ 128 ∷ 0 ∷ 0 ∷ 1 ∷ 0 ∷ 0 ∷ 128 ∷ []
written mark = little_bytes 4 mark_word

-- whether the length is not that of a block: 0, or above 99,999
abbrev pub is_no_block : List ℕ → Bool
is_no_block content = (length content == 0) || nat_lt longest_block (length content)

-- a prefix of `all` was appended to the contents of the device, if they are known
abbrev pub AppendsFront : Option (List ℕ) → Option (List ℕ) → List ℕ → Type 0
AppendsFront old new all = (front rest : List ℕ) × Appends old new front × (all ≡ front ++ rest)

-- the result of writing the bytes: all of them were appended to the contents of the device, or, if
-- it failed, a prefix of them
abbrev pub Writes :
    Option (List ℕ) → Option (List ℕ) → List ℕ → Result (Unit {0}) ImageWriteFault → Type 0
Writes old new bytes (Ok _) = Appends old new bytes
Writes old new bytes (Err fault) = (fault ≡ Device) × AppendsFront old new bytes
