-- The counted form, which keeps the boundaries of records: each record follows its length in four
-- bytes, the most significant first.
use Rattle.std.specs.Prelude.{◌≡◌, ℕ, ◌/◌, ◌%◌, List, [], ◌∷◌, ◌++◌, length}

-- the length of a record; below 4,294,967,296 the first number is a byte, too
abbrev pub length_bytes : ℕ → List ℕ
length_bytes n = n / 16777216 ∷ n / 65536 % 256 ∷ n / 256 % 256 ∷ n % 256 ∷ []

-- the records, each behind its length
abbrev pub counted_text : List (List ℕ) → List ℕ
counted_text [] = []
counted_text (record_bytes ∷ others) =
    length_bytes (length record_bytes) ++ (record_bytes ++ counted_text others)

-- The text determines the records, their number and their boundaries.
abbrev pub CountedKeepsAll : Type 0
CountedKeepsAll = (rs ss : List (List ℕ)) → counted_text rs ≡ counted_text ss → rs ≡ ss
