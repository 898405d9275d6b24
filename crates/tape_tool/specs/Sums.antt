-- The list of the checksums of files, as `sha256sum` prints it and reads it.
use Rattle.std.specs.Prelude.{ℕ, ◌==◌, Bool, if◌then◌else◌, List, [], ◌∷◌, ◌++◌, codes, length}
use Rattle.std.specs.{List.flat_map, Prelude.nat_eq, Cmp.Lexicographic.pointwise}
use Rattle.std.specs.declared.{alloc.Global.Global, vec.Vec.Vec}
use Rattle.hex.specs.Hex.{encode_lower}
use Rattle.indexmap.specs.IndexMap.{insert_entry}

-- a byte of a name: a backslash, a line feed and a carriage return have escapes
abbrev pub escaped_byte : ℕ → List ℕ
escaped_byte byte = if byte == 92 then codes "\\\\" else
    (if byte == 10 then codes "\\n" else (if byte == 13 then codes "\\r" else byte ∷ []))

-- a name as a line shows it
abbrev pub escaped_name : List ℕ → List ℕ
escaped_name name = flat_map escaped_byte name

-- what precedes the checksum: a backslash if the name has escapes
abbrev pub line_mark : List ℕ → List ℕ
line_mark name = if length (escaped_name name) == length name then [] else codes "\\"

-- the line of a file: its checksum in hexadecimal digits, and its name
abbrev pub sum_line : List ℕ → List ℕ → List ℕ
sum_line name sum = line_mark name
    ++ (encode_lower sum ++ (codes "  " ++ (escaped_name name ++ codes "\n")))

-- the text of a list: the lines of its files, in order
abbrev pub sums_text : List (Vec ℕ Global × List ℕ) → List ℕ
sums_text sums = flat_map (λ entry. sum_line entry.0.items entry.1) sums

-- whether two files have the same name
abbrev pub is_same_name : Vec ℕ Global → Vec ℕ Global → Bool
is_same_name one other = pointwise nat_eq one.items other.items

-- the list with the checksum of a file: in place of the file's former one, if it has one, and
-- otherwise at the end
abbrev pub with_sum : List (Vec ℕ Global × List ℕ) → Vec ℕ Global → List ℕ
    → List (Vec ℕ Global × List ℕ)
with_sum sums name sum = insert_entry is_same_name sums name sum
