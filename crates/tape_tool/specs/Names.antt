-- Names of images, in arguments and in a list.
use Rattle.std.specs.Prelude.{ℕ, ◌==◌, Bool, true, false, not, List, length}
use Rattle.std.specs.List.{slice_split, filter}

-- the terminator of each name in a list: a NUL, or a line feed
abbrev pub end_byte : Bool → ℕ
end_byte true = 0
end_byte false = 10

-- the pieces between the terminators in the text of a list, and after the last one
abbrev pub pieces_of : Bool → List ℕ → List (List ℕ)
pieces_of null text = slice_split (λ b. b == end_byte null) text

-- whether there are any bytes
abbrev pub is_name : List ℕ → Bool
is_name name = not (length name == 0)

-- The names in the text of a list: the pieces between its terminators that are not empty.
abbrev pub names_in : Bool → List ℕ → List (List ℕ)
names_in null text = filter is_name (pieces_of null text)
