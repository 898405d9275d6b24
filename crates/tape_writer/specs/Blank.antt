-- Blank volumes: their labels, made from a prefix and a number, and their images.
use Rattle.std.specs.Prelude.{zero, ◌≤◌, List, [], length, suc, ℕ, ◌++◌, ◌∷◌, ◌≡◌, ◌⊎◌, replicate}
use Rattle.std.specs.List.{AllByRecursion}
use Rattle.tape_label.specs.{Written.vol1_pieces, Written.text_of, declared.values.Vol1.Vol1}
use Rattle.tape_label.specs.{Digits.digits}

-- a capital letter or a digit
abbrev pub IsPrefixByte : ℕ → Type 0
IsPrefixByte b = ((65 ≤ b) × (b ≤ 90)) ⊎ ((48 ≤ b) × (b ≤ 57))

-- the first three characters of the identifiers of a set's volumes
abbrev pub IsPrefix : List ℕ → Type 0
IsPrefix text = (length text ≡ 3) × AllByRecursion IsPrefixByte text

-- the prefix, followed by the number in three digits
abbrev pub volume_id : List ℕ → ℕ → List ℕ
volume_id prefix n = prefix ++ digits 3 n

-- The label of volume number n: its identifier, version 4, and spaces in all other fields. 32 is
-- the space and 52 the digit 4.
abbrev pub blank_volume : List ℕ → ℕ → Vol1
blank_volume prefix n = record {
  volume = volume_id prefix n;
  access = 32;
  implementation = replicate 13 32;
  owner = replicate 14 32;
  version = 52;
}

-- the labels of the first volumes with a prefix, as many as given
abbrev pub blank_volumes : List ℕ → ℕ → List Vol1
blank_volumes prefix zero = []
blank_volumes prefix (suc n) = blank_volumes prefix n ++ blank_volume prefix (suc n) ∷ []

-- the length word of a block of 80 bytes
abbrev pub label_word : List ℕ
label_word = 80 ∷ 0 ∷ 0 ∷ 0 ∷ []

-- The image of a blank volume: the label between its two length words, two tape marks of four zeros
-- each, and the end-of-medium marker.
abbrev pub blank_image : Vol1 → List ℕ
blank_image volume = label_word ++ text_of (vol1_pieces volume) ++ label_word
    ++ replicate 8 0 ++ replicate 4 255
