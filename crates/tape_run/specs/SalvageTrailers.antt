-- Trailer labels among the data of a section, if the tape mark between them is lost, or after them.
-- Some systems leave numbers of a label blank, or write 0.
use Rattle.std.specs.Prelude.{ℕ, ◌==◌, ◌&&◌, ◌||◌, not, Bool, true, List, length, map, codes}
use Rattle.std.specs.{Prelude.if◌then◌else◌, Str.bytes_eq, Str.all_ascii_digits}
use Rattle.tape_label.specs.{Digits.number_of, Positions.positions}
use Rattle.tape_core.specs.NormalForm.Codes.{to_ascii, unpadded}
use Rattle.tape_run.specs.declared.section.SectionKey.{SectionKey}

-- the field is this number, or none
abbrev pub may_be : ℕ → List ℕ → Bool
may_be n field =
    if all_ascii_digits field then number_of field == 0 || number_of field == n else true

-- the identifier of a first trailer label
abbrev pub is_first : List ℕ → Bool
is_first name = bytes_eq name (codes "EOF1") || bytes_eq name (codes "EOV1")

-- a first trailer label that has no other section number or file number
abbrev pub is_own_by : SectionKey → List ℕ → List ℕ → List ℕ → Bool
is_own_by key name sect file = is_first name && (may_be key.sect sect && may_be key.file file)

-- the same, in ASCII or EBCDIC
abbrev pub is_own_label : SectionKey → List ℕ → Bool
is_own_label key label =
    is_own_by key (positions label 1 4) (positions label 28 31) (positions label 32 35)
    || is_own_by key (map to_ascii (positions label 1 4)) (map to_ascii (positions label 28 31))
    (map to_ascii (positions label 32 35))

-- the block is such a label, with padding or without
abbrev pub is_own_trailer : SectionKey → List ℕ → Bool
is_own_trailer key block =
    (length (unpadded block) == 80) && is_own_label key (unpadded block)

-- the block is the trailer label of another section
abbrev pub is_other_trailer : SectionKey → List ℕ → Bool
is_other_trailer key block =
    (length block == 80) && (is_first (positions block 1 4) && not (is_own_label key block))

-- the count of a trailer label; 0 if it has none
abbrev pub count_in : List ℕ → ℕ
count_in label =
    if all_ascii_digits (positions label 55 60) then number_of (positions label 55 60) else 0
