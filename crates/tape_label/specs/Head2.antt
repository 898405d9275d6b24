-- The second header or trailer label.
use Rattle.std.specs.Prelude.{◌≡◌, ℕ, ◌≤◌, ◌⊎◌, List, [], ◌∷◌, codes, true}
use Rattle.tape_label.specs.{declared.values.Kind.Kind, declared.values.Head2.Head2}
use Rattle.tape_label.specs.{Formats.letter, Formats.least_record, Formats.is_standard}
use Rattle.tape_label.specs.Kinds.{HasKind, IsSecond}
use Rattle.tape_label.specs.Positions.{positions, HasNumber}

-- the buffer offset in two digits, or two spaces for 0
abbrev pub HasOffset : List ℕ → ℕ → Type 0
HasOffset label offset =
    HasNumber label 51 52 0 offset ⊎ ((positions label 51 52 ≡ codes "  ") × (offset ≡ 0))

-- the label is a second label of the given kind with the given fields; positions 16 to 50 and 53 to
-- 80 may contain anything
pub record IsHead2 (label : List ℕ) (which : Kind) (fields : Head2) : Type 0 where
  pub second : IsSecond which
  pub kind : HasKind label which
  pub standard : is_standard fields.format ≡ true
  pub format : positions label 5 5 ≡ letter fields.format ∷ []
  pub block_len : HasNumber label 6 10 0 fields.block_len
  pub rec_len : HasNumber label 11 15 (least_record fields.format) fields.rec_len
  pub offset : HasOffset label fields.offset

-- The format is one of ECMA-13, the numbers fit their digits, and records of a fixed length are not
-- empty.
pub record Head2Fits (fields : Head2) : Type 0 where
  pub standard : is_standard fields.format ≡ true
  pub block_len : fields.block_len ≤ 99999
  pub rec_len : (least_record fields.format ≤ fields.rec_len) × (fields.rec_len ≤ 99999)
  pub offset : fields.offset ≤ 99
