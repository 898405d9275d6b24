-- The second header or trailer label in the wider reading, which accepts what systems wrote besides
-- ECMA-13.
use Rattle.std.specs.Prelude.{◌≡◌, ℕ, ◌⊎◌, ◌==◌, List, [], ◌∷◌, codes, ◌&&◌, ◌||◌, nat_le, length}
use Rattle.std.specs.Prelude.{slice_index, Bool}
use Rattle.std.specs.Str.{bytes_eq}
use Rattle.tape_label.specs.{declared.values.Kind.Kind, declared.values.Head2.Head2}
use Rattle.tape_label.specs.declared.values.Format.{Format}
use Rattle.tape_label.specs.declared.values.Format.TheVariants.{Fixed, Undefined}
use Rattle.tape_label.specs.{Formats.letter, Kinds.HasKind, Kinds.IsSecond, Head2.HasOffset}
use Rattle.tape_label.specs.Positions.{positions, HasNumber}

-- a length that no block depends on: in digits, or five spaces for 0
abbrev pub HasNumberOrSpaces : List ℕ → ℕ → ℕ → ℕ → Type 0
HasNumberOrSpaces label first last n =
    HasNumber label first last 0 n ⊎ ((positions label first last ≡ codes "     ") × (n ≡ 0))

-- the record length, which only blocks of format F depend on
abbrev pub HasRecLen : Format → List ℕ → ℕ → Type 0
HasRecLen Fixed label n = HasNumber label 11 15 1 n
HasRecLen _ label n = HasNumberOrSpaces label 11 15 n

-- the label is a second label of the given kind with the given fields, in any of the five formats;
-- positions 16 to 50 and 53 to 80 may contain anything
pub record IsWideHead2 (label : List ℕ) (which : Kind) (fields : Head2) : Type 0 where
  pub second : IsSecond which
  pub kind : HasKind label which
  pub format : positions label 5 5 ≡ letter fields.format ∷ []
  pub block_len : HasNumberOrSpaces label 6 10 fields.block_len
  pub rec_len : HasRecLen fields.format label fields.rec_len
  pub offset : HasOffset label fields.offset

-- the fields with which a section without HDR2 is read: each block is one record
abbrev pub absent_head2 : Head2
absent_head2 = record { format = Undefined; block_len = 0; rec_len = 0; offset = 0 }

-- whether the block is a header label that may follow HDR2: `HDR3` to `HDR9`, or one of a user
abbrev pub is_further_header : List ℕ → Bool
is_further_header block =
    (length block == 80)
    && (bytes_eq (positions block 1 3) (codes "UHL")
    || (bytes_eq (positions block 1 3) (codes "HDR")
    && nat_le 51 (slice_index block 3) && nat_le (slice_index block 3) 57))
