-- The record formats and their letters in a second label.
use Rattle.std.specs.Prelude.{ℕ, Bool, true, false}
use Rattle.tape_label.specs.declared.values.Format.{Format}
use Rattle.tape_label.specs.declared.values.Format.TheVariants.{Fixed, Counted, Spanned}
use Rattle.tape_label.specs.declared.values.Format.TheVariants.{Undefined, Variable}

-- the letters `F`, `D`, `S`, `U` and `V`
abbrev pub letter : Format → ℕ
letter Fixed = 70
letter Counted = 68
letter Spanned = 83
letter Undefined = 85
letter Variable = 86

-- whether the format is one of ECMA-13, which the strict reading of a second label accepts
abbrev pub is_standard : Format → Bool
is_standard Fixed = true
is_standard Counted = true
is_standard Spanned = true
is_standard Undefined = false
is_standard Variable = false

-- the least record length in a label: records of a fixed length are not empty
abbrev pub least_record : Format → ℕ
least_record Fixed = 1
least_record Counted = 0
least_record Spanned = 0
least_record Undefined = 0
least_record Variable = 0
