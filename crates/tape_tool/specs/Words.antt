-- Values in the arguments of a command line.
use Rattle.std.specs.Prelude.{◌≡◌, ◌≢◌, ◌⊎◌, ◌<◌, ◌^◌, ◌*◌, ℕ, List, [], ◌∷◌, ◌++◌, length, ◌-◌}
use Rattle.std.specs.Prelude.{None, codes, replicate}
use Rattle.std.specs.Str.Parse.{IsNumeral, digits_value, without_leading_plus}
use Rattle.clap.specs.{Words.kind_of, declared.error.Error.Error}
use Rattle.clap.specs.declared.error.kind.ErrorKind.TheVariants.{OutOfMemory, ValueValidation}
use Rattle.tape_label.specs.declared.values.Format.TheVariants.{Fixed, Counted, Spanned}
use Rattle.tape_blocks.specs.declared.parts.Form.TheVariants.{Raw}
use Rattle.tape_tool.specs.declared.write.words.WriteOrder.{WriteOrder}

-- a usage error with a message of the program's own, or the error that memory ran out for it
abbrev pub IsMistake : Error → Type 0
IsMistake error = (kind_of error ≡ OutOfMemory) ⊎ (kind_of error ≡ ValueValidation)

-- a set's identifier, padded with spaces (32)
abbrev pub padded_set : List ℕ → List ℕ
padded_set text = text ++ replicate (6 - length text) 32

-- there is no such identifier
abbrev pub IsNoSet : List ℕ → Type 0
IsNoSet text = (length text ≡ 0) ⊎ (6 < length text)

-- Options of `write` that exclude each other. Format F needs a record length, and S accepts none.
-- The records of D cannot be joined.
abbrev pub IsAtOdds : WriteOrder → Type 0
IsAtOdds order = ((order.format ≡ Fixed) × (order.«record» ≡ None))
    ⊎ ((order.format ≡ Spanned) × (order.«record» ≢ None))
    ⊎ ((order.format ≡ Counted) × (order.form ≡ Raw))

-- what a letter at the end of a size represents: K, M and G are 1,024, its square and its cube
abbrev pub IsUnit : List ℕ → ℕ → Type 0
IsUnit unit factor = ((unit ≡ []) × (factor ≡ 1)) ⊎ ((unit ≡ codes "K") × (factor ≡ 1024))
    ⊎ ((unit ≡ codes "M") × (factor ≡ 1048576)) ⊎ ((unit ≡ codes "G") × (factor ≡ 1073741824))

-- The text is a size of so many bytes: decimal digits, with or without a plus sign before them, and
-- at most one such letter after them.
pub record IsSize (text : List ℕ) (n : ℕ) : Type 0 where
  pub digits : List ℕ
  pub unit : List ℕ
  pub factor : ℕ
  pub text_is : text ≡ digits ++ unit
  pub of_unit : IsUnit unit factor
  pub numeral : IsNumeral 10 (without_leading_plus digits)
  pub value : n ≡ digits_value 10 (without_leading_plus digits) * factor
  pub few : n < 2 ^ 32

-- the text ends with one of the letters
abbrev pub EndsInLetter : List ℕ → Type 0
EndsInLetter text = (front : List ℕ) × (c : ℕ) × (text ≡ front ++ c ∷ [])
    × ((c ≡ 75) ⊎ (c ≡ 77) ⊎ (c ≡ 71))
