-- Examples for the definitions of values in the arguments of a command line.
use Rattle.std.specs.Prelude.{◌≡◌, ℕ, Some, None, codes}
use Rattle.clap.specs.declared.error.kind.ErrorKind.TheVariants.{DisplayHelp, OutOfMemory}
use Rattle.clap.specs.{Words.kind_of, declared.error.Error.Error}
use Rattle.clap.specs.declared.error.kind.ErrorKind.TheVariants.{ValueValidation}
use Rattle.tape_label.specs.declared.values.Format.TheVariants.{Fixed, Counted, Spanned}
use Rattle.tape_blocks.specs.declared.parts.Form.TheVariants.{Lines, Raw}
use Rattle.tape_tool.specs.declared.write.words.WriteOrder.{WriteOrder}
use Rattle.tape_tool.specs.Words.{IsAtOdds, IsMistake, IsNoSet, IsSize, padded_set}

pub record CasesOfWords : Type 0 where
  -- a set's identifier has 1 to 6 bytes, padded with spaces
  pub set : padded_set (codes "ABC1") ≡ codes "ABC1  "
  pub sets : (IsNoSet (codes "ABC001") → ⊥) × (IsNoSet (codes "A") → ⊥)
  pub no_sets : IsNoSet (codes "") × IsNoSet (codes "ABC0001")
  -- a letter after the digits of a size multiplies them
  pub size : IsSize (codes "9K") 9216
  pub one_size : (n : ℕ) → IsSize (codes "9K") n → n ≡ 9216
  -- F needs a record length, S accepts none, and D is never raw
  pub fixed : (order : WriteOrder) → order.format ≡ Fixed
      → (order.«record» ≡ None → IsAtOdds order)
      × (order.«record» ≡ Some 80 → IsAtOdds order → ⊥)
  pub spanned : (order : WriteOrder) → order.format ≡ Spanned
      → (order.«record» ≡ Some 80 → IsAtOdds order)
      × (order.«record» ≡ None → IsAtOdds order → ⊥)
  pub counted : (order : WriteOrder) → order.format ≡ Counted
      → (order.form ≡ Raw → IsAtOdds order) × (order.form ≡ Lines → IsAtOdds order → ⊥)
  -- a message of the program is an error of a value; help is none
  pub mistakes : (error : Error) → (kind_of error ≡ ValueValidation → IsMistake error)
      × (kind_of error ≡ OutOfMemory → IsMistake error)
  pub no_mistake : (error : Error) → kind_of error ≡ DisplayHelp → IsMistake error → ⊥
