-- Examples for the definitions of the arguments of `write`.
use Rattle.std.specs.Prelude.{ℕ, suc, Bool, true, false}
use Rattle.tape_label.specs.declared.values.Format.TheVariants.{Fixed, Counted, Spanned}
use Rattle.tape_tool.specs.Writing.{IsNoShape}

-- the shapes that are refused, and those that are not
pub record CasesOfWriting : Type 0 where
  -- blocks of D may be padded or not
  pub counted : (n : ℕ) (pad_full : Bool) → IsNoShape Counted n pad_full → ⊥
  -- blocks of F and S are written without padding, those of F if a record has at least one byte
  pub fixed : (n : ℕ) → IsNoShape Fixed (suc n) false → ⊥
  pub spanned : (n : ℕ) → IsNoShape Spanned n false → ⊥
  -- and are not padded
  pub padded : (n : ℕ) → IsNoShape Fixed n true × IsNoShape Spanned n true
  pub empty : IsNoShape Fixed 0 false
