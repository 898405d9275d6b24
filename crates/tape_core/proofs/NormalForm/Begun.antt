-- A block with which a tape begins in one of the codes, or in none.
use Rattle.std.proofs.Common.{◌≡◌, ℕ, List, Bool, cond, true, false, Option, Some, None}
use Rattle.std.proofs.Common.{refl, option_map}
use Rattle.std.specs.Option.{option_or}
use Rattle.tape_core.specs.declared.normal.code.Code.{Code}
use Rattle.tape_core.specs.declared.normal.code.Code.TheVariants.{Ascii, Ebcdic, PaddedAscii}
use Rattle.tape_core.specs.declared.normal.code.Code.TheVariants.{PaddedEbcdic}
use Rattle.tape_core.specs.declared.normal.machine.{TapePlace.TapePlace, Change.Change}
use Rattle.tape_core.specs.declared.normal.machine.TapePlace.TheVariants.{Ended, Over}
use Rattle.tape_core.specs.NormalForm.{Codes.in_ascii, begins_tape, code_of, is_noise}
use Rattle.tape_core.specs.NormalForm.Steps.{begin_in, start_at, ended_at, same, dropped}

abbrev pub begun_in : List ℕ → Code → TapePlace × Change
begun_in b code = begin_in code (in_ascii code b)

-- the first of the codes in which the block begins a tape
pub begun_any : (b : List ℕ)
    → option_or (option_or (option_or
    (cond (begins_tape Ascii b) (Some (begun_in b Ascii)) None)
    (cond (begins_tape Ebcdic b) (Some (begun_in b Ebcdic)) None))
    (cond (begins_tape PaddedAscii b) (Some (begun_in b PaddedAscii)) None))
    (cond (begins_tape PaddedEbcdic b) (Some (begun_in b PaddedEbcdic)) None)
    ≡ option_map (λ code. begun_in b code) (code_of b)
begun_any b =
    go (begins_tape Ascii b) (begins_tape Ebcdic b) (begins_tape PaddedAscii b)
    (begins_tape PaddedEbcdic b)
  where
    go : (p q r s : Bool)
        → option_or (option_or (option_or (cond p (Some (begun_in b Ascii)) None)
        (cond q (Some (begun_in b Ebcdic)) None)) (cond r (Some (begun_in b PaddedAscii)) None))
        (cond s (Some (begun_in b PaddedEbcdic)) None)
        ≡ option_map (λ code. begun_in b code) (cond p (Some Ascii) (cond q (Some Ebcdic)
        (cond r (Some PaddedAscii) (cond s (Some PaddedEbcdic) None))))
    go true q r s = refl
    go false true r s = refl
    go false false true s = refl
    go false false false true = refl
    go false false false false = refl

module _ (b : List ℕ) where
  start_some : (n : ℕ) (s : TapePlace × Change) (o : Option Code)
      → Some s ≡ option_map (λ code. begun_in b code) o → s ≡ start_at n b o
  start_some n s (Some code) e = cc e
  start_some n s None e = absurd (cc e)

  start_none : (n : ℕ) (o : Option Code) → is_noise b ≡ false
      → None ≡ option_map (λ code. begun_in b code) o → start_at n b o ≡ (Over, same)
  start_none n (Some code) z e = absurd (cc e)
  start_none n None z e = rw (z) refl

  ended_some : (s : TapePlace × Change) (o : Option Code)
      → Some s ≡ option_map (λ code. begun_in b code) o → ended_at o ≡ (Over, same)
  ended_some s (Some code) e = refl
  ended_some s None e = absurd (cc e)

  ended_none : (o : Option Code) → None ≡ option_map (λ code. begun_in b code) o
      → ended_at o ≡ (Ended, dropped)
  ended_none (Some code) e = absurd (cc e)
  ended_none None e = refl

  pub begun_start : (n : ℕ) (s : TapePlace × Change)
      → Some s ≡ option_map (λ code. begun_in b code) (code_of b) → s ≡ start_at n b (code_of b)
  begun_start n s e = start_some n s (code_of b) e

  pub other_start : (n : ℕ) → is_noise b ≡ false
      → None ≡ option_map (λ code. begun_in b code) (code_of b)
      → start_at n b (code_of b) ≡ (Over, same)
  other_start n z e = start_none n (code_of b) z e

  pub begun_ended : (s : TapePlace × Change)
      → Some s ≡ option_map (λ code. begun_in b code) (code_of b)
      → ended_at (code_of b) ≡ (Over, same)
  begun_ended s e = ended_some s (code_of b) e

  pub other_ended : None ≡ option_map (λ code. begun_in b code) (code_of b)
      → ended_at (code_of b) ≡ (Ended, dropped)
  other_ended e = ended_none (code_of b) e
