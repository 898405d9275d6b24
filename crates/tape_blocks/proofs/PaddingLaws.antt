-- Padding contains no unit, and an encoded unit is read back.
use Rattle.std.proofs.Common.{◌≡◌, ℕ, Bool, true, false, not, cond, ltb, eqb, List, [], ◌∷◌, Option}
use Rattle.std.proofs.Common.{Some, None, Result, Ok, Err, refl, arith}
use Rattle.std.proofs.lemmas.Bool.{ltb-true, lt-ltb}
use Rattle.std.specs.Str.{all_ascii_digits}
use Rattle.tape_label.specs.declared.values.Format.{Format}
use Rattle.tape_label.specs.declared.values.Format.TheVariants.{Fixed, Counted, Spanned}
use Rattle.tape_label.specs.declared.values.Format.TheVariants.{Undefined, Variable}
use Rattle.tape_blocks.specs.{Block.first_other, Block.IsPadding, declared.parts.Span.Span}
use Rattle.std.specs.Prelude.{slice_index, max, length}
use Rattle.tape_blocks.specs.declared.check.BlockCause.TheVariants.{BadCount, PastEnd}
use Rattle.tape_blocks.specs.{Block.span_coded, Faults.fault, Faults.word_of}
use Rattle.tape_blocks.specs.Units.{padding_by, short_by, counted, spanned, unit_at}
use Rattle.tape_blocks.specs.Units.{described, word_unit}
use Rattle.tape_blocks.specs.{declared.check.BlockFault.BlockFault, declared.check.Found.Found}
use Rattle.tape_blocks.proofs.UnitLaws.{some, none}

-- ---- padding

never_none : (a b c d : Bool) (e f : BlockFault) (x : Found)
    → cond a (Err e) (cond (not b) (Err e) (cond c (Err e) (cond d (Err f) (some x)))) ≡ none → ⊥
never_none false true false false e f x h = cc
never_none a b c d e f x h = cc

counted_never : (span : Span) (h : ℕ) (bytes : List ℕ) → counted span h bytes ≡ none → ⊥
counted_never span h bytes e = grind (arith, never_none, ltb, all_ascii_digits)

spanned_never : (o : Option Span) (bytes : List ℕ) → spanned o bytes ≡ none → ⊥
spanned_never None bytes e = cc
spanned_never (Some s) bytes e = counted_never s 5 bytes e

fixed_none : (b : Bool) (o : Option ℕ) (x : Found) → cond b (short_by o) (some x) ≡ none
    → (b ≡ true) × (o ≡ None)
fixed_none true None x e = (refl, refl)
fixed_none true (Some n) x e = absurd cc
fixed_none false o x e = absurd cc

padding_none : (b : Bool) (o : Option ℕ) (r : Result (Option Found) BlockFault) → (r ≡ none → ⊥)
    → cond b (padding_by o) r ≡ none → o ≡ None
padding_none true None r h e = refl
padding_none true (Some n) r h e = absurd cc
padding_none false o r h e = absurd (h e)

own_never : (b : Bool) (f : BlockFault) (x : Found) → cond b (Err f) (some x) ≡ none → ⊥
own_never true f x e = cc
own_never false f x e = cc

described_never : (o : Option Span) (len : ℕ) (bytes : List ℕ) (a b : Bool)
    → ltb len 4 ≡ a → ltb (length bytes) len ≡ b → described o len bytes ≡ none → ⊥
described_never None len bytes a b p q e = cc
described_never (Some s) len bytes true b p q e =
    let z : described (Some s) len bytes ≡ Err (fault 0 BadCount) = rw p refl in cc
described_never (Some s) len bytes false true p q e =
    let z : described (Some s) len bytes ≡ Err (fault 0 PastEnd) = rw (p, q) refl in cc
described_never (Some s) len bytes false false p q e =
    let z : described (Some s) len bytes ≡ some (record { span = s; head = 4; len = len }) =
    rw (p, q) refl in
    cc

word_step : (b : Bool) (o : Option Span) (len : ℕ) (bytes : List ℕ)
    → cond b (Err (fault 0 BadCount)) (described o len bytes) ≡ none → ⊥
word_step true o len bytes e = cc
word_step false o len bytes e = described_never o len bytes _ _ refl refl e

word_never : (bytes : List ℕ) → word_unit bytes ≡ none → ⊥
word_never bytes e =
    word_step _ (span_coded (slice_index bytes 2) (slice_index bytes 3)) (word_of bytes) bytes e

pub padding_found : (format : Format) (rec_len : ℕ) (bytes : List ℕ)
    → unit_at format rec_len bytes ≡ Ok None → IsPadding format rec_len bytes
unfolding unit_at
padding_found Fixed rec_len bytes e = grind (arith, fixed_none, ltb, ltb-true)
padding_found Counted rec_len [] e = refl
padding_found Counted rec_len (c ∷ cs) e = grind (arith, padding_none, counted_never)
padding_found Undefined rec_len [] e = refl
padding_found Undefined rec_len (c ∷ cs) e =
    absurd (own_never (ltb (length (c ∷ cs)) (max 1 rec_len)) _ _ e)
padding_found Variable rec_len [] e = refl
padding_found Variable rec_len (c ∷ cs) e = absurd (word_never (c ∷ cs) e)
padding_found Spanned rec_len [] e = refl
padding_found Spanned rec_len (c ∷ cs) e = search (arith, tt, padding_none, spanned_never)

pub first_is : (c : ℕ) (cs : List ℕ) (b : Bool) → eqb c 94 ≡ b → first_other (c ∷ cs) ≡ None
    → b ≡ true
first_is c cs true p e = refl
first_is c cs false p e = grind (arith, ltb, lt-ltb)

pub padding_again : (format : Format) (rec_len : ℕ) (bytes : List ℕ)
    → IsPadding format rec_len bytes → unit_at format rec_len bytes ≡ Ok None
unfolding unit_at
padding_again Fixed rec_len bytes is = rw (lt-ltb _ _ is.1, is.0) refl
padding_again Counted rec_len [] is = refl
padding_again Counted rec_len (c ∷ cs) is = rw (is, first_is c cs (eqb c 94) refl is) refl
padding_again Undefined rec_len [] is = refl
padding_again Undefined rec_len (c ∷ cs) is = absurd cc
padding_again Variable rec_len [] is = refl
padding_again Variable rec_len (c ∷ cs) is = absurd cc
padding_again Spanned rec_len [] is = refl
padding_again Spanned rec_len (c ∷ cs) is = rw (is, first_is c cs (eqb c 94) refl is) refl
