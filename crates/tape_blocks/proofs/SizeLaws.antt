-- A block has no more parts than bytes, and no part is longer than the block.
use Rattle.std.proofs.Common.{◌≡◌, ℕ, ◌≤◌, List, [], ◌∷◌, ◌++◌, length, refl, ap, subst, arith}
use Rattle.std.proofs.{Common.length-append, lemmas.List.length-drop}
use Rattle.std.specs.List.{AllByRecursion}
use Rattle.tape_label.specs.declared.values.Format.{Format}
use Rattle.tape_label.specs.declared.values.Format.TheVariants.{Fixed, Counted, Spanned}
use Rattle.tape_label.specs.declared.values.Format.TheVariants.{Undefined, Variable}
use Rattle.tape_blocks.specs.Block.{Portion, HoldsUnits, IsUnit, spelling, spellings}
use Rattle.tape_blocks.proofs.UnitLaws.{length-spelling}

-- ---- one unit, and units one after another

-- a unit has at least one byte
unit_some : (format : Format) (rec_len : ℕ) (p : Portion) → (format ≡ Fixed → 1 ≤ rec_len)
    → IsUnit format rec_len p
    → 1 ≤ length (spelling format p)
unit_some Fixed rec_len p some unit = omega (arith, some refl, unit.1, length-spelling Fixed p)
unit_some Counted rec_len p some unit = omega (arith, length-spelling Counted p)
unit_some Spanned rec_len p some unit = omega (arith, length-spelling Spanned p)
unit_some Undefined rec_len p some unit = omega (arith, unit.1, length-spelling Undefined p)
unit_some Variable rec_len p some unit = omega (arith, length-spelling Variable p)

units_few : (format : Format) (rec_len : ℕ) (ps : List Portion) → (format ≡ Fixed → 1 ≤ rec_len)
    → AllByRecursion (IsUnit format rec_len) ps → length ps ≤ length (spellings format ps)
units_few format rec_len [] some units = omega arith
units_few format rec_len (p ∷ ps) some units =
    grind (arith, unit_some, length-append, units_few format rec_len ps some units.1)

-- a unit is no shorter than its content
unit_holds : (format : Format) (p : Portion) → length p.bytes ≤ length (spelling format p)
unit_holds Fixed p = omega (arith, length-spelling Fixed p)
unit_holds Counted p = omega (arith, length-spelling Counted p)
unit_holds Spanned p = omega (arith, length-spelling Spanned p)
unit_holds Undefined p = omega (arith, length-spelling Undefined p)
unit_holds Variable p = omega (arith, length-spelling Variable p)

units_short : (format : Format) (n : ℕ) (ps : List Portion) → length (spellings format ps) ≤ n
    → AllByRecursion (λ p. length p.bytes ≤ n) ps
units_short format n [] fits = tt
units_short format n (p ∷ ps) fits =
    let sum = length-append (spelling format p) (spellings format ps) in (
      omega (arith, fits, sum, unit_holds format p),
      units_short format n ps (omega (arith, fits, sum)),
    )

-- ---- blocks

-- a block is no shorter than its units
body_fits : (format : Format) (rec_len offset : ℕ) (block : List ℕ) (ps : List Portion)
    → HoldsUnits format rec_len offset block ps → length (spellings format ps) ≤ length block
body_fits format rec_len offset block ps (padding, b, pad) =
    omega (
      arith,
      ap length b.body,
      length-append (spellings format ps) padding,
      length-drop offset block,
    )

pub few_parts : (format : Format) (rec_len offset : ℕ) (block : List ℕ) (ps : List Portion)
    → (format ≡ Fixed → 1 ≤ rec_len) → HoldsUnits format rec_len offset block ps
    → length ps ≤ length block
few_parts format rec_len offset block ps some holds =
    omega (
      arith,
      units_few format rec_len ps some holds.1.units,
      body_fits format rec_len offset block ps holds,
    )

pub short_parts : (format : Format) (rec_len offset : ℕ) (block : List ℕ) (ps : List Portion)
    → HoldsUnits format rec_len offset block ps
    → AllByRecursion (λ p. length p.bytes ≤ length block) ps
short_parts format rec_len offset block ps holds = search (arith, tt, units_short, body_fits)

-- ---- for the crates above

here : (n : ℕ) (ys rest : List Portion) (p : Portion)
    → AllByRecursion (λ p. length p.bytes ≤ n) (ys ++ p ∷ rest)
    → length p.bytes ≤ n
here n [] rest p all = all.0
here n (y ∷ ys) rest p all = here n ys rest p all.1

-- the same for one part, given the parts before and after it
pub short_part : (format : Format) (rec_len offset : ℕ) (block : List ℕ) (ps ys rest : List Portion)
    (p : Portion)
    → ps ≡ ys ++ p ∷ rest → HoldsUnits format rec_len offset block ps
    → length p.bytes ≤ length block
short_part format rec_len offset block ps ys rest p e holds =
    let all = short_parts format rec_len offset block ps holds in
    here (length block) ys rest p
    (subst (λ (l : List Portion). AllByRecursion (λ q. length q.bytes ≤ length block) l) e all)
