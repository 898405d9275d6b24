-- Blocks of formats U and V, and padding of NULs or spaces.
use Rattle.std.proofs.Common.{◌≡◌, ℕ, zero, suc, ◌+◌, ◌*◌, ◌-◌, ◌/◌, ◌%◌, ◌<◌, ◌≤◌, Bool, true}
use Rattle.std.proofs.Common.{false}
use Rattle.std.proofs.Common.{cond, ltb, leb, eqb, List, [], ◌∷◌, ◌++◌, length, drop}
use Rattle.std.proofs.Common.{None, Ok, refl, sym, ap, subst, ◌∙◌, arith}
use Rattle.std.proofs.Common.{length-append}
use Rattle.std.proofs.lemmas.List.{length-drop, append-nil, drop-drop, drop_at}
use Rattle.std.proofs.lemmas.Bool.{lt-ltb, le-leb, eqb-true}
use Rattle.std.specs.Prelude.{max, ◌&&◌}
use Rattle.std.specs.List.{AllByRecursion}
use Rattle.tape_label.specs.declared.values.Format.{Format}
use Rattle.tape_label.specs.declared.values.Format.TheVariants.{Fixed, Counted, Spanned}
use Rattle.tape_label.specs.declared.values.Format.TheVariants.{Undefined, Variable}
use Rattle.tape_blocks.specs.Block.{Portion, Holds, IsUnit, IsPadding, spellings}
use Rattle.tape_blocks.specs.Block.{is_described, own_offset, own_len, first_other}
use Rattle.tape_blocks.specs.declared.parts.Span.TheVariants.{Whole}
use Rattle.tape_blocks.specs.{Judged.judged, Parts.parts_of}
use Rattle.tape_blocks.specs.Content.{content_in, is_foreign, may_be_padded, units_end}
use Rattle.tape_blocks.specs.WideLaws.{described_block}
use Rattle.tape_blocks.proofs.{OwnLaws.judged_found, PartsLaws.parts_are, PaddingLaws.first_is}
use Rattle.tape_blocks.proofs.PartsLaws.{parts_front}
use Rattle.tape_blocks.specs.Block.{BeginsWith}

-- ---- format U

abbrev one_part : ℕ → List ℕ → List Portion
one_part offset block = record { span = Whole; bytes = drop offset block } ∷ []

pub undefined_one : (rec_len offset : ℕ) (block : List ℕ) → offset < length block
    → Holds Undefined rec_len offset block (one_part offset block)
undefined_one rec_len offset block lt =
    let size : length (drop offset block) ≡ max 1 (length block - offset) =
    omega (arith, length-drop offset block) in (
      [],
      record {
        reaches = omega arith;
        units = ((refl, size), tt);
        body = sym (append-nil (drop offset block))
            ∙ ap (λ (x : List ℕ). x ++ []) (sym (append-nil (drop offset block)));
      },
      refl,
    )

no_bytes : (n : ℕ) (xs : List ℕ) → n ≡ length xs → drop n xs ≡ []
no_bytes zero [] e = refl
no_bytes zero (x ∷ xs) e = absurd (omega (arith, e))
no_bytes (suc n) [] e = absurd (omega (arith, e))
no_bytes (suc n) (x ∷ xs) e = no_bytes n xs (omega (arith, e))

pub undefined_none : (rec_len offset : ℕ) (block : List ℕ) → offset ≡ length block
    → Holds Undefined rec_len offset block []
undefined_none rec_len offset block e =
    ([], record { reaches = omega arith; units = tt; body = no_bytes offset block e }, refl)

-- ---- format V

eqb-same : (n : ℕ) → eqb n n ≡ true
eqb-same n = grind (arith, eqb)

describes : (a b : ℕ) (rest : List ℕ) → a < 128 → a * 256 + b ≡ length (a ∷ b ∷ 0 ∷ 0 ∷ rest)
    → is_described (a ∷ b ∷ 0 ∷ 0 ∷ rest) ≡ true
unfolding is_described
describes a b rest lt e =
    rw (
      le-leb 4 (length (a ∷ b ∷ 0 ∷ 0 ∷ rest)) (omega arith),
      lt-ltb a 128 lt,
      e,
      eqb-same (length (a ∷ b ∷ 0 ∷ 0 ∷ rest)),
    ) refl

described : (parts : List Portion) → 4 + length (spellings Variable parts) < 32768
    → is_described (described_block parts) ≡ true
described parts lt =
    let n = 4 + length (spellings Variable parts) in
    describes (n / 256) (n % 256) (spellings Variable parts) (omega arith) (omega arith)

pub described_holds : (rec_len : ℕ) (parts : List Portion)
    → AllByRecursion (IsUnit Variable rec_len) parts
    → 4 + length (spellings Variable parts) < 32768
    → Holds Variable rec_len 0 (described_block parts) parts
described_holds rec_len parts all lt =
    let block = described_block parts in
    let front : own_offset Variable 0 block ≡ 4 = rw (described parts lt) refl in
    rw front (
      [],
      record {
        reaches = omega arith;
        units = all;
        body = sym (append-nil (spellings Variable parts));
      },
      refl,
    )

-- ---- padding

and_false : (b : Bool) → (b && false) ≡ false
and_false true = refl
and_false false = refl

-- padding of circumflexes is neither NULs nor spaces
no_foreign : (c : ℕ) (cs : List ℕ) (b : Bool) → eqb c 94 ≡ b → first_other (c ∷ cs) ≡ None
    → is_foreign (c ∷ cs) ≡ false
no_foreign c cs true p e =
    let z : c ≡ 94 = eqb-true _ _ p in
    rw (z, lt-ltb 0 (length (94 ∷ cs)) (omega arith)) (and_false _)
no_foreign c cs false p e = absurd (let q = first_is c cs false p e in cc)

plain : (padding : List ℕ) → first_other padding ≡ None → is_foreign padding ≡ false
plain [] e = refl
plain (c ∷ cs) e = no_foreign c cs (eqb c 94) refl e

padding_plain : (format : Format) (rec_len : ℕ) (padding : List ℕ)
    → IsPadding format rec_len padding → is_foreign padding ≡ false
padding_plain Fixed rec_len padding is = plain padding is.0
padding_plain Counted rec_len padding is = plain padding is
padding_plain Spanned rec_len padding is = plain padding is
padding_plain Undefined rec_len padding is = rw is refl
padding_plain Variable rec_len padding is = rw is refl

kept_if : (a b c d : Bool) (xs ys : List ℕ) → c ≡ false → cond (a && b && c && d) xs ys ≡ ys
kept_if true true c d xs ys e = rw e refl
kept_if true false c d xs ys e = refl
kept_if false b c d xs ys e = refl

-- in formats that were padded with NULs or spaces a block says nothing of its units
own_plain : (format : Format) (rec_len offset : ℕ) (block : List ℕ) → may_be_padded format ≡ true
    → (own_len format rec_len offset block ≡ rec_len) × (own_offset format offset block ≡ offset)
own_plain Fixed rec_len offset block e = (refl, refl)
own_plain Counted rec_len offset block e = (refl, refl)
own_plain Spanned rec_len offset block e = absurd cc
own_plain Undefined rec_len offset block e = absurd cc
own_plain Variable rec_len offset block e = absurd cc

kept_by : (may : Bool) (format : Format) (rec_len offset : ℕ) (block : List ℕ)
    (parts : List Portion) → may_be_padded format ≡ may → Holds format rec_len offset block parts
    → content_in format rec_len offset block ≡ block
kept_by false format rec_len offset block parts e h = rw e refl
kept_by true format rec_len offset block parts e h =
    let own = own_plain format rec_len offset block e in
    let padding = h.0 in
    let body : drop offset block ≡ spellings format parts ++ padding =
    ap (λ (n : ℕ). drop n block) (sym own.1) ∙ h.1.body in
    let units : AllByRecursion (IsUnit format rec_len) parts =
    subst (λ (n : ℕ). AllByRecursion (IsUnit format n) parts) own.0 h.1.units in
    let pad : IsPadding format rec_len padding =
    subst (λ (n : ℕ). IsPadding format n padding) own.0 h.2 in
    let same : parts_of format rec_len (drop offset block) ≡ parts =
    parts_are format rec_len parts (drop offset block) padding units pad body in
    let end : units_end format rec_len offset block ≡ offset + length (spellings format parts) =
    ap (λ (ps : List Portion). offset + length (spellings format ps)) same in
    let rest : drop (units_end format rec_len offset block) block ≡ padding =
    ap (λ (n : ℕ). drop n block) (end ∙ omega arith)
    ∙ sym (drop-drop (length (spellings format parts)) offset block)
    ∙ ap (drop (length (spellings format parts))) body
    ∙ drop_at (spellings format parts) padding (length (spellings format parts)) refl in
    kept_if (may_be_padded format) _ _ _ _ _
    (ap is_foreign rest ∙ padding_plain format rec_len padding pad)

pub content_kept : (format : Format) (rec_len offset : ℕ) (begun end : Bool) (block : List ℕ)
    → (format ≡ Fixed → 1 ≤ rec_len) → judged format rec_len offset begun block ≡ Ok end
    → content_in format rec_len offset block ≡ block
content_kept format rec_len offset begun end block some is =
    let passes = judged_found format rec_len offset begun end block some is in
    kept_by (may_be_padded format) format rec_len offset block passes.0 refl passes.1

-- ---- where the units end

pub ended : (format : Format) (rec_len offset : ℕ) (block : List ℕ) (ps : List Portion)
    (place : ℕ) → (format ≡ Fixed → 1 ≤ rec_len) → place ≤ length block
    → BeginsWith format rec_len offset block ps (drop place block)
    → parts_of format rec_len (drop place block) ≡ []
    → place ≡ units_end format rec_len offset block
ended format rec_len offset block ps place some le b none =
    let same : parts_of format rec_len (drop offset block) ≡ ps =
    parts_front format rec_len ps (drop offset block) (drop place block) some b.units b.body
    ∙ ap (λ (qs : List Portion). ps ++ qs) none ∙ append-nil ps in
    let end : offset + length (spellings format ps) ≡ units_end format rec_len offset block =
    ap (λ (qs : List Portion). offset + length (spellings format qs)) (sym same) in
    omega (
      arith,
      ap length b.body,
      length-append (spellings format ps) (drop place block),
      length-drop offset block,
      length-drop place block,
      b.reaches,
    ) ∙ end
