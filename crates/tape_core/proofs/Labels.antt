-- A block that is not a label by its length is not one in any code.
use Rattle.std.proofs.Common.{◌≡◌, ◌≢◌, ℕ, ◌≤◌, List, length, ◌==◌, Bool, cond, false, true, Some}
use Rattle.std.proofs.Common.{None, refl, arith, ap, sym, subst, ◌∙◌, map, drop, take, nat_le, ◌<◌}
use Rattle.std.proofs.Common.{◌-◌, length-drop}
use Rattle.std.specs.Prelude.{◌||◌}
use lib.Seq.{take_all}
use Rattle.std.proofs.lemmas.{Bool.Decides.nat_tests, List.length-map, List.length-take-le}
use Rattle.tape_label.specs.{Kinds.kind_at, VolumeLabels.is_volume_label}
use Rattle.tape_label.specs.declared.values.Kind.TheVariants as kinds
use Rattle.tape_label.specs.WideHead2.{is_further_header}
use Rattle.tape_core.specs.declared.normal.code.Code.{Code}
use Rattle.tape_core.specs.declared.normal.numbers.FileSeen.{FileSeen}
use Rattle.tape_core.specs.declared.normal.code.Code.TheVariants.{Ascii, Ebcdic, PaddedAscii}
use Rattle.tape_core.specs.declared.normal.code.Code.TheVariants.{PaddedEbcdic}
use Rattle.tape_core.specs.NormalForm.Codes.{in_ascii, is_label_length, turned, unpadded, to_ascii}
use Rattle.tape_core.specs.NormalForm.Codes.{is_padding}
use Rattle.tape_core.specs.NormalForm.{begins_tape, code_of, seems_label, Mended.lost}
use Rattle.tape_core.specs.NormalForm.Steps.{second_at, trailer_at, next_at, other_at, headers_at}
use Rattle.tape_core.specs.NormalForm.Steps.{trailers_at, left_at, same}
use Rattle.tape_core.specs.declared.normal.machine.{TapePlace.TapePlace}
use Rattle.tape_core.specs.declared.normal.machine.TapePlace.TheVariants.{Headers, Data, Trailers}

pub not_80 : (t : List ℕ) → length t ≢ 80 → (length t == 80) ≡ false
not_80 t n = grind (arith, n)

pub no_kind : (t : List ℕ) → length t ≢ 80 → kind_at t ≡ None
unfolding kind_at
no_kind t n = rw (not_80 t n) refl

pub no_volume_label : (t : List ℕ) → length t ≢ 80 → is_volume_label t ≡ false
unfolding is_volume_label
no_volume_label t n = rw (not_80 t n) refl

pub not_further : (t : List ℕ) → length t ≢ 80 → is_further_header t ≡ false
not_further t n = rw (not_80 t n) refl

pub no_label : (t : List ℕ) → length t ≢ 80 → seems_label t ≡ false
no_label t n = rw (not_80 t n) refl

pub none_next : (t : List ℕ) → length t ≢ 80 → (is_further_header t || seems_label t) ≡ false
none_next t n = rw (no_label t n, not_further t n) refl

-- such a block is not the label expected there
pub second_other : (code : Code) (seen : FileSeen) (t : List ℕ) → length t ≢ 80
    → second_at code seen t ≡ other_at code seen t
second_other code seen t n = rw (no_kind t n, not_further t n) refl

pub next_other : (code : Code) (before : FileSeen) (t : List ℕ) → length t ≢ 80
    → next_at code before t ≡ other_at code before t
next_other code before t n = rw (no_kind t n) refl

-- no label, so data, if labels are looked for
pub other_data : (code : Code) (seen : FileSeen) (t : List ℕ) → length t ≢ 80
    → other_at code seen t ≡ (left_at code (Data code (lost seen)), same)
other_data Ascii seen t n = refl
other_data code seen t n = rw (no_kind t n) refl

pub second_data : (code : Code) (seen : FileSeen) (t : List ℕ) → length t ≢ 80
    → second_at code seen t ≡ (left_at code (Data code (lost seen)), same)
second_data code seen t n = second_other code seen t n ∙ other_data code seen t n

pub trailer_data : (code : Code) (seen : FileSeen) (t : List ℕ) → length t ≢ 80
    → trailer_at code seen t ≡ (left_at code (Data code (lost seen)), same)
trailer_data Ascii seen t n = rw (no_kind t n) refl
trailer_data code seen t n = rw (no_kind t n) refl

pub next_data : (code : Code) (seen : FileSeen) (t : List ℕ) → length t ≢ 80
    → next_at code seen t ≡ (left_at code (Data code (lost seen)), same)
next_data Ascii seen t n = rw (no_kind t n) refl
next_data code seen t n = rw (no_kind t n) refl

-- where a further header label may be, such a block is one only in ASCII
abbrev pub behind_header : Code → FileSeen → TapePlace
behind_header Ascii seen = Headers Ascii seen
behind_header code seen = Data code (lost seen)

pub headers_data : (code : Code) (seen : FileSeen) (t : List ℕ) → length t ≢ 80
    → headers_at code seen t ≡ (behind_header code seen, same)
headers_data Ascii seen t n = rw (not_80 t n) refl
headers_data code seen t n = rw (no_label t n, no_kind t n, not_further t n) refl

pub trailers_same : (code : Code) (seen : FileSeen) (t : List ℕ) → length t ≢ 80
    → trailers_at code seen t ≡ (Trailers code seen, same)
trailers_same Ascii seen t n = rw (not_80 t n) refl
trailers_same code seen t n = rw (no_kind t n, not_80 t n) refl

-- ---- blocks whose length is not that of a label

pub other_length : (b : List ℕ) → is_label_length (length b) ≡ false → length b ≢ 80
other_length b n e = absurd (cc (n, ap is_label_length e))

turned_same : (b : List ℕ) → length b ≢ 80 → turned b ≡ b
turned_same b n = rw (not_80 b n) refl

-- the same of the characters of a label in EBCDIC
pub turned_none : (b : List ℕ) → length b ≢ 80 → length (turned b) ≢ 80
turned_none b n e = n (ap length (sym (turned_same b n)) ∙ e)

unpadded_same : (b : List ℕ) → is_label_length (length b) ≡ false → unpadded b ≡ b
unpadded_same b n = rw (n) refl

-- what follows the 80 characters, by its length
pub padding_is : (b : List ℕ) (t : Bool) → is_padding (take (length b - 80) (drop 80 b)) ≡ t
    → is_padding (drop 80 b) ≡ t
padding_is b t e =
    let all : take (length b - 80) (drop 80 b) ≡ drop 80 b =
    take_all (length b - 80) (drop 80 b) (omega (arith, length-drop 80 b)) in
    ap is_padding (sym all) ∙ e

-- a label without its padding
pub unpadded_is : (b : List ℕ) → 80 ≤ length b → length b ≤ 120 → is_padding (drop 80 b) ≡ true
    → unpadded b ≡ take 80 b
unpadded_is b h k e =
    let f : is_label_length (length b) ≡ true = rw (is_most 80 (length b) h, is_most (length b) 120 k) refl in
    rw (f, e) refl
  where
    is_most : (m n : ℕ) → m ≤ n → nat_le m n ≡ true
    is_most m n h = grind (arith, nat_tests)

pub unpadded_short : (b : List ℕ) → length b < 80 → unpadded b ≡ b
unpadded_short b h =
    let f : nat_le 80 (length b) ≡ false = grind (arith, nat_tests) in
    unpadded_same b (rw (f) refl)

pub unpadded_long : (b : List ℕ) → 120 < length b → unpadded b ≡ b
unpadded_long b h = go (nat_le 80 (length b)) refl
  where
    none : nat_le (length b) 120 ≡ false
    none = grind (arith, nat_tests)

    go : (t : Bool) → nat_le 80 (length b) ≡ t → unpadded b ≡ b
    go true f = unpadded_same b (rw (f, none) refl)
    go false f = unpadded_same b (rw (f) refl)

pub unpadded_other : (b : List ℕ) → is_padding (drop 80 b) ≡ false → unpadded b ≡ b
unpadded_other b e = go (is_label_length (length b)) refl
  where
    go : (t : Bool) → is_label_length (length b) ≡ t → unpadded b ≡ b
    go true f = rw (f, e) refl
    go false f = unpadded_same b f

-- such a block stays as it is
pub same_of : (code : Code) (b : List ℕ) → is_label_length (length b) ≡ false → in_ascii code b ≡ b
same_of Ascii b n = refl
same_of Ebcdic b n = turned_same b (other_length b n)
same_of PaddedAscii b n = unpadded_same b n
same_of PaddedEbcdic b n =
    ap turned (unpadded_same b n) ∙ turned_same b (other_length b n)

pub other_text : (code : Code) (b : List ℕ) → is_label_length (length b) ≡ false
    → length (in_ascii code b) ≢ 80
other_text code b n e = other_length b n (ap length (sym (same_of code b n)) ∙ e)

no_begin : (code : Code) (b : List ℕ) → is_label_length (length b) ≡ false
    → begins_tape code b ≡ false
no_begin code b n = rw (no_kind (in_ascii code b) (other_text code b n)) refl

-- it begins a tape in no code
pub no_code : (b : List ℕ) → is_label_length (length b) ≡ false → code_of b ≡ None
no_code b n =
    rw (
      no_begin Ascii b n,
      no_begin Ebcdic b n,
      no_begin PaddedAscii b n,
      no_begin PaddedEbcdic b n,
    ) refl

-- ---- the characters of a label

turned_size : (b : List ℕ) → length (turned b) ≡ length b
turned_size b = go (length b == 80)
  where
    go : (t : Bool) → length (cond t (map to_ascii b) b) ≡ length b
    go true = length-map b to_ascii
    go false = refl

-- a block that is not a label stays as it is
turned_plain : (b : List ℕ) → (length (turned b) == 80) ≡ false → turned b ≡ b
turned_plain b e =
    let n : (length b == 80) ≡ false = ap (λ v. v == 80) (sym (turned_size b)) ∙ e in
    rw (n) refl

unpadded_plain : (b : List ℕ) → (length (unpadded b) == 80) ≡ false → unpadded b ≡ b
unpadded_plain b e = go (is_label_length (length b)) (is_padding (drop 80 b)) refl refl
  where
    go : (t u : Bool) → is_label_length (length b) ≡ t → is_padding (drop 80 b) ≡ u
        → unpadded b ≡ b
    go true true f g =
        let long : 80 ≤ length b = grind (arith, nat_tests) in
        let size : length (unpadded b) ≡ 80 = rw (f, g) (length-take-le 80 b long) in
        absurd (grind (arith, nat_tests))
    go true false f g = rw (f, g) refl
    go false u f g = rw (f) refl

pub plain_text : (code : Code) (b : List ℕ) → (length (in_ascii code b) == 80) ≡ false
    → in_ascii code b ≡ b
plain_text Ascii b e = refl
plain_text Ebcdic b e = turned_plain b e
plain_text PaddedAscii b e = unpadded_plain b e
plain_text PaddedEbcdic b e =
    let same : turned (unpadded b) ≡ unpadded b = turned_plain (unpadded b) e in
    same ∙ unpadded_plain b (ap (λ v. length v == 80) (sym same) ∙ e)

-- ---- the code of a tape

begins_80 : (code : Code) (b : List ℕ) (t : Bool) → (length (in_ascii code b) == 80) ≡ t
    → begins_tape code b ≡ true → length (in_ascii code b) ≡ 80
begins_80 code b true e f = grind (arith, nat_tests)
begins_80 code b false e f =
    let n : length (in_ascii code b) ≢ 80 = grind (arith, nat_tests) in
    let none : begins_tape code b ≡ false = rw (no_kind (in_ascii code b) n) refl in
    absurd (cc (f, none))

code_found : (b : List ℕ) (code : Code) → code_of b ≡ Some code → begins_tape code b ≡ true
code_found b code e =
    go (begins_tape Ascii b) (begins_tape Ebcdic b) (begins_tape PaddedAscii b)
    (begins_tape PaddedEbcdic b) refl refl refl refl e
  where
    told : (c : Code) → begins_tape c b ≡ true → Some c ≡ Some code → begins_tape code b ≡ true
    told c f g = let same : c ≡ code = cc g in subst (λ v. begins_tape v b ≡ true) same f

    go : (p q r s : Bool) → begins_tape Ascii b ≡ p → begins_tape Ebcdic b ≡ q
        → begins_tape PaddedAscii b ≡ r → begins_tape PaddedEbcdic b ≡ s
        → cond p (Some Ascii) (cond q (Some Ebcdic) (cond r (Some PaddedAscii)
        (cond s (Some PaddedEbcdic) None))) ≡ Some code → begins_tape code b ≡ true
    go true q r s h i j k f = told Ascii h f
    go false true r s h i j k f = told Ebcdic i f
    go false false true s h i j k f = told PaddedAscii j f
    go false false false true h i j k f = told PaddedEbcdic k f
    go false false false false h i j k f = absurd (cc f)

-- a volume label in ASCII
pub code_vol1 : (b : List ℕ) → kind_at b ≡ Some kinds.Vol1 → code_of b ≡ Some Ascii
code_vol1 b e = rw (e) refl

-- a label with which a tape begins has 80 characters
pub code_80 : (b : List ℕ) (code : Code) → code_of b ≡ Some code → length (in_ascii code b) ≡ 80
code_80 b code e = begins_80 code b _ refl (code_found b code e)
