-- The text of records, part by part.
use Rattle.std.proofs.Common.{◌≡◌, ℕ, Bool, true, false, List, [], ◌∷◌, ◌++◌, Option, Some, None}
use Rattle.std.proofs.Common.{refl, sym, ap, ◌∙◌, append-nil, append_assoc, if◌then◌else◌, length}
use Rattle.tape_blocks.specs.{Block.Portion, CountedForm.counted_text, CountedForm.length_bytes}
use Rattle.tape_blocks.specs.Spans.{leaves, content_after, join}
use Rattle.tape_blocks.proofs.CountedLaws.{counted_keeps}
use Rattle.tape_blocks.specs.declared.parts.Form.{Form}
use Rattle.tape_blocks.specs.declared.parts.Form.TheVariants.{Lines, Raw, Counted}
use Rattle.tape_run.specs.RecordText.{record_end, record_text, records_text, output_of, part_text}
use Rattle.tape_run.specs.RecordText.{sent_of, held_of, rest_after}

pub records_text-append : (form : Form) (xs ys : List (List ℕ))
    → records_text form (xs ++ ys) ≡ records_text form xs ++ records_text form ys
records_text-append form [] ys = refl
records_text-append form (x ∷ xs) ys =
    ap (λ t. record_text form x ++ t) (records_text-append form xs ys)
    ∙ sym (append_assoc (record_text form x) (records_text form xs) (records_text form ys))

-- ---- one more part

-- the text of a part, from whether it leaves its record unfinished
abbrev pub text_by : Form → Option (List ℕ) → List ℕ → Bool → List ℕ
text_by Lines begun bytes b = bytes ++ (if b then [] else record_end Lines)
text_by Raw begun bytes b = bytes ++ (if b then [] else record_end Raw)
text_by Counted begun bytes b = if b then [] else record_text Counted (content_after begun bytes)

pub text_is : (form : Form) (begun : Option (List ℕ)) (p : Portion)
    → part_text form begun p ≡ text_by form begun p.bytes (leaves p.span)
text_is Lines begun p = refl
text_is Raw begun p = refl
text_is Counted begun p = refl

-- the text of a record after one more part
abbrev pub text_after : Form → List ℕ → Bool → List ℕ
text_after form content b = if b then sent_of (Some content) form else record_text form content

pub adds : (form : Form) (begun : Option (List ℕ)) (bytes : List ℕ) (b : Bool)
    → sent_of begun form ++ text_by form begun bytes b
    ≡ text_after form (content_after begun bytes) b
adds Lines None bytes true = append-nil bytes
adds Lines None bytes false = refl
adds Lines (Some front) bytes true = ap (λ t. front ++ t) (append-nil bytes)
adds Lines (Some front) bytes false = sym (append_assoc front bytes (record_end Lines))
adds Raw None bytes true = append-nil bytes
adds Raw None bytes false = refl
adds Raw (Some front) bytes true = ap (λ t. front ++ t) (append-nil bytes)
adds Raw (Some front) bytes false = sym (append_assoc front bytes [])
adds Counted None bytes true = refl
adds Counted None bytes false = refl
adds Counted (Some front) bytes true = refl
adds Counted (Some front) bytes false = refl

-- ---- what is held back

-- the bytes that are held back, and the last ones, are the text of a part that ends its record
ends_with : (form : Form) (begun : Option (List ℕ)) (bytes : List ℕ)
    → record_text form (held_of begun form ++ bytes) ≡ text_by form begun bytes false
ends_with Lines None bytes = refl
ends_with Lines (Some front) bytes = refl
ends_with Raw None bytes = refl
ends_with Raw (Some front) bytes = refl
ends_with Counted None bytes = refl
ends_with Counted (Some front) bytes = refl

pub ending_text : (form : Form) (begun : Option (List ℕ)) (p : Portion) (held : List ℕ)
    → leaves p.span ≡ false → held ≡ held_of begun form
    → record_text form (held ++ p.bytes) ≡ part_text form begun p
ending_text form begun p held e is =
    ap (λ h. record_text form (h ++ p.bytes)) is ∙ ends_with form begun p.bytes
    ∙ ap (text_by form begun p.bytes) (sym e) ∙ sym (text_is form begun p)

pub ended_rest : (form : Form) (begun : Option (List ℕ)) (p : Portion) → leaves p.span ≡ false
    → [] ≡ held_of (rest_after begun p) form
ended_rest form begun p e =
    ap (λ (b : Bool). held_of (if b then Some (content_after begun p.bytes) else None) form) (sym e)

-- a part that leaves its record unfinished
pub lines_text : (begun : Option (List ℕ)) (p : Portion) → leaves p.span ≡ true
    → p.bytes ≡ part_text Lines begun p
lines_text begun p e = sym (append-nil p.bytes)
    ∙ ap (λ (b : Bool). p.bytes ++ (if b then [] else record_end Lines)) (sym e)

pub raw_text : (begun : Option (List ℕ)) (p : Portion) → leaves p.span ≡ true
    → p.bytes ≡ part_text Raw begun p
raw_text begun p e = sym (append-nil p.bytes)
    ∙ ap (λ (b : Bool). p.bytes ++ (if b then [] else record_end Raw)) (sym e)

pub counted_none : (begun : Option (List ℕ)) (p : Portion) → leaves p.span ≡ true
    → [] ≡ part_text Counted begun p
counted_none begun p e = ap (text_by Counted begun p.bytes) (sym e)

lines_by : (begun : Option (List ℕ)) → held_of begun Lines ≡ []
lines_by None = refl
lines_by (Some front) = refl

raw_by : (begun : Option (List ℕ)) → held_of begun Raw ≡ []
raw_by None = refl
raw_by (Some front) = refl

-- in these forms nothing is held back
pub lines_rest : (begun next : Option (List ℕ)) → held_of begun Lines ≡ held_of next Lines
lines_rest begun next = lines_by begun ∙ sym (lines_by next)

pub raw_rest : (begun next : Option (List ℕ)) → held_of begun Raw ≡ held_of next Raw
raw_rest begun next = raw_by begun ∙ sym (raw_by next)

counted_by : (begun : Option (List ℕ)) (bytes : List ℕ)
    → held_of begun Counted ++ bytes ≡ content_after begun bytes
counted_by None bytes = refl
counted_by (Some front) bytes = refl

pub counted_rest : (begun : Option (List ℕ)) (p : Portion) → leaves p.span ≡ true
    → held_of begun Counted ++ p.bytes ≡ held_of (rest_after begun p) Counted
counted_rest begun p e = counted_by begun p.bytes
    ∙ ap (λ (b : Bool). held_of (if b then Some (content_after begun p.bytes) else None) Counted)
    (sym e)

-- ---- the counted form determines its records

is_counted : (rs : List (List ℕ)) → records_text Counted rs ≡ counted_text rs
is_counted [] = refl
is_counted (r ∷ rs) =
    ap (λ t. length_bytes (length r) ++ (t ++ records_text Counted rs)) (append-nil r)
    ∙ ap (λ t. length_bytes (length r) ++ (r ++ t)) (is_counted rs)

pub keeps_records : (ps qs : List Portion) → output_of Counted ps ≡ output_of Counted qs
    → (join ps).records ≡ (join qs).records
keeps_records ps qs e = counted_keeps (join ps).records (join qs).records
    (sym (is_counted (join ps).records) ∙ e ∙ is_counted (join qs).records)
