-- A part is written: one that ends its record, and one that leaves it unfinished, which is held
-- back in the counted form.
use Rattle.std.proofs.Common.{◌≡◌, ◌≢◌, ℕ, Bool, true, false, List, [], ◌++◌, Option, refl, sym}
use Rattle.std.proofs.Common.{ap, subst, ◌∙◌, Result, OnErr}
use Rattle.std.specs.Io.KnownBytes.{Appends}
use Rattle.std.proofs.KnownBytes.{Appends-nil}
use Rattle.tape_blocks.specs.{Block.Portion, Parts.view, Spans.leaves}
use Rattle.tape_blocks.specs.declared.parts.{Form.Form, Part.Part}
use Rattle.tape_blocks.specs.declared.parts.Form.TheVariants.{Lines, Raw, Counted}
use Rattle.tape_image.specs.Written.{AppendsFront}
use Rattle.tape_image.proofs.Pieces.{on_err}
use Rattle.tape_run.specs.RecordText.{record_text, part_text, held_of, rest_after}
use Rattle.tape_run.proofs.Fitting.{no_text}
use Rattle.tape_run.proofs.RecordTexts.{ending_text, ended_rest, lines_text, raw_text}
use Rattle.tape_run.proofs.RecordTexts.{counted_none, lines_rest, raw_rest, counted_rest}

-- ---- a part that ends its record

pub ends_ok : (form : Form) (part : Part) (held : List ℕ) (old new : Option (List ℕ))
    → leaves part.span ≡ false → Appends old new (record_text form (held ++ part.bytes.now))
    → (begun : Option (List ℕ)) → held ≡ held_of begun form
    → Appends old new (part_text form begun (view part))
ends_ok form part held old new e wrote begun is =
    subst (Appends old new) (ending_text form begun (view part) held e is) wrote

pub ends_rest : (form : Form) (part : Part) (held holds : List ℕ) → leaves part.span ≡ false
    → holds ≡ [] → (begun : Option (List ℕ)) → held ≡ held_of begun form
    → holds ≡ held_of (rest_after begun (view part)) form
ends_rest form part held holds e none begun is = none ∙ ended_rest form begun (view part) e

pub ends_err : {A E : Type 0} (result : Result A E) (form : Form) (part : Part) (held : List ℕ)
    (old new : Option (List ℕ)) → leaves part.span ≡ false
    → AppendsFront old new (record_text form (held ++ part.bytes.now))
    → OnErr result ((begun : Option (List ℕ)) → held ≡ held_of begun form
    → AppendsFront old new (part_text form begun (view part)))
ends_err result form part held old new e wrote = on_err result _ (λ begun is.
    subst (AppendsFront old new) (ending_text form begun (view part) held e is) wrote)

-- ---- a part that leaves its record unfinished

bytes_are : (form : Form) (begun : Option (List ℕ)) (p : Portion) → form ≢ Counted
    → leaves p.span ≡ true → p.bytes ≡ part_text form begun p
bytes_are Lines begun p other e = lines_text begun p e
bytes_are Raw begun p other e = raw_text begun p e
bytes_are Counted begun p other e = absurd (other refl)

rest_is : (form : Form) (begun next : Option (List ℕ)) → form ≢ Counted
    → held_of begun form ≡ held_of next form
rest_is Lines begun next other = lines_rest begun next
rest_is Raw begun next other = raw_rest begun next
rest_is Counted begun next other = absurd (other refl)

pub sent_ok : (form : Form) (part : Part) (held : List ℕ) (old new : Option (List ℕ))
    → form ≢ Counted → leaves part.span ≡ true → Appends old new part.bytes.now
    → (begun : Option (List ℕ)) → held ≡ held_of begun form
    → Appends old new (part_text form begun (view part))
sent_ok form part held old new other e wrote begun is =
    subst (Appends old new) (bytes_are form begun (view part) other e) wrote

pub sent_rest : (form : Form) (part : Part) (held holds : List ℕ) → form ≢ Counted → holds ≡ held
    → (begun : Option (List ℕ)) → held ≡ held_of begun form
    → holds ≡ held_of (rest_after begun (view part)) form
sent_rest form part held holds other same begun is =
    same ∙ is ∙ rest_is form begun (rest_after begun (view part)) other

pub sent_err : {A E : Type 0} (result : Result A E) (form : Form) (part : Part) (held : List ℕ)
    (old new : Option (List ℕ)) → form ≢ Counted → leaves part.span ≡ true
    → AppendsFront old new part.bytes.now
    → OnErr result ((begun : Option (List ℕ)) → held ≡ held_of begun form
    → AppendsFront old new (part_text form begun (view part)))
sent_err result form part held old new other e wrote = on_err result _ (λ begun is.
    subst (AppendsFront old new) (bytes_are form begun (view part) other e) wrote)

-- ---- a part that is held back

pub held_ok : (form : Form) (part : Part) (held : List ℕ) (old : Option (List ℕ))
    → form ≡ Counted → leaves part.span ≡ true
    → (begun : Option (List ℕ)) → held ≡ held_of begun form
    → Appends old old (part_text form begun (view part))
held_ok form part held old counted e begun is = subst (Appends old old)
    (counted_none begun (view part) e ∙ ap (λ f. part_text f begun (view part)) (sym counted))
    (Appends-nil old)

pub held_rest : (form : Form) (part : Part) (held holds : List ℕ) → form ≡ Counted
    → leaves part.span ≡ true → holds ≡ held ++ part.bytes.now
    → (begun : Option (List ℕ)) → held ≡ held_of begun form
    → holds ≡ held_of (rest_after begun (view part)) form
held_rest form part held holds counted e more begun is = more
    ∙ ap (λ h. h ++ part.bytes.now) (is ∙ ap (λ f. held_of begun f) counted)
    ∙ counted_rest begun (view part) e
    ∙ ap (λ f. held_of (rest_after begun (view part)) f) (sym counted)

pub held_err : {A E : Type 0} (result : Result A E) (form : Form) (part : Part) (held : List ℕ)
    (old : Option (List ℕ))
    → OnErr result ((begun : Option (List ℕ)) → held ≡ held_of begun form
    → AppendsFront old old (part_text form begun (view part)))
held_err result form part held old = on_err result _ (λ begun is. no_text old _)
