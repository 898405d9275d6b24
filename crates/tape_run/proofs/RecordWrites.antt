-- A record is written in four pieces: what precedes it, its two parts, and its terminator.
use Rattle.std.proofs.Common.{◌≡◌, ℕ, ◌+◌, List, ◌++◌, Option, sym, ap, subst, ◌∙◌, append_assoc}
use Rattle.std.proofs.Common.{length, length-append}
use Rattle.std.specs.Io.KnownBytes.{Appends}
use Rattle.tape_blocks.specs.{Block.Portion, declared.parts.Form.Form}
use Rattle.tape_core.specs.declared.sink.SinkFault.{SinkFault}
use Rattle.tape_image.specs.Written.{AppendsFront}
use Rattle.tape_image.proofs.Pieces.{front_more, front_behind}
use Rattle.tape_run.specs.Causes.{RecordFails, WritingFails}
use Rattle.tape_run.specs.declared.fault.{EngineFault.EngineFault, RunFault.RunFault}
use Rattle.tape_run.specs.declared.fault.EngineFault.TheVariants.{Run, WriteFailed}
use Rattle.tape_run.specs.RecordText.{record_end, record_head, record_text}

abbrev pieces : Form → ℕ → List ℕ → List ℕ → List ℕ
pieces form n front last = record_head form n ++ (front ++ (last ++ record_end form))

same : (form : Form) (n : ℕ) (front last : List ℕ) → n ≡ length front + length last
    → pieces form n front last ≡ record_text form (front ++ last)
same form n front last e =
    ap (λ n. pieces form n front last) (e ∙ sym (length-append front last))
    ∙ ap (λ t. record_head form (length (front ++ last)) ++ t)
    (sym (append_assoc front last (record_end form)))

pub head_failed : (form : Form) (n : ℕ) (front last : List ℕ) (a b : Option (List ℕ))
    → n ≡ length front + length last → AppendsFront a b (record_head form n)
    → AppendsFront a b (record_text form (front ++ last))
head_failed form n front last a b e failed =
    subst (AppendsFront a b) (same form n front last e) (front_more a b _ _ failed)

pub front_failed : (form : Form) (n : ℕ) (front last : List ℕ) (a b c : Option (List ℕ))
    → n ≡ length front + length last → Appends a b (record_head form n) → AppendsFront b c front
    → AppendsFront a c (record_text form (front ++ last))
front_failed form n front last a b c e head failed =
    subst (AppendsFront a c) (same form n front last e)
    (front_behind a b c _ _ head (front_more b c _ _ failed))

pub last_failed : (form : Form) (n : ℕ) (front last : List ℕ) (a b c d : Option (List ℕ))
    → n ≡ length front + length last → Appends a b (record_head form n) → Appends b c front
    → AppendsFront c d last → AppendsFront a d (record_text form (front ++ last))
last_failed form n front last a b c d e head first failed =
    subst (AppendsFront a d) (same form n front last e)
    (front_behind a b d _ _ head (front_behind b c d _ _ first (front_more c d _ _ failed)))

pub end_failed : (form : Form) (n : ℕ) (front last end : List ℕ) (a b c d f : Option (List ℕ))
    → n ≡ length front + length last → Appends a b (record_head form n) → Appends b c front
    → Appends c d last → end ≡ record_end form → AppendsFront d f end
    → AppendsFront a f (record_text form (front ++ last))
end_failed form n front last end a b c d f e head first second is failed =
    subst (AppendsFront a f) (same form n front last e)
    (front_behind a b f _ _ head (front_behind b c f _ _ first
    (front_behind c d f _ _ second (subst (AppendsFront d f) is failed))))

-- a record of a sink was not written
pub record_fails : {S : Type 0} (form : Form) (stays : Type 0) (holds : S → List Portion → Type 0)
    (refusals : S → ℕ) (refuses : S → SinkFault → S → Type 0) (old new : S) (fault : EngineFault)
    → RecordFails form stays fault → refusals new ≡ refusals old
    → WritingFails form holds refusals refuses old new fault
record_fails form stays holds refusals refuses old new (Run cause) (is, counted, stay) calm =
    subst (λ (c : RunFault). WritingFails form holds refusals refuses old new (Run c)) (sym is)
    (counted, calm)
record_fails form stays holds refusals refuses old new WriteFailed fails calm = calm
