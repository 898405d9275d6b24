-- A sink that writes parts as they come: one more part, a part that could not be written, a cut to
-- all parts.
use Rattle.std.proofs.Common.{◌≡◌, ℕ, ◌+◌, Bool, true, false, List, [], ◌∷◌, ◌++◌, length, Option}
use Rattle.std.proofs.Common.{Some, None, refl, sym, ap, subst, ◌∙◌, arith, append_assoc}
use Rattle.std.proofs.Common.{append-nil, length-append, if◌then◌else◌, is_some}
use Rattle.std.specs.Io.KnownBytes.{Appends}
use Rattle.tape_blocks.specs.{Block.Portion, declared.parts.Form.Form}
use Rattle.tape_blocks.specs.Spans.{leaves, join, content_after, Joined}
use Rattle.tape_blocks.proofs.JoinLaws.{join_ends, join_goes_on}
use Rattle.tape_core.specs.Stands.{weight_of}
use Rattle.tape_image.proofs.WrittenItems.{known_after}
use Rattle.tape_core.proofs.Weights.{weight_of-one_more, front_of_all}
use Rattle.tape_run.specs.RecordText.{record_text, records_text, part_text, sent_of, held_of}
use Rattle.tape_run.specs.RecordText.{rest_after}
use Rattle.tape_run.specs.OutSinks.{text_so_far, with_end, TellsAlways, HasTaken}
use Rattle.tape_run.proofs.RecordTexts.{records_text-append, text_by, text_is, text_after, adds}

-- a joined list of parts, and its text that is written
abbrev pub text_of : Form → Joined → List ℕ
text_of form j = records_text form j.records ++ sent_of j.rest form

-- One more part: the joined records, how many of them ended, and the unfinished one.
pub record Grows (form : Form) (old new : Joined) (p : Portion) : Type 0 where
  pub text : text_of form new ≡ text_of form old ++ part_text form old.rest p
  pub count : length new.records ≡ with_end (leaves p.span) (length old.records)
  pub begins : is_some new.rest ≡ leaves p.span
  pub rest : new.rest ≡ rest_after old.rest p

grown : (form : Form) (records : List (List ℕ)) (front : Option (List ℕ)) (p : Portion) (b : Bool)
    → leaves p.span ≡ b
    → records_text form records ++ text_after form (content_after front p.bytes) b
    ≡ text_of form (record { records = records; rest = front }) ++ part_text form front p
grown form records front p b e =
    ap (λ t. records_text form records ++ t) (sym (adds form front p.bytes b)
    ∙ ap (λ c. sent_of front form ++ text_by form front p.bytes c) (sym e)
    ∙ ap (λ t. sent_of front form ++ t) (sym (text_is form front p)))
    ∙ sym (append_assoc (records_text form records) (sent_of front form) (part_text form front p))

ended_text : (form : Form) (records : List (List ℕ)) (content : List ℕ)
    → text_of form (record { records = records ++ content ∷ []; rest = None })
    ≡ records_text form records ++ record_text form content
ended_text form records content =
    append-nil (records_text form (records ++ content ∷ []))
    ∙ records_text-append form records (content ∷ [])
    ∙ ap (λ t. records_text form records ++ t) (append-nil (record_text form content))

grows_by : (form : Form) (ps : List Portion) (p : Portion) (b : Bool) → leaves p.span ≡ b
    → Grows form (join ps) (join (ps ++ p ∷ [])) p
grows_by form ps p true goes =
    let is = join_goes_on ps p (join ps).records (join ps).rest refl goes in
    record {
      text = ap (text_of form) is ∙ grown form (join ps).records (join ps).rest p true goes;
      count = ap (λ (j : Joined). length j.records) is
          ∙ ap (λ b. with_end b (length (join ps).records)) (sym goes);
      begins = ap (λ (j : Joined). is_some j.rest) is ∙ sym goes;
      rest = ap (λ (j : Joined). j.rest) is ∙ ap (λ (b : Bool). if b then
          Some (content_after (join ps).rest p.bytes) else None) (sym goes);
    }
grows_by form ps p false ends =
    let is = join_ends ps p (join ps).records (join ps).rest refl ends in
    let one = length-append (join ps).records (content_after (join ps).rest p.bytes ∷ []) in
    record {
      text = ap (text_of form) is
          ∙ ended_text form (join ps).records (content_after (join ps).rest p.bytes)
          ∙ grown form (join ps).records (join ps).rest p false ends;
      count = ap (λ (j : Joined). length j.records) is ∙ one
          ∙ ap (λ b. with_end b (length (join ps).records)) (sym ends);
      begins = ap (λ (j : Joined). is_some j.rest) is ∙ sym ends;
      rest = ap (λ (j : Joined). j.rest) is ∙ ap (λ (b : Bool). if b then
          Some (content_after (join ps).rest p.bytes) else None) (sym ends);
    }

-- One more part extends the text by the text of that part.
pub grows : (form : Form) (ps : List Portion) (p : Portion)
    → Grows form (join ps) (join (ps ++ p ∷ [])) p
grows form ps p = grows_by form ps p (leaves p.span) refl

-- ---- calls

pub put_done : {W : Type 0} (contents : W → Option (List ℕ)) (form : Form) (out new : W)
    (held holds : List ℕ) (weight heavier records more : ℕ) (begun begins : Bool)
    (parts : List Portion) (p : Portion)
    → ((front : Option (List ℕ)) → held ≡ held_of front form
    → Appends (contents out) (contents new) (part_text form front p))
    → ((front : Option (List ℕ)) → held ≡ held_of front form
    → holds ≡ held_of (rest_after front p) form)
    → heavier ≡ weight + (5 + length p.bytes) → more ≡ with_end (leaves p.span) records
    → begins ≡ leaves p.span
    → HasTaken contents form (Some out) held weight records begun parts
    → HasTaken contents form (Some new) holds heavier more begins (parts ++ p ∷ [])
put_done contents form out new held holds weight heavier records more begun begins parts p wrote
    keeps heavy counts is h =
    let front = (join parts).rest in
    let g = grows form parts p in
    let all = weight_of-one_more parts (parts ++ p ∷ []) p refl in
    let known = λ (tells : TellsAlways contents). known_after (contents out) (contents new)
    (text_so_far form parts) (part_text form front p) (h.text tells) (wrote front h.waits) in
    record {
      weighs = heavy ∙ ap (λ n. n + (5 + length p.bytes)) h.weighs ∙ sym all;
      counted = counts ∙ ap (with_end (leaves p.span)) h.counted ∙ sym g.count;
      begins = is ∙ sym g.begins;
      text = λ tells. known tells ∙ ap Some (sym g.text);
      waits = keeps front h.waits ∙ ap (λ rest. held_of rest form) (sym g.rest);
    }

-- the writer and the bytes that are held back are the same
pub put_refused : {W : Type 0} (contents : W → Option (List ℕ)) (form : Form) (out new : W)
    (held holds : List ℕ) (weight records : ℕ) (begun : Bool) (parts : List Portion)
    → new ≡ out → holds ≡ held
    → HasTaken contents form (Some out) held weight records begun parts
    → HasTaken contents form (Some new) holds weight records begun parts
put_refused contents form out new held holds weight records begun parts same keeps h =
    rw (same, keeps) h

-- a prefix of the parts that weighs as much as all of them is the whole list
pub all_kept : {W : Type 0} (contents : W → Option (List ℕ)) (form : Form) (out : Option W)
    (held : List ℕ) (weight records : ℕ) (begun : Bool) (front rest : List Portion)
    → weight_of front ≡ weight
    → HasTaken contents form out held weight records begun (front ++ rest)
    → HasTaken contents form out held weight records begun front
all_kept contents form out held weight records begun front rest e h =
    let same : front ++ rest ≡ front = front_of_all front (front ++ rest) (rest, refl)
    (omega (arith, e, h.weighs)) in
    subst (HasTaken contents form out held weight records begun) same h
