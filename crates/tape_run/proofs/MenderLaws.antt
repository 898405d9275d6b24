-- One more part of the records that are written as blocks come.
use Rattle.std.proofs.Common.{◌≡◌, ℕ, ◌+◌, Bool, true, false, List, [], ◌∷◌, ◌++◌, Option, Some}
use Rattle.std.proofs.Common.{None, refl, sym, ap, subst, ◌∙◌, append-nil, append_assoc, min, ◌&&◌}
use Rattle.std.proofs.Common.{if◌then◌else◌}
use Rattle.std.specs.Io.KnownBytes.{Appends}
use Rattle.std.proofs.KnownBytes.{Appends-trans}
use Rattle.tape_blocks.specs.{Block.Portion, declared.parts.Form.Form}
use Rattle.tape_blocks.specs.Spans.{Joined, leaves, continues, join, join_after, content_after}
use Rattle.tape_blocks.proofs.JoinLaws.{join_ends, join_goes_on, join-append}
use Rattle.tape_run.specs.RecordText.{record_text, records_text, output_of}
use Rattle.tape_run.specs.SalvageRecords.{Piece, Start, IsPiece, begun_bytes, with_open, with_end}
use Rattle.tape_run.specs.SalvageRecords.{with_part}
use Rattle.tape_run.proofs.RecordTexts.{records_text-append}

content_is : (begun : Option (List ℕ)) (bytes : List ℕ)
    → content_after begun bytes ≡ begun_bytes begun ++ bytes
content_is None bytes = refl
content_is (Some front) bytes = refl

-- a part that leaves its record unfinished
stays_open : (start : Start) (now : Option (List ℕ)) (form : Form)
    (unfinished longer : List ℕ) (records : ℕ) (begun torn : Bool) (p : Piece) (x : Portion)
    → IsPiece start now form unfinished records begun torn p → leaves x.span ≡ true
    → longer ≡ unfinished ++ x.bytes
    → IsPiece start now form longer records true false (with_open p x)
stays_open start now form unfinished longer records begun torn p x h goes is =
    let joined = join_goes_on p.front x (join p.front).records (join p.front).rest refl goes in
    record {
      forms = h.forms;
      written = h.written;
      whole = h.whole;
      buffered = is ∙ ap (λ t. t ++ x.bytes) h.buffered
          ∙ sym (content_is (join p.front).rest x.bytes)
          ∙ ap (λ (j : Joined). begun_bytes j.rest) (sym joined);
      no_record = ap (λ (j : Joined). j.records) joined ∙ h.no_record;
      counts = h.counts;
      begins = refl;
      tears = refl;
      none = λ e. absurd (cc e);
    }

-- the parts of the complete records, and those of one more
one_more : (done front : List Portion) (x : Portion) → (join done).rest ≡ None
    → (join front).records ≡ [] → leaves x.span ≡ false
    → join ((done ++ front) ++ x ∷ []) ≡ record {
      records = (join done).records ++ content_after (join front).rest x.bytes ∷ [];
      rest = None;
    }
one_more done front x whole none ends =
    let content = content_after (join front).rest x.bytes in
    ap join (append_assoc done front (x ∷ [])) ∙ join-append None done (front ++ x ∷ [])
    ∙ ap (λ (r : Option (List ℕ)). record {
      records = (join done).records ++ (join_after r (front ++ x ∷ [])).records;
      rest = (join_after r (front ++ x ∷ [])).rest;
    }) whole
    ∙ ap (λ (j : Joined). record { records = (join done).records ++ j.records; rest = j.rest })
    (join_ends front x (join front).records (join front).rest refl ends)
    ∙ ap (λ (rs : List (List ℕ)). record {
      records = (join done).records ++ (rs ++ content ∷ []);
      rest = None;
    }) none

-- a part that ends its record
is_ended : (start : Start) (now after : Option (List ℕ)) (form : Form) (unfinished : List ℕ)
    (records more : ℕ) (begun torn : Bool) (p : Piece) (x : Portion)
    → IsPiece start now form unfinished records begun torn p → leaves x.span ≡ false
    → Appends now after (record_text form (unfinished ++ x.bytes))
    → more ≡ min (records + 1) 18446744073709551615
    → IsPiece start after form [] more false false (with_end p x)
is_ended start now after form unfinished records more begun torn p x h ends wrote counts =
    let content = content_after (join p.front).rest x.bytes in
    let joined = one_more p.done p.front x h.whole h.no_record ends in
    let same : unfinished ++ x.bytes ≡ content =
    ap (λ t. t ++ x.bytes) h.buffered ∙ sym (content_is (join p.front).rest x.bytes) in
    let text : output_of start.form p.done ++ record_text form (unfinished ++ x.bytes)
    ≡ output_of start.form ((p.done ++ p.front) ++ x ∷ []) =
    ap (λ f. output_of start.form p.done ++ record_text f (unfinished ++ x.bytes)) h.forms
    ∙ ap (λ t. output_of start.form p.done ++ record_text start.form t) same
    ∙ ap (λ t. output_of start.form p.done ++ t) (sym (append-nil (record_text start.form content)))
    ∙ sym (records_text-append start.form (join p.done).records (content ∷ []))
    ∙ ap (λ (j : Joined). records_text start.form j.records) (sym joined) in
    record {
      forms = h.forms;
      written = subst (Appends start.had after) text
          (Appends-trans start.had now after _ _ h.written wrote);
      whole = ap (λ (j : Joined). j.rest) joined;
      buffered = refl;
      no_record = refl;
      counts = counts ∙ ap (λ n. min (n + 1) 18446744073709551615) h.counts;
      begins = refl;
      tears = refl;
      none = λ e. refl;
    }

-- ---- a part that is not left out

pub no_right : (a b : Bool) → b ≡ false → (a && b) ≡ false
no_right true b e = e
no_right false b e = refl

pub no_left : (a b : Bool) → a ≡ false → (a && b) ≡ false
no_left true b e = absurd (cc e)
no_left false b e = refl

is_with : (p : Piece) (x : Portion) (torn b : Bool) → torn ≡ p.torn
    → (torn && continues x.span) ≡ false → leaves x.span ≡ b
    → (if b then with_open p x else with_end p x) ≡ with_part p x
is_with p x torn b same off e =
    ap (λ (c : Bool). if c then with_open p x else with_end p x) (sym e)
    ∙ ap (λ (c : Bool). if c then p else (if leaves x.span then with_open p x else with_end p x))
    (sym off ∙ ap (λ (t : Bool). t && continues x.span) same)

pub put_open : (start : Start) (now : Option (List ℕ)) (form : Form)
    (unfinished longer : List ℕ) (records : ℕ) (begun torn begins : Bool) (p : Piece) (x : Portion)
    → IsPiece start now form unfinished records begun torn p
    → (torn && continues x.span) ≡ false → begins ≡ leaves x.span → begins ≡ true
    → longer ≡ unfinished ++ x.bytes
    → IsPiece start now form longer records begins false (with_part p x)
put_open start now form unfinished longer records begun torn begins p x h off is goes more =
    rw goes (subst (IsPiece start now form longer records true false)
    (is_with p x torn true h.tears off (sym is ∙ goes))
    (stays_open start now form unfinished longer records begun torn p x h (sym is ∙ goes) more))

pub put_end : (start : Start) (now after : Option (List ℕ)) (form : Form)
    (unfinished front cleared : List ℕ) (records more : ℕ) (begun torn begins : Bool) (p : Piece)
    (x : Portion) → IsPiece start now form unfinished records begun torn p
    → (torn && continues x.span) ≡ false → begins ≡ leaves x.span → begins ≡ false
    → front ≡ unfinished → Appends now after (record_text form (front ++ x.bytes))
    → cleared ≡ [] → more ≡ min (records + 1) 18446744073709551615
    → IsPiece start after form cleared more begins false (with_part p x)
put_end start now after form unfinished front cleared records more begun torn begins p x h off is
    ends same wrote empty counts =
    rw (ends, empty) (subst (IsPiece start after form [] more false false)
    (is_with p x torn false h.tears off (sym is ∙ ends))
    (is_ended start now after form unfinished records more begun torn p x h (sym is ∙ ends)
    (subst (λ (t : List ℕ). Appends now after (record_text form (t ++ x.bytes))) same wrote)
    counts))
