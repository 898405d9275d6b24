-- The text of records, written part by part.
use Rattle.std.proofs.lemmas.List.{nil_from_length}
use Rattle.std.proofs.Common.{append-nil, Ok, ◌≡◌, ℕ, zero, suc, ◌+◌, ◌-◌, ◌<◌, ◌≤◌, Bool, true}
use Rattle.std.proofs.Common.{false, List, [], ◌∷◌, ◌++◌, length, drop, Option, Some, None, refl}
use Rattle.std.proofs.Common.{sym, ap, subst, ◌∙◌, arith, append_assoc, if◌then◌else◌}
use Rattle.std.specs.Io.KnownBytes.{Appends}
use Rattle.std.proofs.KnownBytes.{Appends-nil, Appends-trans}
use Rattle.tape_image.specs.Written.{AppendsFront}
use Rattle.tape_image.proofs.Pieces.{front_more, front_behind}
use Rattle.tape_blocks.specs.{Block.Portion, Parts.view}
use Rattle.tape_blocks.specs.Spans.{leaves, content_after, with_record, join_after, join}
use Rattle.tape_core.specs.{Stands.weight_of, Walks.GivesPart}
use Rattle.tape_blocks.specs.declared.parts.{Part.Part, Form.Form}
use Rattle.tape_run.specs.RecordText.{record_text, records_text, output_of, part_text, sent_of}
use Rattle.tape_run.specs.RecordText.{held_of, rest_after}
use Rattle.tape_run.specs.OutSinks.{with_end}
use Rattle.tape_run.proofs.RecordTexts.{text_by, text_is, adds}

-- the number of parts that end a record
abbrev pub ends : List Portion → ℕ
ends [] = 0
ends (p ∷ ps) = with_end (leaves p.span) (ends ps)

count_by : (b : Bool) (content : List ℕ) (ps : List Portion)
    → ((begun : Option (List ℕ)) → length (join_after begun ps).records ≡ ends ps)
    → length (if b then join_after (Some content) ps else with_record content
    (join_after None ps)).records ≡ with_end b (ends ps)
count_by true content ps same = same (Some content)
count_by false content ps same = let e = same None in omega (arith, e)

pub count_ends : (begun : Option (List ℕ)) (ps : List Portion)
    → length (join_after begun ps).records ≡ ends ps
count_ends begun [] = refl
count_ends begun (p ∷ ps) =
    count_by (leaves p.span) (content_after begun p.bytes) ps (λ b. count_ends b ps)

-- the text of the parts that is still to be written: none after the last part that ends a record
abbrev pub still : Bool → List ℕ → List ℕ
still true text = text
still false text = []

abbrev pub some_left : ℕ → Bool
some_left zero = false
some_left (suc n) = true

-- the text of the parts, behind those of an unfinished record
abbrev pub stream : Form → Option (List ℕ) → List Portion → List ℕ
stream form begun [] = []
stream form begun (p ∷ ps) = still (some_left (ends (p ∷ ps)))
    (part_text form begun p ++ stream form (rest_after begun p) ps)

none_end : (begun : Option (List ℕ)) (ps : List Portion) → ends ps ≡ 0
    → (join_after begun ps).records ≡ []
none_end begun ps e = nil_from_length (join_after begun ps).records (count_ends begun ps ∙ e)

pub stream_none : (form : Form) (begun : Option (List ℕ)) (ps : List Portion) → ends ps ≡ 0
    → stream form begun ps ≡ []
stream_none form begun [] e = refl
stream_none form begun (p ∷ ps) e =
    ap (λ n. still (some_left n) (part_text form begun p ++ stream form (rest_after begun p) ps)) e

still_some : (n : ℕ) (text : List ℕ) → 0 < n → still (some_left n) text ≡ text
still_some zero text h = absurd (omega arith)
still_some (suc n) text h = refl

pub stream_some : (form : Form) (begun : Option (List ℕ)) (p : Portion) (ps : List Portion)
    → 0 < ends (p ∷ ps)
    → stream form begun (p ∷ ps) ≡ part_text form begun p ++ stream form (rest_after begun p) ps
stream_some form begun p ps h =
    still_some (ends (p ∷ ps)) (part_text form begun p ++ stream form (rest_after begun p) ps) h

-- a property of any number of ended records except 0
abbrev pub IsStreamed : Form → List Portion → Type 0
IsStreamed form ps = (begun : Option (List ℕ)) → 0 < ends ps
    → sent_of begun form ++ stream form begun ps ≡ records_text form (join_after begun ps).records

tail_by : (form : Form) (ps : List Portion) (n : ℕ) → ends ps ≡ n → IsStreamed form ps
    → stream form None ps ≡ records_text form (join_after None ps).records
tail_by form ps zero e all = stream_none form None ps e
    ∙ sym (ap (records_text form) (none_end None ps e))
tail_by form ps (suc n) e all = all None (omega (arith, e))

by_part : (form : Form) (b : Bool) (begun : Option (List ℕ)) (bytes : List ℕ) (ps : List Portion)
    → 0 < with_end b (ends ps) → IsStreamed form ps
    → sent_of begun form ++ (text_by form begun bytes b ++ stream form
    (if b then Some (content_after begun bytes) else None) ps)
    ≡ records_text form (if b then join_after (Some (content_after begun bytes)) ps else with_record
    (content_after begun bytes) (join_after None ps)).records
by_part form true begun bytes ps h all =
    let content = content_after begun bytes in
    sym (append_assoc (sent_of begun form) (text_by form begun bytes true)
    (stream form (Some content) ps))
    ∙ ap (λ t. t ++ stream form (Some content) ps) (adds form begun bytes true)
    ∙ all (Some content) h
by_part form false begun bytes ps h all =
    let content = content_after begun bytes in
    sym (append_assoc (sent_of begun form) (text_by form begun bytes false) (stream form None ps))
    ∙ ap (λ t. t ++ stream form None ps) (adds form begun bytes false)
    ∙ ap (λ t. record_text form content ++ t) (tail_by form ps (ends ps) refl all)

streamed : (form : Form) (ps : List Portion) → IsStreamed form ps
streamed form [] begun h = absurd (omega arith)
streamed form (p ∷ ps) begun h =
    ap (λ t. sent_of begun form ++ t) (stream_some form begun p ps h)
    ∙ ap (λ t. sent_of begun form ++ (t ++ stream form (rest_after begun p) ps))
    (text_is form begun p)
    ∙ by_part form (leaves p.span) begun p.bytes ps h (streamed form ps)

-- The records are written part by part, without an unfinished one.
pub output_is : (form : Form) (ps : List Portion) → stream form None ps ≡ output_of form ps
output_is form ps = tail_by form ps (ends ps) refl (streamed form ps)

ends_by : (b : Bool) (n m : ℕ) → n ≤ m → with_end b n ≤ m + 1
ends_by true n m h = omega (arith, h)
ends_by false n m h = omega (arith, h)

-- Parts weigh more than the number of records that they end.
pub ends_few : (ps : List Portion) → ends ps ≤ weight_of ps
ends_few [] = omega arith
ends_few (p ∷ ps) =
    let less = ends_by (leaves p.span) (ends ps) (weight_of ps) (ends_few ps) in
    omega (arith, less)

-- ---- the records behind the first ones

-- the text of the parts behind those that end this many records
abbrev pub stream_from : ℕ → Form → Option (List ℕ) → List Portion → List ℕ
stream_from zero form begun ps = stream form begun ps
stream_from (suc n) form begun [] = []
stream_from (suc n) form begun (p ∷ ps) =
    stream_from (if leaves p.span then suc n else n) form None ps

from_by : (form : Form) (b : Bool) (n : ℕ) (content : List ℕ) (ps : List Portion)
    → ((m : ℕ) (begun : Option (List ℕ)) → stream_from (suc m) form None ps
    ≡ records_text form (drop (suc m) (join_after begun ps).records))
    → stream_from (if b then suc n else n) form None ps
    ≡ records_text form (drop (suc n) (if b then join_after (Some content) ps
    else with_record content (join_after None ps)).records)
from_by form true n content ps same = same n (Some content)
from_by form false zero content ps same = output_is form ps
from_by form false (suc n) content ps same = same n None

from_some : (form : Form) (ps : List Portion) (n : ℕ) (any begun : Option (List ℕ))
    → stream_from (suc n) form any ps
    ≡ records_text form (drop (suc n) (join_after begun ps).records)
from_some form [] n any begun = refl
from_some form (p ∷ ps) n any begun =
    from_by form (leaves p.span) n (content_after begun p.bytes) ps
    (λ m b. from_some form ps m None b)

from_is : (form : Form) (n : ℕ) (ps : List Portion)
    → stream_from n form None ps ≡ records_text form (drop n (join ps).records)
from_is form zero ps = output_is form ps
from_is form (suc n) ps = from_some form ps n None None

from_none : (form : Form) (n : ℕ) (begun : Option (List ℕ)) (ps : List Portion) → ends ps ≡ 0
    → stream_from n form begun ps ≡ []
from_none form zero begun ps e = stream_none form begun ps e
from_none form (suc n) begun ps e = from_some form ps n begun None
    ∙ ap (λ rs. records_text form (drop (suc n) rs)) (none_end None ps e)

-- The records before the parts still to come ended. What was written of those behind the first
-- `from`, followed by the text still to be written, is their text.
pub record Streams (form : Form) (ahead : List Portion → Type 0) (from ended : ℕ)
    (held : List ℕ) (old new : Option (List ℕ)) (parts : List Portion) : Type 0 where
  pub rest : List Portion
  pub is_ahead : ahead rest
  pub counted : ended + ends rest ≡ ends parts
  pub begun : Option (List ℕ)
  pub waits : held ≡ held_of begun form
  pub fresh : ended < from → begun ≡ None
  pub done : List ℕ
  pub wrote : Appends old new done
  pub text : done ++ stream_from (from - ended) form begun rest
      ≡ records_text form (drop from (join parts).records)

pub stream_starts : (form : Form) (ahead : List Portion → Type 0) (from : ℕ) (held : List ℕ)
    (old : Option (List ℕ)) (parts : List Portion) → held ≡ [] → ahead parts
    → Streams form ahead from 0 held old old parts
stream_starts form ahead from held old parts none is =
    record {
      rest = parts;
      is_ahead = is;
      counted = omega arith;
      begun = None;
      waits = none;
      fresh = λ less. refl;
      done = [];
      wrote = Appends-nil old;
      text = let none : from - 0 ≡ from = omega arith in
          ap (λ n. stream_from n form None parts) none ∙ from_is form from parts;
    }

-- one more part of those records that were passed
skipped : (form : Form) (b : Bool) (k from ended : ℕ) (begun : Option (List ℕ)) (p : Portion)
    (ps : List Portion) → leaves p.span ≡ b → from - ended ≡ suc k
    → stream_from (from - ended) form begun (p ∷ ps)
    ≡ stream_from (from - with_end b ended) form None ps
skipped form true k from ended begun p ps e n = ap (λ m. stream_from m form begun (p ∷ ps)) n
    ∙ ap (λ b. stream_from (if b then suc k else k) form None ps) e
    ∙ ap (λ m. stream_from m form None ps) (sym n)
skipped form false k from ended begun p ps e n = ap (λ m. stream_from m form begun (p ∷ ps)) n
    ∙ ap (λ b. stream_from (if b then suc k else k) form None ps) e
    ∙ ap (λ m. stream_from m form None ps) (omega (arith, n))

pub ends_next : (b : Bool) (ended n all : ℕ) → ended + with_end b n ≡ all
    → with_end b ended + n ≡ all
ends_next true ended n all e = e
ends_next false ended n all e = omega (arith, e)

some_before : (from ended : ℕ) → ended < from → (k : ℕ) × (from - ended ≡ suc k)
some_before zero ended less = absurd (omega (arith, less))
some_before (suc from) zero less = (from, omega arith)
some_before (suc from) (suc ended) less =
    let (k, e) = some_before from ended (omega (arith, less)) in (k, omega (arith, e))

pub stream_skips : (form : Form) (ahead after : List Portion → Type 0) (from ended next : ℕ)
    (held : List ℕ) (old new : Option (List ℕ)) (parts : List Portion) (part : Part)
    → Streams form ahead from ended held old new parts → ended < from
    → ((xs : List Portion) → ahead xs → GivesPart (Ok (Some part)) xs after)
    → next ≡ with_end (leaves part.span) ended → Streams form after from next held old new parts
stream_skips form ahead after from ended next held old new parts part s less gives n =
    let (rest, is, there) = gives s.rest s.is_ahead in
    let p = view part in
    let (k, some) = some_before from ended less in
    let counted : ended + ends (p ∷ rest) ≡ ends parts =
    ap (λ xs. ended + ends xs) (sym is) ∙ s.counted in
    record {
      rest = rest;
      is_ahead = there;
      counted = ap (λ m. m + ends rest) n
          ∙ ends_next (leaves part.span) ended (ends rest) (ends parts) counted;
      begun = None;
      waits = s.waits ∙ ap (λ b. held_of b form) (s.fresh less);
      fresh = λ still. refl;
      done = s.done;
      wrote = s.wrote;
      text = ap (λ m. s.done ++ stream_from (from - m) form None rest) n
          ∙ ap (λ t. s.done ++ t) (sym (ap (stream_from (from - ended) form s.begun) is
          ∙ skipped form (leaves part.span) k from ended s.begun p rest refl some)) ∙ s.text;
    }

-- the text of the next part, and of those behind it
next_text : (form : Form) (from ended : ℕ) (begun : Option (List ℕ)) (p : Portion)
    (ps : List Portion) → from ≤ ended → 0 < ends (p ∷ ps)
    → stream_from (from - ended) form begun (p ∷ ps)
    ≡ part_text form begun p ++ stream form (rest_after begun p) ps
next_text form from ended begun p ps le some =
    let none : from - ended ≡ 0 = omega (arith, le) in
    ap (λ n. stream_from n form begun (p ∷ ps)) none ∙ stream_some form begun p ps some

ends_most : (b : Bool) (ended : ℕ) → ended ≤ with_end b ended
ends_most true ended = omega arith
ends_most false ended = omega arith

pub stream_writes : (form : Form) (ahead after : List Portion → Type 0)
    (from ended next records : ℕ) (held holds : List ℕ) (old mid new : Option (List ℕ))
    (parts : List Portion) (part : Part)
    → Streams form ahead from ended held old mid parts → from ≤ ended → ended < records
    → records ≡ length (join parts).records
    → ((xs : List Portion) → ahead xs → GivesPart (Ok (Some part)) xs after)
    → ((begun : Option (List ℕ)) → held ≡ held_of begun form
    → Appends mid new (part_text form begun (view part)))
    → ((begun : Option (List ℕ)) → held ≡ held_of begun form
    → holds ≡ held_of (rest_after begun (view part)) form)
    → next ≡ with_end (leaves part.span) ended
    → Streams form after from next holds old new parts
stream_writes form ahead after from ended next records held holds old mid new parts part s le less e
    gives wrote keeps n =
    let (rest, is, there) = gives s.rest s.is_ahead in
    let p = view part in
    let text = part_text form s.begun p in
    let begins = rest_after s.begun p in
    let all = count_ends None parts in
    let counted : ended + ends (p ∷ rest) ≡ ends parts =
    ap (λ xs. ended + ends xs) (sym is) ∙ s.counted in
    let some : 0 < ends (p ∷ rest) = omega (arith, counted, less, e, all) in
    let most = ends_most (leaves part.span) ended in
    let none : from - next ≡ 0 = omega (arith, le, most, n) in
    record {
      rest = rest;
      is_ahead = there;
      counted = ap (λ m. m + ends rest) n
          ∙ ends_next (leaves part.span) ended (ends rest) (ends parts) counted;
      begun = begins;
      waits = keeps s.begun s.waits;
      fresh = λ before. absurd (omega (arith, before, le, most, n));
      done = s.done ++ text;
      wrote = Appends-trans old mid new s.done text s.wrote (wrote s.begun s.waits);
      text = append_assoc s.done text _
          ∙ ap (λ n. s.done ++ (text ++ stream_from n form begins rest)) none
          ∙ ap (λ t. s.done ++ t) (sym (ap (stream_from (from - ended) form s.begun) is
          ∙ next_text form from ended s.begun p rest le some)) ∙ s.text;
    }

pub stream_ended : (form : Form) (ahead : List Portion → Type 0) (from ended records : ℕ)
    (held : List ℕ) (old new : Option (List ℕ)) (parts : List Portion)
    → Streams form ahead from ended held old new parts → records ≤ ended
    → records ≡ length (join parts).records
    → Appends old new (records_text form (drop from (join parts).records))
stream_ended form ahead from ended records held old new parts s le e =
    let all = count_ends None parts in
    let counted = s.counted in
    let none : ends s.rest ≡ 0 = omega (arith, counted, le, e, all) in
    subst (Appends old new) (sym (append-nil s.done)
    ∙ ap (λ t. s.done ++ t) (sym (from_none form (from - ended) s.begun s.rest none)) ∙ s.text)
    s.wrote

pub stream_failed : (form : Form) (ahead after : List Portion → Type 0) (from ended records : ℕ)
    (held : List ℕ) (old mid new : Option (List ℕ)) (parts : List Portion) (part : Part)
    → Streams form ahead from ended held old mid parts → from ≤ ended → ended < records
    → records ≡ length (join parts).records
    → ((xs : List Portion) → ahead xs → GivesPart (Ok (Some part)) xs after)
    → ((begun : Option (List ℕ)) → held ≡ held_of begun form
    → AppendsFront mid new (part_text form begun (view part)))
    → AppendsFront old new (records_text form (drop from (join parts).records))
stream_failed form ahead after from ended records held old mid new parts part s le less e gives
    wrote =
    let (rest, is, there) = gives s.rest s.is_ahead in
    let p = view part in
    let all = count_ends None parts in
    let counted : ended + ends (p ∷ rest) ≡ ends parts =
    ap (λ xs. ended + ends xs) (sym is) ∙ s.counted in
    let some : 0 < ends (p ∷ rest) = omega (arith, counted, less, e, all) in
    subst (AppendsFront old new) (ap (λ t. s.done ++ t)
    (sym (ap (stream_from (from - ended) form s.begun) is
    ∙ next_text form from ended s.begun p rest le some))
    ∙ s.text) (front_behind old mid new s.done _ s.wrote
    (front_more mid new (part_text form s.begun p) (stream form (rest_after s.begun p) rest)
    (wrote s.begun s.waits)))

-- parts are missing
pub stream_short : (form : Form) (ahead after : List Portion → Type 0) (from ended records : ℕ)
    (held : List ℕ) (old new : Option (List ℕ)) (parts : List Portion)
    → Streams form ahead from ended held old new parts → ended < records
    → records ≡ length (join parts).records
    → ((xs : List Portion) → ahead xs → GivesPart (Ok None) xs after) → ⊥
stream_short form ahead after from ended records held old new parts s less e gives =
    let (none, there) = gives s.rest s.is_ahead in
    let counted : ended + 0 ≡ ends parts = ap (λ xs. ended + ends xs) (sym none) ∙ s.counted in
    let all = count_ends None parts in
    absurd (omega (arith, counted, less, e, all))
