-- A file that has ended is valid and tight.
use Rattle.tape_writer.proofs.Words.{◌≡◌, ◌≤◌, ℕ, suc, ◌+◌, List, [], ◌∷◌, ◌++◌, length, true, refl}
use Rattle.tape_writer.proofs.Words.{ap, arith, AllByRecursion, Format, Portion, Filled, Section}
use Rattle.tape_writer.proofs.Sections.{first_is, second_is, trailer_is, second_kind_is}
use Rattle.tape_writer.proofs.Words.{Placed, numbered, blocks_of_all, least_capacity, every}
use Rattle.tape_writer.proofs.{Sections.trailer_ends, Volumes.all_push, Volumes.numbered-push}
use Rattle.tape_label.specs.declared.values.Format.TheVariants.{Fixed, Counted, Spanned}
use Rattle.tape_label.specs.declared.values.Format.TheVariants.{Undefined, Variable}
use Rattle.tape_blocks.specs.{Block.IsUnit, Block.Holds, Records.AreRecordsOf, Tight.IsWritten}
use Rattle.tape_set.specs.{Layout.ends_file, Tight.HasPlainLabels, Tight.second_of}
use Rattle.tape_set.specs.Lawful.{Ends, FileForm, TellsForm, HasForm, binding_len, form_of}
use Rattle.tape_set.proofs.Everywhere.{every_front, every_rest}
use Rattle.tape_writer.specs.{declared.course.Opened.Opened, Draft.IsGoing}
use Rattle.tape_writer.specs.Labels.{IsReady, head_at, trailer_at, second_label, second_kind}
use Rattle.tape_writer.specs.Told.{IsOfFile, Told, IsFiled, AreFiled}
use Rattle.tape_label.specs.declared.values.Kind.TheVariants as kinds
use Rattle.tape_blocks.specs.Tight as packing

abbrev pub form_by : Opened → FileForm
form_by file = form_of file.head (second_of file.shape)

tells : (file : Opened) (x : Placed) → IsReady file → IsOfFile file x
    → TellsForm (form_by file) x.section
tells file x r is = record {
  head = head_at file x.sect;
  second = second_of file.shape;
  hdr1 = rw is.hdr1 (first_is file x.sect r is.number);
  hdr2 = rw is.hdr2 (second_is file kinds.Hdr2 r tt);
  told = refl;
}

plain : (file : Opened) (x : Placed) → IsReady file → IsOfFile file x
    → HasPlainLabels file.shape x.section
plain file x r is =
    let ends : ends_file x.section ≡ is.eof = trailer_ends x.section.trailer
    (trailer_at file x.sect (length x.section.blocks) is.eof) (rw is.trailer
    (trailer_is file x.sect (length x.section.blocks) is.eof r is.number)) in
    record {
      hdr2 = rw is.hdr2 (second_is file kinds.Hdr2 r tt);
      headers = is.headers;
      second = second_label file (second_kind is.eof);
      trailers = is.trailers;
      trailer2 = rw ends (second_is file (second_kind is.eof) r (second_kind_is is.eof));
    }

-- a property of sections with their numbers gives one of the sections
unnumbered : (P : Placed → Type 0) (Q : Section → Type 0) → ((x : Placed) → P x → Q x.section)
    → (n j : ℕ) (ss : List Section) → AllByRecursion P (numbered n j ss) → AllByRecursion Q ss
unnumbered P Q f n j [] h = tt
unnumbered P Q f n j (s ∷ ss) h =
    (f (record { file = n; sect = j; section = s }) h.0, unnumbered P Q f n (j + 1) ss h.1)

going_ends : (file : Opened) (n j : ℕ) (ss : List Section) (s : Section)
    → AllByRecursion (IsGoing file) (numbered n j ss) → ends_file s ≡ true → Ends (ss ++ s ∷ [])
going_ends file n j [] s h e = e
going_ends file n j (t ∷ []) s h e = (h.0.1, e)
going_ends file n j (t ∷ u ∷ ss) s h e = (h.0.1, going_ends file n (j + 1) (u ∷ ss) s h.1 e)

-- blocks contain their parts also in the form, whose record length matters only in format F
held_by : (format : Format) (rec_len offset : ℕ) (bytes : List ℕ) (parts : List Portion)
    → Holds format rec_len offset bytes parts
    → Holds format (binding_len format rec_len) offset bytes parts
held_by Fixed rec_len offset bytes parts h = h
held_by Counted rec_len offset bytes parts h = (
  h.0,
  record {
    reaches = h.1.reaches;
    units = every (IsUnit Counted rec_len) (IsUnit Counted 0) (λ p u. u) parts h.1.units;
    body = h.1.body;
  },
  h.2,
)
held_by Spanned rec_len offset bytes parts h = (
  h.0,
  record {
    reaches = h.1.reaches;
    units = every (IsUnit Spanned rec_len) (IsUnit Spanned 0) (λ p u. u) parts h.1.units;
    body = h.1.body;
  },
  h.2,
)
held_by Undefined rec_len offset bytes parts h = h
held_by Variable rec_len offset bytes parts h = (
  h.0,
  record {
    reaches = h.1.reaches;
    units = every (IsUnit Variable rec_len) (IsUnit Variable 0) (λ p u. u) parts h.1.units;
    body = h.1.body;
  },
  h.2,
)

formed : (file : Opened) (f : List Section) → AllByRecursion (TellsForm (form_by file)) f
    → AllByRecursion (λ b. Holds file.shape.format (binding_len file.shape.format
    file.shape.rec_len) file.shape.offset b.bytes b.parts) (blocks_of_all f)
    → AllByRecursion (HasForm (form_by file)) f
formed file [] h k = tt
formed file (s ∷ f) h k = (
  record {
    labels = h.0;
    held = every_front (λ b. Holds file.shape.format (binding_len file.shape.format
        file.shape.rec_len) file.shape.offset b.bytes b.parts) s.blocks (blocks_of_all f) k;
  },
  formed file f h.1 (every_rest (λ b. Holds file.shape.format (binding_len file.shape.format
      file.shape.rec_len) file.shape.offset b.bytes b.parts) s.blocks (blocks_of_all f) k),
)

-- **the file has ended**
pub filed : (cap : ℕ) (file : Opened) (records : List (List ℕ)) (bs : List Filled)
    (ss : List Section) (last : Section) (sect : ℕ)
    → IsReady file → least_capacity file.shape ≤ cap → AreRecordsOf file.shape records
    → packing.IsTight file.shape records bs
    → sect ≡ length ss + 1 → AllByRecursion (IsGoing file) (numbered file.head.sequence 1 ss)
    → IsOfFile file (record { file = file.head.sequence; sect = sect; section = last })
    → ends_file last ≡ true → blocks_of_all (ss ++ last ∷ []) ≡ bs
    → IsFiled cap (record { file = file; records = records }) (ss ++ last ∷ [])
filed cap file records bs ss last sect r room lengths tight number going is ends blocks =
    let f : List Section = ss ++ last ∷ [] in
    let whole : packing.IsTight file.shape records (blocks_of_all f) = rw blocks tight in
    let of : AllByRecursion (IsOfFile file) (numbered file.head.sequence 1 f) =
    rw (numbered-push file.head.sequence 1 ss last sect (omega (arith, number)))
    (all_push (IsOfFile file) (numbered file.head.sequence 1 ss)
    (record { file = file.head.sequence; sect = sect; section = last })
    (every (IsGoing file) (IsOfFile file) (λ x h. h.0) (numbered file.head.sequence 1 ss) going) is)
    in
    let forms = unnumbered (IsOfFile file) (TellsForm (form_by file))
    (λ x h. tells file x r h) file.head.sequence 1 f of in
    let holds = every (IsWritten file.shape) (λ b. Holds file.shape.format
    (binding_len file.shape.format file.shape.rec_len) file.shape.offset b.bytes b.parts)
    (λ b h. held_by file.shape.format file.shape.rec_len file.shape.offset b.bytes b.parts h.holds)
    (blocks_of_all f) whole.each in
    record {
      is_file = record {
        ends = going_ends file file.head.sequence 1 ss last going ends;
        alike = (form_by file, formed file f forms holds);
        order = whole.order;
      };
      tight = record {
        writable = r.writable;
        room = room;
        labels = unnumbered (IsOfFile file) (HasPlainLabels file.shape)
            (λ x h. plain file x r h) file.head.sequence 1 f of;
        records = records;
        lengths = lengths;
        packed = whole;
      };
      labels = of;
      joins = whole.joins;
    }

-- one more file
pub filed_push : (cap : ℕ) (told : List Told) (fs : List (List Section))
    (t : Told) (f : List Section) → AreFiled cap told fs → IsFiled cap t f
    → AreFiled cap (told ++ t ∷ []) (fs ++ f ∷ [])
filed_push cap [] [] t f h k = (k, tt)
filed_push cap [] (g ∷ fs) t f h k = absurd h
filed_push cap (u ∷ told) [] t f h k = absurd h
filed_push cap (u ∷ told) (g ∷ fs) t f h k = (h.0, filed_push cap told fs t f h.1 k)

pub filed_many : (cap : ℕ) (told : List Told) (fs : List (List Section)) → AreFiled cap told fs
    → length told ≡ length fs
filed_many cap [] [] h = refl
filed_many cap [] (f ∷ fs) h = absurd h
filed_many cap (t ∷ ts) [] h = absurd h
filed_many cap (t ∷ ts) (f ∷ fs) h = ap suc (filed_many cap ts fs h.1)
