-- A valid set of the same shape as a set that the wider reading recovers: each byte of a data block
-- is a record, and the second labels say so.
use Rattle.std.proofs.Common.{◌≡◌, ◌≤◌, ℕ, ◌+◌, List, [], ◌∷◌, ◌++◌, length, Bool, true, false}
use Rattle.std.proofs.Common.{refl, sym, ap, ◌∙◌, subst, map, arith, lit≤, Option, Some, None}
use Rattle.std.proofs.lemmas.List.{length-map}
use Rattle.std.specs.List.{AllByRecursion, flat_map}
use Rattle.std.specs.Prelude.{MatchBool}
use Rattle.tape_image.specs.Tape.{IsTapeItem, block}
use Rattle.tape_label.specs.declared.values.{Head2.Head2}
use Rattle.tape_label.specs.declared.values.Format.TheVariants.{Fixed}
use Rattle.tape_label.specs.declared.values.Kind.TheVariants as kinds
use Rattle.tape_label.specs.Head2.{IsHead2, Head2Fits}
use Rattle.tape_blocks.specs.Block.{Portion, Holds, IsUnit, spellings}
use Rattle.tape_blocks.specs.declared.{parts.Shape.Shape, parts.Span.TheVariants.Whole}
use Rattle.tape_blocks.specs.{Spans.InOrder, Tight.Filled, Tight.Chain, Tight.parts_of_all}
use Rattle.tape_blocks.proofs.FrontLaws.{InOrder-append}
use Rattle.tape_set.specs.Layout.{FileSet, Section, Placed, Entry, sections, item_of, ends_file}
use Rattle.tape_set.specs.Layout.{section_entries, data_group, trailer_group, numbered}
use Rattle.tape_set.specs.Layout.{all_numbered, a_data_block, header_group}
use Rattle.tape_set.specs.Before.{section_parts, blocks_of_all}
use Rattle.tape_set.specs.Tight.{second_of}
use Rattle.tape_set.specs.Lawful.{FileForm, IsLawful, IsSection, IsHeader, IsTrailer, IsFile}
use Rattle.tape_set.specs.Lawful.{TellsForm, HasForm, Ends, StartsOnFirst, GoesOn, form_of}
use Rattle.tape_set.specs.Readable.{IsReadable, IsReadableFile, HasWideForm, TellsWideForm}
use Rattle.tape_set.proofs.{Everywhere.every, Everywhere.every-append}
use Rattle.tape_set.proofs.Worked.{shape_of, second, second_is}

-- ---- the set

abbrev pub plain_shape : Shape
plain_shape = shape_of Fixed 1 1 0 (λ _. lit≤ tt)

-- the second label of each section: format F, records of one byte
abbrev pub plain_label : List ℕ
plain_label = second kinds.Hdr2 plain_shape

abbrev pub byte_part : ℕ → Portion
byte_part x = record { span = Whole; bytes = x ∷ [] }

abbrev pub plain_block : Filled → Filled
plain_block b = record { bytes = b.bytes; parts = map byte_part b.bytes }

abbrev pub plain_section : Section → Section
plain_section s = record {
  volume = s.volume;
  hdr1 = s.hdr1;
  hdr2 = plain_label;
  headers = s.headers;
  blocks = map plain_block s.blocks;
  trailer = s.trailer;
  trailers = s.trailers;
}

abbrev pub plain_placed : Placed → Placed
plain_placed x = record { file = x.file; sect = x.sect; section = plain_section x.section }

abbrev pub plain_set : FileSet → FileSet
plain_set set = record {
  set_id = set.set_id;
  volumes = set.volumes;
  files = map (map plain_section) set.files;
}

-- the form that its labels state
abbrev pub plain_form : FileForm → FileForm
plain_form form = record { file_id = form.file_id; format = Fixed; rec_len = 1; offset = 0 }

-- ---- lists

pub every_map : {A B : Type 0} (f : A → B) (P : A → Type 0) (Q : B → Type 0)
    → ((x : A) → P x → Q (f x)) → (xs : List A) → AllByRecursion P xs
    → AllByRecursion Q (map f xs)
every_map f P Q g [] h = tt
every_map f P Q g (x ∷ xs) h = (g x h.0, every_map f P Q g xs h.1)

map_append : {A B : Type 0} (f : A → B) (xs ys : List A)
    → map f (xs ++ ys) ≡ map f xs ++ map f ys
map_append f [] ys = refl
map_append f (x ∷ xs) ys = ap (λ z. f x ∷ z) (map_append f xs ys)

plain_numbered : (file sect : ℕ) (ss : List Section)
    → numbered file sect (map plain_section ss) ≡ map plain_placed (numbered file sect ss)
plain_numbered file sect [] = refl
plain_numbered file sect (s ∷ ss) =
    ap (λ z. plain_placed (record { file = file; sect = sect; section = s }) ∷ z)
    (plain_numbered file (sect + 1) ss)

plain_all : (file : ℕ) (fs : List (List Section))
    → all_numbered file (map (map plain_section) fs) ≡ map plain_placed (all_numbered file fs)
plain_all file [] = refl
plain_all file (f ∷ fs) =
    ap (λ z. z ++ all_numbered (file + 1) (map (map plain_section) fs)) (plain_numbered file 1 f)
    ∙ (ap (λ z. map plain_placed (numbered file 1 f) ++ z) (plain_all (file + 1) fs)
    ∙ sym (map_append plain_placed (numbered file 1 f) (all_numbered (file + 1) fs)))

-- its sections are those of the set
pub plain_sections : (set : FileSet)
    → sections (plain_set set) ≡ map plain_placed (sections set)
plain_sections set = plain_all 1 set.files

pub plain_data : (blocks : List Filled) → data_group (map plain_block blocks) ≡ data_group blocks
plain_data [] = refl
plain_data (b ∷ blocks) = ap (λ z. a_data_block b.bytes ∷ z) (plain_data blocks)

-- ---- its labels

label_fits : Head2Fits (second_of plain_shape)
label_fits = record {
  standard = refl;
  block_len = lit≤ tt;
  rec_len = (lit≤ tt, lit≤ tt);
  offset = lit≤ tt;
}

pub label_is : IsHead2 plain_label kinds.Hdr2 (second_of plain_shape)
label_is = second_is kinds.Hdr2 plain_shape tt label_fits

-- ---- its sections

sized : (s : Section) → AllByRecursion IsTapeItem (map item_of (section_entries s))
    → AllByRecursion IsTapeItem (map item_of (section_entries (plain_section s)))
sized s h =
    let label : IsTapeItem (block plain_label) =
    (omega (arith, label_is.kind.size), omega (arith, label_is.kind.size)) in
    let all : AllByRecursion IsTapeItem (map item_of ((header_group (plain_section s)
    ++ data_group s.blocks) ++ trailer_group s)) = (h.0, (label, h.1.1)) in
    subst (λ z. AllByRecursion IsTapeItem (map item_of ((header_group (plain_section s) ++ z)
    ++ trailer_group s))) (sym (plain_data s.blocks)) all

section : (of_set : List ℕ) (volumes : ℕ) (x : Placed) → IsSection of_set volumes x
    → IsSection of_set volumes (plain_placed x)
section of_set volumes x is =
    let n : length (map plain_block x.section.blocks) ≡ length x.section.blocks =
    length-map x.section.blocks plain_block in
    let h = is.header.1 in
    let t = is.trailer.1 in
    record {
      header = (
        is.header.0,
        record { label = h.label; set_id = h.set_id; file = h.file; sect = h.sect },
      );
      trailer = (
        is.trailer.0,
        record { label = t.label; file = t.file; sect = t.sect; count = rw n t.count },
      );
      volume = is.volume;
      few = rw n is.few;
      sized = sized x.section is.sized;
    }

-- ---- its files

bytes_spelled : (bytes : List ℕ) → spellings Fixed (map byte_part bytes) ++ [] ≡ bytes
bytes_spelled [] = refl
bytes_spelled (x ∷ bytes) = ap (λ z. x ∷ z) (bytes_spelled bytes)

bytes_units : (bytes : List ℕ) → AllByRecursion (IsUnit Fixed 1) (map byte_part bytes)
bytes_units [] = tt
bytes_units (x ∷ bytes) = ((refl, refl), bytes_units bytes)

pub plain_holds : (bytes : List ℕ) → Holds Fixed 1 0 bytes (map byte_part bytes)
plain_holds bytes = (
  [],
  record { reaches = omega arith; units = bytes_units bytes; body = sym (bytes_spelled bytes) },
  (refl, lit≤ tt),
)

pub bytes_order : (bytes : List ℕ) → InOrder false (map byte_part bytes) false
bytes_order [] = refl
bytes_order (x ∷ bytes) = (refl, bytes_order bytes)

held : (blocks : List Filled)
    → AllByRecursion (λ b. Holds Fixed 1 0 b.bytes b.parts) (map plain_block blocks)
held [] = tt
held (b ∷ blocks) = (plain_holds b.bytes, held blocks)

has : (form : FileForm) (s : Section) → HasWideForm form s
    → HasForm (plain_form form) (plain_section s)
has form s h = record {
  labels = record {
    head = h.labels.head;
    second = second_of plain_shape;
    hdr1 = h.labels.hdr1;
    hdr2 = label_is;
    told = ap plain_form h.labels.told;
  };
  held = held s.blocks;
}

ends : (f : List Section) → Ends f → Ends (map plain_section f)
ends [] h = h
ends (s ∷ []) h = h
ends (s ∷ t ∷ ss) h = (h.0, ends (t ∷ ss) h.1)

blocks_order : (blocks more : List Filled) → InOrder false (parts_of_all more) false
    → InOrder false (parts_of_all (map plain_block blocks ++ more)) false
blocks_order [] more h = h
blocks_order (b ∷ blocks) more h = InOrder-append false false false _ _ (bytes_order b.bytes)
    (blocks_order blocks more h)

order : (f : List Section) → InOrder false (section_parts (map plain_section f)) false
order [] = refl
order (s ∷ f) = blocks_order s.blocks (blocks_of_all (map plain_section f)) (order f)

file : (f : List Section) → IsReadableFile f → IsFile (map plain_section f)
file f is = record {
  ends = ends f is.ends;
  alike = (
    plain_form is.alike.0,
    every_map plain_section (HasWideForm is.alike.0) (HasForm (plain_form is.alike.0))
        (has is.alike.0) f is.alike.1,
  );
  order = order f;
}

-- ---- the set is valid

first : (xs : List Placed) → StartsOnFirst xs → StartsOnFirst (map plain_placed xs)
first [] h = h
first (x ∷ xs) h = h

goes_on : (xs : List Placed) → Chain GoesOn xs → Chain GoesOn (map plain_placed xs)
goes_on [] h = tt
goes_on (x ∷ []) h = tt
goes_on (x ∷ y ∷ xs) h = (h.0, goes_on (y ∷ xs) h.1)

pub plain_lawful : (set : FileSet) → IsReadable set → IsLawful (plain_set set)
plain_lawful set r =
    let same = sym (plain_sections set) in
    record {
      volumes = r.volumes;
      each = subst (AllByRecursion (IsSection set.set_id (length set.volumes))) same
          (every_map plain_placed (IsSection set.set_id (length set.volumes))
          (IsSection set.set_id (length set.volumes))
          (section set.set_id (length set.volumes)) (sections set) r.each);
      files = every_map (map plain_section) IsReadableFile IsFile file set.files r.files;
      first = subst StartsOnFirst same (first (sections set) r.first);
      goes_on = subst (Chain GoesOn) same (goes_on (sections set) r.goes_on);
    }
