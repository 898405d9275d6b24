-- Small sets with invalid volume labels or second labels, and files whose sections state different
-- forms.
use Rattle.std.proofs.Common.{◌≡◌, ℕ, List, [], ◌∷◌, ◌++◌, true, false, refl, sym, ap, ◌∙◌, inl}
use Rattle.std.proofs.Common.{inr, arith, codes, lit≤, ◌<◌, ◌≤◌, length, lit<}
use Rattle.std.proofs.lemmas.List.{length-replicate}
use Rattle.std.specs.{Prelude.replicate, Prelude.slice_index, Prelude.map, List.AllByRecursion}
use Rattle.tape_image.specs.Tape.{IsTapeItem, block}
use Rattle.tape_label.specs.declared.values.Format.TheVariants.{Fixed, Counted}
use Rattle.tape_label.specs.Written.{text_of, head1_pieces}
use Rattle.tape_label.specs.{declared.values.Head1.Head1, Head1.IsHead1, Head1.HeadFits}
use Rattle.tape_label.specs.{Trail1.IsTrail1, declared.values.Trail1.Trail1, Head2.Head2Fits}
use Rattle.tape_label.specs.declared.values.Kind.TheVariants as kinds
use Rattle.tape_label.proofs.{Widths.head_wide, Texts.head1_text_is}
use Rattle.tape_blocks.specs.declared.parts.Shape.{Shape}
use Rattle.tape_blocks.specs.{Block.Holds, Spans.InOrder, Tight.Chain, Tight.Filled}
use Rattle.tape_set.specs.Layout.{Section, FileSet, sections, item_of, section_entries}
use Rattle.tape_set.specs.Lawful.{FileForm, TellsForm, IsVolume, IsLawful, IsHeader, IsTrailer}
use Rattle.tape_set.specs.Lawful.{IsFile, StartsOnFirst, GoesOn, most_blocks, label_count}
use Rattle.tape_set.specs.declared.position.Position.TheVariants.{Finished}
use Rattle.tape_set.specs.{Before.section_parts, Before.before, Tight.second_of}
use Rattle.tape_set.proofs.Worked.{makes, head, wide, vol1, second, made, form, second_is, shape_of}
use Rattle.tape_set.proofs.Worked.{alike_file, set_id, trail, trailer, hdr1_is, trailer_is}
use Rattle.tape_set.proofs.Worked.{second_sized, label_count_most}
use Rattle.tape_set.proofs.RefusedSets.{OnlyVolumes, on_volume, only_volume, empty_form}
use Rattle.tape_set.proofs.WorkedFile.{shape, shape_fits, record_of, whole}
use Rattle.tape_set.proofs.{Forms.one_form, Numbering.placed, RefusedLawful.set_of}

-- ---- labels of volumes

-- VOL1 is one character short
short_vol1 : OnlyVolumes
    (on_volume (record { vol1 = codes "VOL1" ++ replicate 75 32; labels = [] }))
short_vol1 = only_volume (record { vol1 = codes "VOL1" ++ replicate 75 32; labels = [] })
    (λ h. let e : 79 ≡ 80 = h.vol1.size in absurd (omega arith))

-- VOL1 is one character too long
long_vol1 : OnlyVolumes (on_volume (record { vol1 = codes "VOL1" ++ replicate 77 32; labels = [] }))
long_vol1 = only_volume (record { vol1 = codes "VOL1" ++ replicate 77 32; labels = [] })
    (λ h. let e : 81 ≡ 80 = h.vol1.size in absurd (omega arith))

-- a further label is one character too long
long_label : OnlyVolumes
    (on_volume (record { vol1 = vol1; labels = (codes "UVL1" ++ replicate 77 32) ∷ [] }))
long_label = only_volume (record { vol1 = vol1; labels = (codes "UVL1" ++ replicate 77 32) ∷ [] })
    (λ h. let e : 81 ≡ 80 = h.labels.0.size in absurd (omega arith))

-- a further label begins like a user header label, or almost like a volume label
header_label : OnlyVolumes
    (on_volume (record { vol1 = vol1; labels = (codes "UHL1" ++ replicate 76 32) ∷ [] }))
header_label = only_volume (record { vol1 = vol1; labels = (codes "UHL1" ++ replicate 76 32) ∷ [] })
    (λ h. elim h.labels.0.named [
      | inl e ↦ absurd (let d : 85 ≡ 86 = ap (λ v. slice_index v 0) e in omega arith)
      | inr e ↦ absurd (let d : 72 ≡ 86 = ap (λ v. slice_index v 1) e in omega arith)
    ])

almost_named : OnlyVolumes
    (on_volume (record { vol1 = vol1; labels = (codes "VOX1" ++ replicate 76 32) ∷ [] }))
almost_named = only_volume (record { vol1 = vol1; labels = (codes "VOX1" ++ replicate 76 32) ∷ [] })
    (λ h. elim h.labels.0.named [
      | inl e ↦ absurd (let d : 88 ≡ 76 = ap (λ v. slice_index v 2) e in omega arith)
      | inr e ↦ absurd (let d : 86 ≡ 85 = ap (λ v. slice_index v 0) e in omega arith)
    ])

almost_user : OnlyVolumes
    (on_volume (record { vol1 = vol1; labels = (codes "UVX1" ++ replicate 76 32) ∷ [] }))
almost_user = only_volume (record { vol1 = vol1; labels = (codes "UVX1" ++ replicate 76 32) ∷ [] })
    (λ h. elim h.labels.0.named [
      | inl e ↦ absurd (let d : 85 ≡ 86 = ap (λ v. slice_index v 0) e in omega arith)
      | inr e ↦ absurd (let d : 88 ≡ 76 = ap (λ v. slice_index v 2) e in omega arith)
    ])

-- both identifiers are valid
volume_labels : IsVolume (record {
  vol1 = vol1;
  labels = (codes "VOL2" ++ replicate 76 32) ∷ (codes "UVL9" ++ replicate 76 32) ∷ [];
})
volume_labels = search (makes) depth 9

-- ---- second labels

plain : TellsForm (form shape) (made shape 1 1 1 true [])
plain = (empty_form 1 1 1 true (lit≤ tt) (lit≤ tt) (lit≤ tt) (lit≤ tt)).labels

-- a block that replaces HDR2: EOF2, or a block that is not a label
abbrev with_second : List ℕ → Section
with_second label = record (made shape 1 1 1 true []) { hdr2 = label }

second_trailer_first : (told : FileForm)
    → TellsForm told (with_second (second kinds.Eof2 shape)) → ⊥
second_trailer_first told h = search (makes) depth 9

no_second : (told : FileForm) → TellsForm told (with_second (replicate 80 32)) → ⊥
no_second told h = search (makes) depth 9

-- ---- sections that state different forms

-- no form is stated by the labels of both sections
apart : (h g : Section) (a b : FileForm) → TellsForm a h → TellsForm b g → (a ≡ b → ⊥)
    → (told : FileForm) → TellsForm told h → TellsForm told g → ⊥
apart h g a b x y differ told u v = differ (sym (one_form h told a u x) ∙ one_form g told b v y)

-- another record length, in format F
abbrev longer : Shape
longer = shape_of Fixed 800 100 0 (λ _. lit≤ tt)

other_record_length : (told : FileForm) → TellsForm told (made shape 1 1 1 true [])
    → TellsForm told (made longer 2 1 2 true []) → ⊥
other_record_length = search (makes, apart, plain) depth 9

-- another record format
abbrev counted : Shape
counted = shape_of Counted 800 80 0 (λ _. lit≤ tt)

other_format : (told : FileForm) → TellsForm told (made shape 1 1 1 true [])
    → TellsForm told (made counted 2 1 2 true []) → ⊥
other_format = search (makes, apart, plain) depth 9

-- a first header with another file identifier
abbrev other_head : Head1
other_head = record (head 1 2) { file_id = codes "WAGES            " }

other_head_is : IsHead1 (text_of (head1_pieces other_head)) other_head
other_head_is = search (lit≤, tt, head1_text_is, head_wide, wide)

abbrev other_file_section : Section
other_file_section = record (made shape 2 1 2 true []) { hdr1 = text_of (head1_pieces other_head) }

other_file_id : (told : FileForm) → TellsForm told (made shape 1 1 1 true [])
    → TellsForm told other_file_section → ⊥
other_file_id = search (makes, apart, plain, other_head_is, second_is, shape_fits) depth 9

-- another block length, which is not part of the form
abbrev shorter : Shape
shorter = shape_of Fixed 400 80 0 (λ _. lit≤ tt)

same_form : form shorter ≡ form shape
same_form = refl

-- Small sets that are not valid only because of the size of one block, wherever it is; and valid
-- sets with blocks of the greatest size, and with a buffer offset.

-- ---- all clauses except the one about the sizes of blocks

-- a section with further blocks after its header labels and after its trailer label
abbrev section : List (List ℕ) → List Filled → List (List ℕ) → Section
section headers blocks trailers =
    record (made shape 1 1 1 true blocks) { headers = headers; trailers = trailers }

record AllButSized (s : Section) : Type 0 where
  volumes : AllByRecursion IsVolume (set_of s).volumes
  header : (h : Head1) × IsHeader set_id (placed 1 1 s) h
  trailer : (t : Trail1) × IsTrailer (placed 1 1 s) t
  volume : (1 ≤ s.volume) × (s.volume ≤ 1)
  few : length s.blocks ≤ most_blocks
  files : AllByRecursion IsFile (set_of s).files
  first : StartsOnFirst (sections (set_of s))
  goes_on : Chain GoesOn (sections (set_of s))

-- if the sizes are valid too, the set is valid
lawful_if_sized : (s : Section) → AllButSized s
    → AllByRecursion IsTapeItem (map item_of (section_entries s)) → IsLawful (set_of s)
lawful_if_sized s but sized = search

head_fits : HeadFits (head 1 1)
head_fits = record { sect = (lit≤ tt, lit≤ tt); sequence = (lit≤ tt, lit≤ tt) }

but_sized : (headers : List (List ℕ)) (blocks : List Filled) (trailers : List (List ℕ))
    → length blocks ≤ most_blocks
    → AllByRecursion (λ b. Holds Fixed 80 0 b.bytes b.parts) blocks
    → InOrder false (section_parts (section headers blocks trailers ∷ [])) false
    → AllButSized (section headers blocks trailers)
but_sized headers blocks trailers few held order =
    search (makes, alike_file shape, told, hdr1_is 1 1 head_fits, label) depth 9
  where
    label : IsTrail1 (trailer true 1 1 (label_count (length blocks)))
        (trail true 1 1 (label_count (length blocks)))
    label = trailer_is true 1 1 (label_count (length blocks))
        (record { head = head_fits; blocks = label_count_most (length blocks) })

    told : TellsForm (form shape) (section headers blocks trailers)
    told = record {
      head = head 1 1;
      second = second_of shape;
      hdr1 = hdr1_is 1 1 head_fits;
      hdr2 = second_is kinds.Hdr2 shape tt shape_fits;
      told = refl;
    }

-- ---- empty blocks

-- a further header block is empty
empty_header : AllButSized (section ([] ∷ []) [] [])
    × (IsLawful (set_of (section ([] ∷ []) [] [])) → ⊥)
empty_header = search (makes, but_sized) depth 9

-- a data block is empty, and has no parts
abbrev no_bytes : Filled
no_bytes = record { bytes = []; parts = [] }

empty_data : AllButSized (section [] (no_bytes ∷ []) [])
    × (IsLawful (set_of (section [] (no_bytes ∷ []) [])) → ⊥)
empty_data = (
  but_sized [] (no_bytes ∷ []) [] (lit≤ tt)
      (([], record { reaches = lit≤ tt; units = tt; body = refl }, (refl, lit< tt)), tt) refl,
  λ l. absurd (omega (arith, l.each.0.sized.1.1.1.0.0)),
)

-- ---- long blocks

-- a section that ends with a further block of n bytes; n stays a variable in the proofs
abbrev ended_by : ℕ → Section
ended_by n = section [] [] (replicate n 0 ∷ [])

but_size : (n : ℕ) → AllButSized (ended_by n)
but_size n = but_sized [] [] (replicate n 0 ∷ []) (lit≤ tt) tt refl

of_size : (n : ℕ) → 1 ≤ n → n ≤ 99999 → IsTapeItem (block (replicate n 0))
of_size n a b = search (makes, length-replicate) depth 9

long_lawful : (n : ℕ) → 1 ≤ n → n ≤ 99999 → IsLawful (set_of (ended_by n))
long_lawful n a b = search (makes, lawful_if_sized, but_size, second_sized, shape_fits, of_size)
    depth 9

too_long : (n : ℕ) → 99999 < n → AllButSized (ended_by n) × (IsLawful (set_of (ended_by n)) → ⊥)
too_long n h = (
  but_size n,
  λ l. absurd (omega (arith, h, l.each.0.sized.1.1.1.1.1.0.1, length-replicate {A = ℕ} n 0)),
)

longest_lawful : IsLawful (set_of (ended_by 99999))
longest_lawful = long_lawful 99999 (lit≤ tt) (lit≤ tt)

one_byte_too_long : AllButSized (ended_by 100000) × (IsLawful (set_of (ended_by 100000)) → ⊥)
one_byte_too_long = too_long 100000 (lit< tt)

-- ---- bytes before the records

-- each block begins with two bytes that are not part of a record
abbrev offset_shape : Shape
offset_shape = shape_of Fixed 802 80 2 (λ _. lit≤ tt)

offset_fits : Head2Fits (second_of offset_shape)
offset_fits = record {
  standard = refl;
  block_len = lit≤ tt;
  rec_len = (lit≤ tt, lit≤ tt);
  offset = lit≤ tt;
}

abbrev behind_two : Filled
behind_two = record { bytes = 33 ∷ 34 ∷ record_of 1; parts = whole (record_of 1) ∷ [] }

behind_two_holds : Holds Fixed 80 2 behind_two.bytes behind_two.parts
behind_two_holds =
    ([], record { reaches = lit≤ tt; units = ((refl, refl), tt); body = refl }, (refl, lit< tt))

abbrev offset_set : FileSet
offset_set = set_of (made offset_shape 1 1 1 true (behind_two ∷ []))

offset_lawful : IsLawful offset_set
offset_lawful =
    search (makes, alike_file offset_shape, offset_fits, behind_two_holds) depth 9

offset_before : before offset_set 1 Finished ≡ whole (record_of 1) ∷ []
offset_before = refl
