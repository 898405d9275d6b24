-- The file sets that the wider reading recovers: as the valid ones, but with second labels in any
-- of the five formats.
use Rattle.std.specs.Prelude.{◌≡◌, false, List, length}
use Rattle.std.specs.List.{AllByRecursion}
use Rattle.tape_label.specs.declared.values.Kind.TheVariants as kinds
use Rattle.tape_label.specs.declared.values.{Head1.Head1, Head2.Head2}
use Rattle.tape_label.specs.{Head1.IsHead1, WideHead2.IsWideHead2}
use Rattle.tape_blocks.specs.{Block.Holds, Spans.InOrder, Tight.Chain}
use Rattle.tape_set.specs.Layout.{FileSet, Section, sections}
use Rattle.tape_set.specs.Before.{section_parts}
use Rattle.tape_set.specs.Lawful.{FileForm, form_of, Ends, IsVolume, IsSection, StartsOnFirst}
use Rattle.tape_set.specs.Lawful.{GoesOn}

-- The section's HDR1 and HDR2 state the fields `form`, in the wider reading.
pub record TellsWideForm (form : FileForm) (s : Section) : Type 0 where
  pub head : Head1
  pub second : Head2
  pub hdr1 : IsHead1 s.hdr1 head
  pub hdr2 : IsWideHead2 s.hdr2 kinds.Hdr2 second
  pub told : form_of head second ≡ form

-- The same, and each data block contains its parts in this form.
pub record HasWideForm (form : FileForm) (s : Section) : Type 0 where
  pub labels : TellsWideForm form s
  pub held : AllByRecursion
      (λ b. Holds form.format form.rec_len form.offset b.bytes b.parts) s.blocks

-- The file ends with its last section, its sections have the same form, and its parts are in span
-- order and leave no record unfinished.
pub record IsReadableFile (f : List Section) : Type 0 where
  pub ends : Ends f
  pub alike : (form : FileForm) × AllByRecursion (HasWideForm form) f
  pub order : InOrder false (section_parts f) false

-- A file set that the wider reading recovers: the volumes and sections are valid, each file is as
-- above, and the sections follow one another as in a valid set.
pub record IsReadable (set : FileSet) : Type 0 where
  pub volumes : AllByRecursion IsVolume set.volumes
  pub each : AllByRecursion (IsSection set.set_id (length set.volumes)) (sections set)
  pub files : AllByRecursion IsReadableFile set.files
  pub first : StartsOnFirst (sections set)
  pub goes_on : Chain GoesOn (sections set)
