-- The files and records passed to a writer, and the meaning of writing them.
use Rattle.std.specs.Prelude.{Bool, List, None, take, ◌++◌, length, ℕ, [], map, ◌+◌, ◌∷◌, ◌≡◌, ◌≤◌}
use Rattle.std.specs.List.{AllByRecursion}
use Rattle.tape_image.specs.Tape.{TapeItem}
use Rattle.tape_label.specs.{declared.values.Head1.Head1, declared.values.Vol1.Vol1}
use Rattle.tape_blocks.specs.{declared.parts.Shape.Shape, Spans.join}
use Rattle.tape_set.specs.Layout.{Volume, Placed, Section, all_items, numbered, FileSet}
use Rattle.tape_set.specs.{Lawful.IsFile, Lawful.IsLawful, Tight.IsTight, Tight.IsTightFile}
use Rattle.tape_set.specs.{Sizes.items_size, Before.section_parts}
use Rattle.tape_writer.specs.Labels.{first_label, second_label, trailer_label, volume_label}
use Rattle.tape_writer.specs.{Labels.second_kind, Tapes.Ended, Tapes.Tapes}
use Rattle.tape_writer.specs.{declared.course.Opened.Opened}
use Rattle.tape_label.specs.declared.values.Kind.TheVariants as kinds

-- ---- passed

-- A file that has begun: its head and shape, and the records passed so far.
pub record Told : Type 0 where
  pub file : Opened
  pub records : List (List ℕ)

-- the file that `begin_file` begins: the set identifier, the section and the number are replaced
abbrev pub opened_by : List ℕ → ℕ → Head1 → Shape → Opened
opened_by set_id number head shape = record {
  head = record head { set_id = set_id; sect = 1; sequence = number };
  shape = shape;
}

-- one more file has begun after the files passed
abbrev pub with_file : List ℕ → List Told → Head1 → Shape → List Told
with_file set_id told head shape =
    told ++ record { file = opened_by set_id (length told + 1) head shape; records = [] } ∷ []

-- one more record was passed for the last file
abbrev pub with_record : List Told → List ℕ → List Told
with_record [] r = []
with_record (t ∷ []) r = record { file = t.file; records = t.records ++ r ∷ [] } ∷ []
with_record (t ∷ u ∷ ts) r = t ∷ with_record (u ∷ ts) r

-- ---- written

-- a volume with the given VOL1 and no further label
abbrev pub labelled : Vol1 → Volume
labelled v = record { vol1 = volume_label v; labels = [] }

-- the items and the end-of-medium marker are within the capacity
abbrev pub IsWithin : ℕ → List TapeItem → Type 0
IsWithin capacity items = items_size items + 4 ≤ capacity

-- The section's labels are exactly those written for the file.
pub record IsOfFile (file : Opened) (x : Placed) : Type 0 where
  pub number : (1 ≤ x.sect) × (x.sect ≤ 9999)
  pub hdr1 : x.section.hdr1 ≡ first_label file x.sect
  pub hdr2 : x.section.hdr2 ≡ second_label file kinds.Hdr2
  pub headers : x.section.headers ≡ []
  pub eof : Bool
  pub trailer : x.section.trailer ≡ trailer_label file x.sect (length x.section.blocks) eof
  pub trailers : x.section.trailers ≡ second_label file (second_kind eof) ∷ []

-- The given sections are the file passed: they have its labels, have no unused space in its shape,
-- and contain its records.
pub record IsFiled (capacity : ℕ) (told : Told) (f : List Section) : Type 0 where
  pub is_file : IsFile f
  pub tight : IsTightFile capacity told.file.shape f
  pub labels : AllByRecursion (IsOfFile told.file) (numbered told.file.head.sequence 1 f)
  pub joins : join (section_parts f) ≡ record { records = told.records; rest = None }

-- each file is the one passed with the same number
abbrev pub AreFiled : ℕ → List Told → List (List Section) → Type 0
AreFiled capacity [] [] = Unit {0}
AreFiled capacity (t ∷ ts) (f ∷ fs) = IsFiled capacity t f × AreFiled capacity ts fs
AreFiled capacity _ _ = ⊥

-- The tapes contain the volumes of a valid set without unused space, for the given capacity and
-- shapes. Its files are the files passed, its volumes are the first of the volumes passed, and none
-- is longer than the capacity.
pub record IsWrittenSet (H : Tapes → Type 0) (volumes : List Vol1) (capacity : ℕ) (set_id : List ℕ)
    (told : List Told) : Type 0 where
  pub layout : FileSet
  pub lawful : IsLawful layout
  pub tight : IsTight layout capacity (map (λ t. t.file.shape) told)
  pub held : H (Ended (all_items layout))
  pub within : AllByRecursion (IsWithin capacity) (all_items layout)
  pub of_set : layout.set_id ≡ set_id
  pub of_volumes : layout.volumes ≡ take (length layout.volumes) (map labelled volumes)
  pub files : AreFiled capacity told layout.files
