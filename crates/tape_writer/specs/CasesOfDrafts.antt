-- Test cases for the definitions of sets that are being written. They are part of the contract of
-- the function `laws::cases`.
use Rattle.std.specs.Prelude.{map, ◌∷◌, List, false, length, ℕ, ◌<◌, ◌≡◌, true, ◌++◌, ◌+◌, ◌≤◌, []}
use Rattle.std.specs.List.{AllByRecursion}
use Rattle.tape_image.specs.{Tape.mark, Tape.block, Tape.TapeItem}
use Rattle.tape_label.specs.declared.values.Vol1.{Vol1}
use Rattle.tape_blocks.specs.Packing.{HasRecordLength, Packing, longest_block, the_packing}
use Rattle.tape_blocks.specs.{Tight.parts_of_all, Tight.Filled, Records.AreRecordsOf, Run.Going}
use Rattle.tape_blocks.specs.{Run.RunOf, Spans.InOrder, declared.parts.Shape.Shape}
use Rattle.tape_set.specs.Layout.{ends_file, Volume, Placed, Section}
use Rattle.tape_set.specs.{Sizes.items_size, Tight.IsTightEnd, Tight.IsTightChange, Lawful.GoesOn}
use Rattle.tape_set.specs.{Lawful.IsSection, Lawful.StartsOnFirst}
use Rattle.tape_writer.specs.Draft.{Between, Draft, IsDone, IsOpen, IsResting, OfLast, here, placed}
use Rattle.tape_writer.specs.Draft.{Steady, Within, closing, ended_volumes, open_blocks, open_items}
use Rattle.tape_writer.specs.Inside.{Continues, IsFiling, IsFlat, IsInside, IsPacking, IsStuck}
use Rattle.tape_writer.specs.Labels.{IsReady, header_items, trailer_items, volume_label}
use Rattle.tape_writer.specs.Told.{labelled, AreFiled, IsOfFile, IsWithin, Told}
use Rattle.tape_writer.specs.{Draft.IsRoomy, Draft.body_items, Inside.IsBetween, Inside.IsWaiting}
use Rattle.tape_writer.specs.{declared.course.Course.Course, declared.course.Opened.Opened}
use Rattle.tape_writer.specs.{Tapes.Ended, Tapes.Tapes, Tapes.UnderWay}
use Rattle.tape_blocks.specs.Tight as packing

-- ---- worked drafts

-- a section with the given numbers
abbrev pub as_placed : ℕ → ℕ → Section → Placed
as_placed file sect s = record { file = file; sect = sect; section = s }

-- a draft in which only the label of the first volume is written
abbrev pub nothing_yet : Draft
nothing_yet = record { files = []; sects = []; blocks = []; past = 0 }

-- a draft with two files of one section each, and the first section of the third file with the
-- given blocks, on volumes of which three have ended
abbrev pub third_file : Section → Section → Section → List Filled → Draft
third_file u v s blocks = record {
  files = (u ∷ []) ∷ (v ∷ []) ∷ [];
  sects = s ∷ [];
  blocks = blocks;
  past = 3;
}

-- a draft with two such files, before the third file
abbrev pub two_files : Section → Section → Draft
two_files u v = record { files = (u ∷ []) ∷ (v ∷ []) ∷ []; sects = []; blocks = []; past = 3 }

-- a draft with another file complete on the first volume, a section of the given file on the
-- second, and a block of its next section on the third
abbrev pub third_volume : Opened → Opened → Filled → Filled → Filled → Filled → Filled → Draft
third_volume other file a b c d e = record {
  files = (closing other 1 1 (a ∷ []) true ∷ []) ∷ [];
  sects = closing file 2 1 (b ∷ c ∷ d ∷ []) false ∷ [];
  blocks = e ∷ [];
  past = 2;
}

-- a draft with the file complete, in one block on the first volume
abbrev pub one_file : Opened → Filled → Draft
one_file file a = record {
  files = (closing file 1 1 (a ∷ []) true ∷ []) ∷ [];
  sects = [];
  blocks = [];
  past = 0;
}

-- the position after the headers of the first file, when `used` bytes are used
abbrev pub first_course : ℕ → Course
first_course used = record { volume = 1; sect = 1; count = 0; used = used }

-- the label of the first volume, and those headers
abbrev pub first_items : Vol1 → Opened → List TapeItem
first_items v file = block (volume_label v) ∷ header_items file 1

-- ---- cases

-- positions on the volumes
pub record CasesOfPositions (volumes : List Volume) (capacity : ℕ) (id : List ℕ) (file : Opened)
    (course : Course) : Type 0 where
  -- the finished sections are valid, are in a valid order, and end and change volumes as in a tight
  -- set
  pub done : (n : ℕ) (x y : Placed) → IsDone volumes capacity id n (x ∷ y ∷ [])
      → IsSection id n x × IsSection id n y × StartsOnFirst (x ∷ y ∷ []) × GoesOn x y
      × IsTightEnd volumes capacity [] x × IsTightEnd volumes capacity (x ∷ []) y
      × IsTightChange volumes capacity [] x y
  -- between two files
  pub between_files : (u v : Section) → Between volumes capacity id course (two_files u v)
      → (course.volume ≡ 4) × (course.volume ≤ length volumes)
      × IsDone volumes capacity id 4 (as_placed 1 1 u ∷ as_placed 2 1 v ∷ [])
      × (v.volume ≡ course.volume)
      × AllByRecursion (IsWithin capacity) (ended_volumes volumes (two_files u v))
      × (course.used ≡ items_size (body_items volumes (two_files u v)))
      × (course.used + 372 ≤ capacity)
  -- between two files no section is open, every file has a section, and before the first file no
  -- volume has ended
  pub none_open : (d : Draft) → Between volumes capacity id course d
      → (d.sects ≡ []) × (d.blocks ≡ [])
  pub none_empty : (u : Section) (past : ℕ) → Between volumes capacity id course
      (record { files = (u ∷ []) ∷ [] ∷ []; sects = []; blocks = []; past = past }) → ⊥
  pub none_ended : (past : ℕ) → Between volumes capacity id course
      (record { files = []; sects = []; blocks = []; past = past }) → past ≡ 0
  -- inside a file, its number and the numbers of the section and of the volume follow those that
  -- have ended
  pub inside_file : (next : List Filled) (u v s : Section) (b : Filled)
      → Within volumes capacity id file course next (third_file u v s (b ∷ []))
      → (file.head.sequence ≡ 3) × (course.volume ≡ 4) × (course.sect ≡ 2) × (course.count ≡ 1)
      × (file.head.set_id ≡ id) × IsReady file × (course.volume ≤ length volumes)
      × (course.sect ≤ course.volume) × (course.count ≤ course.used)
      × ((0 < length b.bytes) × (length b.bytes ≤ longest_block))
  -- the finished sections of the file continue in the next, and the current section follows a tight
  -- change
  pub behind_sections : (next : List Filled) (u v s : Section) (b : Filled)
      → Within volumes capacity id file course next (third_file u v s (b ∷ []))
      → IsDone volumes capacity id 4 (as_placed 1 1 u ∷ as_placed 2 1 v ∷ as_placed 3 1 s ∷ [])
      × GoesOn (as_placed 3 1 s) (here file course [] true)
      × IsTightChange volumes capacity (as_placed 1 1 u ∷ as_placed 2 1 v ∷ []) (as_placed 3 1 s)
      (here file course next true)
      × IsOfFile file (as_placed file.head.sequence 1 s) × (ends_file s ≡ false)
  -- volumes are within the capacity, and the current volume has room for the end of a volume
  pub inside_room : (next : List Filled) (d : Draft)
      → Within volumes capacity id file course next d
      → AllByRecursion (IsWithin capacity) (ended_volumes volumes d)
      × (course.used ≡ items_size (open_items volumes file course d))
      × (course.used + 192 ≤ capacity)
  pub none_ended_inside : (next blocks : List Filled) (past : ℕ)
      → Within volumes capacity id file course next
      (record { files = []; sects = []; blocks = blocks; past = past }) → past ≡ 0
  -- between two calls, no section except the first of its file is without blocks, and the next
  -- section begins with its own blocks
  pub some_block : (u v s : Section)
      → Steady volumes capacity id file course (third_file u v s []) → ⊥
  pub begins_with : (d : Draft) → Steady volumes capacity id file course d
      → Within volumes capacity id file course d.blocks d

-- the contents of the volumes
pub record CasesOfDrafts : Type 0 where
  -- sections are numbered in their files, and files in the set; the blocks of the current file are
  -- those of its finished sections and of its current one
  pub in_their_order : (u v s : Section) (blocks : List Filled)
      → placed (third_file u v s blocks)
      ≡ as_placed 1 1 u ∷ as_placed 2 1 v ∷ as_placed 3 1 s ∷ []
  pub blocks_of_file : (other file : Opened) (a b c d e : Filled)
      → open_blocks (third_volume other file a b c d e) ≡ b ∷ c ∷ d ∷ e ∷ []
  -- a volume that has ended contains its label, a section with its headers, data and trailer, and a
  -- mark
  pub volumes_ended : (v w x : Vol1) (other file : Opened) (a b c d e : Filled)
      → ended_volumes (map labelled (v ∷ w ∷ x ∷ [])) (third_volume other file a b c d e)
      ≡ (block (volume_label v) ∷ header_items other 1 ++ block a.bytes
      ∷ trailer_items other 1 1 true ++ mark ∷ [])
      ∷ (block (volume_label w) ∷ header_items file 1 ++ block b.bytes ∷ block c.bytes
      ∷ block d.bytes ∷ trailer_items file 1 3 false ++ mark ∷ []) ∷ []
  -- the current volume has no trailer yet inside a file, and no second mark between two files
  pub volume_open : (v w x : Vol1) (other file : Opened) (course : Course) (a b c d e : Filled)
      → open_items (map labelled (v ∷ w ∷ x ∷ [])) file course (third_volume other file a b c d e)
      ≡ block (volume_label x) ∷ header_items file course.sect ++ block e.bytes ∷ []
  pub volume_resting : (v : Vol1) (file : Opened) (a : Filled)
      → body_items (map labelled (v ∷ [])) (one_file file a)
      ≡ block (volume_label v) ∷ header_items file 1 ++ block a.bytes ∷ trailer_items file 1 1 true
  -- the current section has the numbers of its file and of its place in the file, its blocks, and
  -- the current volume
  pub section_here : (file : Opened) (course : Course) (blocks : List Filled)
      → ((here file course blocks true).file ≡ file.head.sequence)
      × ((here file course blocks true).sect ≡ course.sect)
      × ((here file course blocks true).section.volume ≡ course.volume)
      × ((here file course blocks true).section.blocks ≡ blocks)
  -- a property of the last section is stated for it and for the sections before it
  pub of_last : (x y z : Placed) (xs : List Placed)
      → OfLast (x ∷ y ∷ []) (λ before last. (before ≡ xs) × (last ≡ z)) → (x ∷ [] ≡ xs) × (y ≡ z)
  pub positions : (volumes : List Volume) (capacity : ℕ) (id : List ℕ) (file : Opened)
      (course : Course) → CasesOfPositions volumes capacity id file course
  -- the numbers allow the next step
  pub roomy : (capacity volumes : ℕ) (course : Course) → IsRoomy capacity volumes course
      → (course.used + 192 ≤ capacity) × (course.count ≤ course.used) × (1 ≤ course.sect)
      × (course.sect ≤ course.volume) × (course.volume ≤ volumes)
  -- the tapes contain the draft after the label of the first volume
  pub resting_first : (v : Vol1) (capacity : ℕ) (id : List ℕ) (used : ℕ)
      → used ≡ items_size (block (volume_label v) ∷ []) → used + 372 ≤ capacity
      → IsResting (λ t. t ≡ UnderWay [] (block (volume_label v) ∷ [])) (v ∷ []) capacity id
      (record { volume = 1; sect = 0; count = 0; used = used }) nothing_yet

-- the records passed for a file, and the tapes after them
pub record CasesInside (tapes : Tapes) (volumes : List Vol1) (capacity : ℕ) (id : List ℕ)
    (file : Opened) (course : Course) : Type 0 where
  -- inside a file, the records so far are in its blocks, and the rest is in the packer
  pub inside : (p : Packing) (fs : List (List Section)) (records : List (List ℕ))
      (i : IsInside (λ t. t ≡ tapes) volumes capacity id file course p fs records)
      → (i.draft.files ≡ fs) × (p.shape ≡ file.shape) × (p.begun ≡ false)
      × RunOf (open_blocks i.draft) p records × AreRecordsOf file.shape records
      × IsOpen (λ t. t ≡ tapes) volumes capacity id file course i.draft
  -- in the middle of a record, a rest of the record is still to be packed
  pub middle : (p : Packing) (fs : List (List Section)) (records : List (List ℕ))
      (whole rest : List ℕ)
      (i : IsPacking (λ t. t ≡ tapes) volumes capacity id file course p fs records whole rest)
      → (i.draft.files ≡ fs) × (p.shape ≡ file.shape)
      × Going (open_blocks i.draft) p records whole rest × AreRecordsOf file.shape records
      × IsOpen (λ t. t ≡ tapes) volumes capacity id file course i.draft
  -- at the end of a file, all its records are in blocks
  pub flat : (fs : List (List Section)) (records : List (List ℕ))
      (i : IsFlat (λ t. t ≡ tapes) volumes capacity id file course fs records)
      → (i.draft.files ≡ fs) × packing.IsTight file.shape records (open_blocks i.draft)
      × AreRecordsOf file.shape records
      × IsOpen (λ t. t ≡ tapes) volumes capacity id file course i.draft
  -- between two files, the files passed are complete; inside a file, the files before it are
  pub between : (told : List Told)
      (b : IsBetween (λ t. t ≡ tapes) volumes capacity id course told)
      → AreFiled capacity told b.draft.files
      × IsResting (λ t. t ≡ tapes) volumes capacity id course b.draft
  pub filing : (p : Packing) (past : List Told) (records : List (List ℕ))
      (f : IsFiling (λ t. t ≡ tapes) volumes capacity id file course p past records)
      → AreFiled capacity past f.files
      × IsInside (λ t. t ≡ tapes) volumes capacity id file course p f.files records
  -- before the first file the tapes are empty, and after a file they contain it
  pub waiting_first : IsWaiting (λ t. t ≡ tapes) volumes capacity id course []
      → (course.volume ≡ 0) × (Ended [] ≡ tapes)
  pub waiting_behind : (t : Told) → IsWaiting (λ u. u ≡ tapes) volumes capacity id course (t ∷ [])
      → IsBetween (λ u. u ≡ tapes) volumes capacity id course (t ∷ [])
  -- if no volume is left, the tapes contain the open section
  pub stuck_open : (fs : List (List Section)) (records : List (List ℕ))
      (s : IsStuck (λ t. t ≡ tapes) volumes capacity id file course fs records)
      → IsOpen (λ t. t ≡ tapes) volumes capacity id file course s.draft
  -- the tapes contain exactly the draft
  pub open_held : (d : Draft) → IsOpen (λ t. t ≡ tapes) volumes capacity id file course d
      → (UnderWay (ended_volumes (map labelled volumes) d)
      (open_items (map labelled volumes) file course d) ≡ tapes)
      × Steady (map labelled volumes) capacity id file course d
  pub resting_held : (d : Draft) → IsResting (λ t. t ≡ tapes) volumes capacity id course d
      → (UnderWay (ended_volumes (map labelled volumes) d)
      (body_items (map labelled volumes) d) ≡ tapes)
      × Between (map labelled volumes) capacity id course d

-- the records passed for a file, and their lengths
pub record CasesOfInside : Type 0 where
  pub files : (tapes : Tapes) (volumes : List Vol1) (capacity : ℕ) (id : List ℕ) (file : Opened)
      (course : Course) → CasesInside tapes volumes capacity id file course
  -- each record has one of the lengths of the shape
  pub lengths : (shape : Shape) (r s : List ℕ) → AreRecordsOf shape (r ∷ s ∷ [])
      → HasRecordLength shape.format shape.rec_len (length r)
      × HasRecordLength shape.format shape.rec_len (length s)
  -- before the first file the tapes are empty
  pub nothing_told : (volumes : List Vol1) (capacity : ℕ) (id : List ℕ)
      → IsWaiting (λ t. t ≡ Ended []) volumes capacity id
      (record { volume = 0; sect = 0; count = 0; used = 0 }) []
  -- after the headers of the first file no records were passed, whether or not more follow
  pub begun_first : (v : Vol1) (capacity : ℕ) (file : Opened) (used : ℕ) → IsReady file
      → file.head.sequence ≡ 1 → used ≡ items_size (first_items v file) → used + 192 ≤ capacity
      → IsFiling (λ t. t ≡ UnderWay [] (first_items v file)) (v ∷ []) capacity file.head.set_id file
      (first_course used) (the_packing file.shape [] false false) [] []
  pub flat_first : (v : Vol1) (capacity : ℕ) (file : Opened) (used : ℕ) → IsReady file
      → file.head.sequence ≡ 1 → used ≡ items_size (first_items v file) → used + 192 ≤ capacity
      → IsFlat (λ t. t ≡ UnderWay [] (first_items v file)) (v ∷ []) capacity file.head.set_id file
      (first_course used) [] []
  -- the parts of the blocks, and those after them, are in span order, and leave no record
  -- unfinished
  pub whole_records : (shape : Shape) (records : List (List ℕ)) (blocks next : List Filled)
      (c : Continues shape records blocks next)
      → InOrder false (parts_of_all (blocks ++ next) ++ c.behind) false
