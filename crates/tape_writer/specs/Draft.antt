-- A set that is being written: the contents of its volumes, and its structure so far.
use Rattle.std.specs.Prelude.{List, false, length, ◌+◌, Bool, map, ℕ, ◌++◌, ◌≡◌, true, ◌<◌}
use Rattle.std.specs.Prelude.{slice_get, zero, ◌∷◌, [], suc, ◌≤◌}
use Rattle.std.specs.List.{AllByRecursion}
use Rattle.tape_image.specs.Tape.{TapeItem, block}
use Rattle.tape_label.specs.declared.values.Vol1.{Vol1}
use Rattle.tape_blocks.specs.{Tight.Chain, Tight.Filled, Packing.longest_block}
use Rattle.tape_set.specs.Layout.{Volume, Placed, ends_file, numbered, Entry, a_mark, all_entries}
use Rattle.tape_set.specs.Layout.{all_numbered, group_of, item_of, on, Section}
use Rattle.tape_set.specs.Tight.{IsTightChange, IsTightEnd, ChainBehind, EachBehind}
use Rattle.tape_set.specs.{Sizes.items_size, Sizes.headers_size, Sizes.volume_end_size}
use Rattle.tape_set.specs.{Lawful.GoesOn, Lawful.StartsOnFirst, Lawful.IsSection}
use Rattle.tape_set.specs.{Before.blocks_of_all}
use Rattle.tape_writer.specs.Labels.{IsReady, first_label, header_items, second_kind, trailer_label}
use Rattle.tape_writer.specs.Labels.{second_label}
use Rattle.tape_writer.specs.{Tapes.Tapes, Tapes.UnderWay, Told.IsOfFile, Told.IsWithin}
use Rattle.tape_writer.specs.{Told.labelled, declared.course.Course.Course}
use Rattle.tape_writer.specs.{declared.course.Opened.Opened}
use Rattle.tape_label.specs.declared.values.Kind.TheVariants as kinds

-- The files that are finished; the finished sections of the current file, and the blocks of its
-- next section; and the number of volumes that have ended.
pub record Draft : Type 0 where
  pub files : List (List Section)
  pub sects : List Section
  pub blocks : List Filled
  pub past : ℕ

-- the finished sections, in order
abbrev pub placed : Draft → List Placed
placed d = all_numbered 1 d.files ++ numbered (length d.files + 1) 1 d.sects

-- the blocks of the current file
abbrev pub open_blocks : Draft → List Filled
open_blocks d = blocks_of_all d.sects ++ d.blocks

-- the contents of the volume after the first k volumes, without its last mark
abbrev pub body : List Volume → List Placed → ℕ → List Entry
body volumes xs k = group_of (slice_get volumes k) ++ all_entries (on (k + 1) xs)

-- the items of the first k volumes
abbrev pub first_volumes : List Volume → List Placed → ℕ → List (List TapeItem)
first_volumes volumes xs zero = []
first_volumes volumes xs (suc k) =
    first_volumes volumes xs k ++ map item_of (body volumes xs k ++ a_mark ∷ []) ∷ []

-- a section with its trailer
abbrev pub closing : Opened → ℕ → ℕ → List Filled → Bool → Section
closing file volume sect blocks eof = record {
  volume = volume;
  hdr1 = first_label file sect;
  hdr2 = second_label file kinds.Hdr2;
  headers = [];
  blocks = blocks;
  trailer = trailer_label file sect (length blocks) eof;
  trailers = second_label file (second_kind eof) ∷ [];
}

-- the current section, as if it ended here
abbrev pub here : Opened → Course → List Filled → Bool → Placed
here file course blocks eof = record {
  file = file.head.sequence;
  sect = course.sect;
  section = closing file course.volume course.sect blocks eof;
}

-- a data block
abbrev pub data_item : Filled → TapeItem
data_item b = block b.bytes

-- the items of the current volume between two files
abbrev pub body_items : List Volume → Draft → List TapeItem
body_items volumes d = map item_of (body volumes (placed d) d.past)

-- the items of the current volume inside a file
abbrev pub open_items : List Volume → Opened → Course → Draft → List TapeItem
open_items volumes file course d =
    body_items volumes d ++ header_items file course.sect ++ map data_item d.blocks

-- the items of the volumes that have ended
abbrev pub ended_volumes : List Volume → Draft → List (List TapeItem)
ended_volumes volumes d = first_volumes volumes (placed d) d.past

-- the finished sections on the first n volumes, and the rules that they satisfy
pub record IsDone (volumes : List Volume) (capacity : ℕ) (set_id : List ℕ) (n : ℕ)
    (xs : List Placed) : Type 0 where
  pub each : AllByRecursion (IsSection set_id n) xs
  pub first : StartsOnFirst xs
  pub chain : Chain GoesOn xs
  pub ends : EachBehind (IsTightEnd volumes capacity) [] xs
  pub changes : ChainBehind (IsTightChange volumes capacity) [] xs

-- a property of the last section and those before it
abbrev pub OfLast : List Placed → (List Placed → Placed → Type 0) → Type 0
OfLast xs P = (ys : List Placed) (x : Placed) → xs ≡ ys ++ x ∷ [] → P ys x

-- a section after which the file continues
abbrev pub IsGoing : Opened → Placed → Type 0
IsGoing file x = IsOfFile file x × (ends_file x.section ≡ false)

-- The state between two files.
pub record Between (volumes : List Volume) (capacity : ℕ) (set_id : List ℕ) (course : Course)
    (d : Draft) : Type 0 where
  pub no_sects : d.sects ≡ []
  pub no_blocks : d.blocks ≡ []
  pub volume : course.volume ≡ d.past + 1
  pub few : course.volume ≤ length volumes
  pub done : IsDone volumes capacity set_id (d.past + 1) (placed d)
  pub last : OfLast (placed d)
      (λ ys x. (x.file ≡ length d.files) × (x.section.volume ≡ course.volume))
  pub fresh : placed d ≡ [] → d.past ≡ 0
  pub within : AllByRecursion (IsWithin capacity) (ended_volumes volumes d)
  pub used : course.used ≡ items_size (body_items volumes d)
  pub room : course.used + (headers_size + volume_end_size) ≤ capacity

-- The state inside a file whose current section begins with the blocks `next`.
pub record Within (volumes : List Volume) (capacity : ℕ) (set_id : List ℕ) (file : Opened)
    (course : Course) (next : List Filled) (d : Draft) : Type 0 where
  pub ready : IsReady file
  pub of_set : file.head.set_id ≡ set_id
  pub sequence : file.head.sequence ≡ length d.files + 1
  pub volume : course.volume ≡ d.past + 1
  pub few : course.volume ≤ length volumes
  pub sect : course.sect ≡ length d.sects + 1
  pub sect_most : course.sect ≤ course.volume
  pub count : course.count ≡ length d.blocks
  pub count_most : course.count ≤ course.used
  pub sized : AllByRecursion (λ b. (0 < length b.bytes) × (length b.bytes ≤ longest_block))
      d.blocks
  pub done : IsDone volumes capacity set_id (d.past + 1) (placed d)
  pub goes : OfLast (placed d) (λ ys x. GoesOn x (here file course [] true))
  pub fresh : placed d ≡ [] → d.past ≡ 0
  pub change : OfLast (placed d)
      (λ ys x. IsTightChange volumes capacity ys x (here file course next true))
  pub going : AllByRecursion (IsGoing file) (numbered file.head.sequence 1 d.sects)
  pub within : AllByRecursion (IsWithin capacity) (ended_volumes volumes d)
  pub used : course.used ≡ items_size (open_items volumes file course d)
  pub room : course.used + volume_end_size ≤ capacity

-- The state between two calls inside a file.
pub record Steady (volumes : List Volume) (capacity : ℕ) (set_id : List ℕ) (file : Opened)
    (course : Course) (d : Draft) : Type 0 where
  pub inside : Within volumes capacity set_id file course d.blocks d
  pub begins : d.blocks ≡ [] → OfLast (placed d) (λ ys x. (x.file ≡ file.head.sequence) → ⊥)

-- the position after a section has ended with EOV1 and EOV2: VOL1 and the headers are written on
-- the next volume
abbrev pub changed_course : Course → Course
changed_course course =
    record { volume = course.volume + 1; sect = course.sect + 1; count = 0; used = 268 }

-- Inside a file, the tapes contain the items that the draft describes.
pub record IsOpen (H : Tapes → Type 0) (volumes : List Vol1) (capacity : ℕ) (set_id : List ℕ)
    (file : Opened) (course : Course) (d : Draft) : Type 0 where
  pub steady : Steady (map labelled volumes) capacity set_id file course d
  pub held : H (UnderWay (ended_volumes (map labelled volumes) d)
      (open_items (map labelled volumes) file course d))

-- Between two files, the tapes contain the items that the draft describes.
pub record IsResting (H : Tapes → Type 0) (volumes : List Vol1) (capacity : ℕ) (set_id : List ℕ)
    (course : Course) (d : Draft) : Type 0 where
  pub between : Between (map labelled volumes) capacity set_id course d
  pub held : H (UnderWay (ended_volumes (map labelled volumes) d)
      (body_items (map labelled volumes) d))

-- The numbers allow the next step, whatever the tapes contain.
pub record IsRoomy (capacity volumes : ℕ) (course : Course) : Type 0 where
  pub room : course.used + volume_end_size ≤ capacity
  pub count : course.count ≤ course.used
  pub some : 1 ≤ course.sect
  pub sect : course.sect ≤ course.volume
  pub volume : course.volume ≤ volumes
