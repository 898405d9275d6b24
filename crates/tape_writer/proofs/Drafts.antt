-- A set that is being written, after the next step.
use Rattle.std.specs.Prelude.{ℕ, ◌+◌, List, [], ◌∷◌, ◌++◌, true, false}
use Rattle.tape_image.specs.Tape.{TapeItem, block, mark}
use Rattle.tape_label.specs.declared.values.Vol1.{Vol1}
use Rattle.tape_blocks.specs.Tight.{Filled}
use Rattle.tape_writer.specs.Labels.{header_items, trailer_items, volume_label}
use Rattle.tape_writer.specs.Tapes.{Tapes, UnderWay}
use Rattle.tape_writer.specs.{declared.course.Course.Course, declared.course.Opened.Opened}
use Rattle.tape_writer.specs.Draft.{Draft, closing}

-- the draft after a section has ended with EOV1 and EOV2
abbrev pub changed_draft : Opened → Course → Draft → Draft
changed_draft file course d = record {
  files = d.files;
  sects = d.sects ++ closing file course.volume course.sect d.blocks false ∷ [];
  blocks = [];
  past = d.past + 1;
}

-- the tapes after it: the section ended with EOV1 and EOV2, and the volume with a second mark, and
-- the next volume begins with the label `v`
abbrev pub changed_tapes : Opened → Course → Vol1 → List (List TapeItem) → List TapeItem → Tapes
changed_tapes file course v volumes items = UnderWay
    (volumes ++ (items ++ trailer_items file course.sect course.count false ++ mark ∷ []) ∷ [])
    (block (volume_label v) ∷ header_items file (course.sect + 1))

-- the draft after the end of a file
abbrev pub ended_draft : Opened → Course → Draft → Draft
ended_draft file course d = record {
  files = d.files
      ++ (d.sects ++ closing file course.volume course.sect d.blocks true ∷ []) ∷ [];
  sects = [];
  blocks = [];
  past = d.past;
}

-- the draft with one more block
abbrev pub added_draft : Draft → Filled → Draft
added_draft d b = record d { blocks = d.blocks ++ b ∷ [] }

-- the position after one more block of size `size`
abbrev pub added_course : Course → ℕ → Course
added_course course size = record course { count = course.count + 1; used = course.used + size }

-- the position after the end of a section
abbrev pub ended_course : Course → Course
ended_course course = record course { used = course.used + 184 }

-- the position after the headers of a file's first section
abbrev pub begun_course : Course → Course
begun_course course =
    record { volume = course.volume; sect = 1; count = 0; used = course.used + 180 }
