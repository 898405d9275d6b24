-- The good copies of sections, compared by their data blocks and by how they end.
use Rattle.std.specs.Prelude.{ℕ, ◌+◌, ◌==◌, ◌&&◌, min, Bool, true, false, if◌then◌else◌, List, []}
use Rattle.std.specs.Prelude.{◌∷◌, ◌++◌, Option, Some, None, is_some, option_map}
use Rattle.std.specs.{List.flat_map, Map.lookup, Option.option_or}
use Rattle.indexmap.specs.IndexMap.{insert_entry}
use Rattle.tape_blocks.specs.Faults.{bool_eq}
use Rattle.tape_run.specs.declared.section.Entry.{Entry}
use Rattle.tape_image.specs.Tape.{TapeItem, block, mark}
use Rattle.tape_run.specs.declared.survey.{copies.CopyNote.CopyNote, files.FileKey.FileKey}
use Rattle.tape_run.specs.declared.{passing.Phase.Phase, section.SectionKey.SectionKey}
use Rattle.tape_run.specs.declared.passing.Phase.TheVariants.{Volume, Second, Headers, Data}
use Rattle.tape_run.specs.{Noted.same_key, Noted.is_good, Passing.Told, Onward.step}
use Rattle.tape_run.specs.{SurveyDigest.digest_of, SurveyDigest.digest_with, SurveyFiles.same_file}
use Rattle.tape_run.specs.{SurveyFiles.file_key, Lacks.key_at}

-- ---- the good copies on an image

-- a good copy of a section: its entry, and its data blocks
abbrev pub Copy : Type 0
Copy = Told × List (List ℕ)

-- the data blocks of the section that is being read, after one more item
abbrev pub blocks_with : List (List ℕ) → Phase → TapeItem → List (List ℕ)
blocks_with blocks (Second met) mark = []
blocks_with blocks (Headers met) mark = []
blocks_with blocks (Data met) (block b) = blocks ++ b ∷ []
blocks_with blocks p x = blocks

-- the section that was completed with these blocks, if it is good
abbrev pub good_told : Option Told → List (List ℕ) → List Copy
good_told None blocks = []
good_told (Some t) blocks = if is_good t.1.state then (t, blocks) ∷ [] else []

-- the good copies that these items complete, beginning with this phase and these blocks
abbrev pub copies_from : Phase → List (List ℕ) → List TapeItem → List Copy
copies_from p blocks [] = []
copies_from p blocks (x ∷ xs) = good_told (step p x).1 blocks
    ++ copies_from (step p x).0 (blocks_with blocks p x) xs

-- the good copies of sections on an image
abbrev pub copies_on : List TapeItem → List Copy
copies_on items = copies_from Volume [] items

-- ---- the record of the copies

-- a section, and the record of its good copies
abbrev pub Noted : Type 0
Noted = SectionKey × CopyNote

-- a file with a section whose copies differ, and the number of that section
abbrev pub Disputed : Type 0
Disputed = FileKey × ℕ

-- the number of an image, and a section of which it has a good copy
abbrev pub Held : Type 0
Held = ℕ × SectionKey

-- the good copies that were found, by sections and one by one
pub record Copied : Type 0 where
  pub notes : List Noted
  pub conflicts : List Disputed
  pub held : List Held

-- no copy was found
abbrev pub no_copies : Copied
no_copies = record { notes = []; conflicts = []; held = [] }

-- the record of a section after one more copy, which agrees with the first one
abbrev pub with_agreed : CopyNote → CopyNote
with_agreed n = record n { copies = min (n.copies + 1) 4294967295 }

-- after one more copy, on this image, which has other data blocks
abbrev pub with_other : CopyNote → ℕ → CopyNote
with_other n image = record n { other = option_or n.other (Some image) }

-- and after one more copy, on this image, which has the same data blocks, but ends otherwise: the
-- file ends with one of the two copies, and continues after the other
abbrev pub with_other_end : CopyNote → ℕ → CopyNote
with_other_end n image = record n { other_end = option_or n.other_end (Some image) }

-- after one more copy with the same data blocks, on this image, which ends the file or does not
abbrev pub with_same : CopyNote → ℕ → Bool → CopyNote
with_same n image eof = if bool_eq n.eof eof then with_agreed n else with_other_end n image

-- The record of a section after one more good copy, which is on this image, and has this entry and
-- this digest: it agrees with the first copy if its number of blocks and digest are equal, and it
-- ends alike.
abbrev pub copy_note : Option CopyNote → ℕ → Entry → ℕ → CopyNote
copy_note None image entry digest = record {
  image = image;
  blocks = entry.blocks;
  digest = digest;
  eof = entry.eof;
  copies = 1;
  other = None;
  other_end = None;
}
copy_note (Some n) image entry digest = if (n.blocks == entry.blocks) && (n.digest == digest)
    then with_same n image entry.eof
    else with_other n image

-- the image with a copy that contradicts the first one, if there is one: a copy with other data
-- blocks, or else one that ends otherwise
abbrev pub opponent_of : CopyNote → Option ℕ
opponent_of n = option_or n.other n.other_end

-- the record of the good copies of a section
abbrev pub noted_at : List Noted → SectionKey → Option CopyNote
noted_at notes key = lookup (same_key key) notes

-- the files in conflict, including that of a section whose copies differ
abbrev pub with_conflict : List Disputed → SectionKey → Bool → List Disputed
with_conflict files key differs =
    if differs then insert_entry same_file files (file_key key.set_id key.file) key.sect
    else files

-- after a good copy on this image, with this entry and this digest
abbrev pub with_good : Copied → ℕ → SectionKey → Entry → ℕ → Copied
with_good c image key entry digest =
    let note = copy_note (noted_at c.notes key) image entry digest in
    record {
      notes = insert_entry same_key c.notes key note;
      conflicts = with_conflict c.conflicts key (is_some (opponent_of note));
      held = c.held ++ (image, key) ∷ [];
    }

-- after the section that was completed on this image, if any, with its digest
abbrev pub with_told : Copied → ℕ → Option Told → ℕ → Copied
with_told c image None digest = c
with_told c image (Some t) digest =
    if is_good t.1.state then with_good c image t.0 t.1 digest else c

-- after good copies on this image
abbrev pub with_copies : ℕ → Copied → List Copy → Copied
with_copies image c [] = c
with_copies image c (x ∷ xs) =
    with_copies image (with_good c image x.0.0 x.0.1 (digest_of x.1)) xs

-- after the good copies that the items of this image contain
abbrev pub copied_in : ℕ → Copied → List TapeItem → Copied
copied_in image c items = with_copies image c (copies_on items)

-- ---- as they are read

-- the digest of the data blocks of the section that is being read, after an item
abbrev pub digest_in : ℕ → Phase → TapeItem → ℕ
digest_in digest (Second met) mark = 0
digest_in digest (Headers met) mark = 0
digest_in digest (Data met) (block b) = digest_with digest b
digest_in digest p x = digest

-- ---- questions about them

-- a section of a file whose good copies differ, if any
abbrev pub dispute_at : Copied → FileKey → Option ℕ
dispute_at c key = lookup (same_file key) c.conflicts

-- two images with good copies of the section with this record that differ, if any
abbrev pub opponents_by : Option CopyNote → Option (ℕ × ℕ)
opponents_by None = None
opponents_by (Some n) = option_map (λ other. (n.image, other)) (opponent_of n)

-- those of this section of a file, if good copies of it differ
abbrev pub opponents_in : List Noted → FileKey → Option ℕ → Option (ℕ × ℕ)
opponents_in notes key None = None
opponents_in notes key (Some sect) = opponents_by (noted_at notes (key_at key.set_id key.file sect))

-- those of a section of the file
abbrev pub opponents_at : Copied → FileKey → Option (ℕ × ℕ)
opponents_at c key = opponents_in c.notes key (dispute_at c key)

-- good copies of the section with this record differ
abbrev pub differs : Option CopyNote → Bool
differs None = false
differs (Some n) = is_some (opponent_of n)

-- a good copy, if good copies of its section differ
abbrev pub disputed_by : List Noted → Held → List Held
disputed_by notes h = if differs (noted_at notes h.1) then h ∷ [] else []

-- the good copies of sections whose good copies differ, in the order in which they were found
abbrev pub disputed : Copied → List Held
disputed c = flat_map (disputed_by c.notes) c.held

-- the section of the first of these copies that is on this image
abbrev pub disputed_on : List Held → ℕ → Option SectionKey
disputed_on [] image = None
disputed_on (h ∷ hs) image = if h.0 == image then Some h.1 else disputed_on hs image

-- no file is in conflict
abbrev pub is_agreed : List Disputed → Bool
is_agreed [] = true
is_agreed (_ ∷ _) = false
