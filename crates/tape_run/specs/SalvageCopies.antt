-- The copies of a file's sections on images, and how much of each is reliable.
use Rattle.std.specs.Prelude.{◌≡◌, ℕ, ◌+◌, ◌*◌, ◌-◌, min, ◌==◌, ◌&&◌, Bool, if◌then◌else◌, List, []}
use Rattle.std.specs.Prelude.{◌∷◌}
use Rattle.std.specs.Prelude.{◌++◌, Option, Some, None, option_map, is_none, is_some}
use Rattle.std.specs.Str.{bytes_eq}
use Rattle.tape_image.specs.{Tape.TapeItem, Reader.IfKnown}
use Rattle.tape_set.specs.Lawful.{label_count}
use Rattle.tape_run.specs.declared.salvage.walk.{Closing.Closing, OpenSection.OpenSection}
use Rattle.tape_run.specs.declared.salvage.walk.{Expected.Expected, Expected.TheVariants.Outside}
use Rattle.tape_run.specs.declared.salvage.copies.SectionCopy.{SectionCopy}
use Rattle.tape_run.specs.declared.section.ImageStop.{ImageStop}
use Rattle.tape_run.specs.Added.{StopsBehind}
use Rattle.tape_run.specs.SalvageWalk.{FoundSection, FoundAt, sections_in, skipping}

-- the section belongs to this file
abbrev pub is_of : List ℕ → ℕ → FoundSection → Bool
is_of set_id file t = bytes_eq t.0.key.set_id set_id && (t.0.key.file == file)

-- the number of items of the image that precede its data, if its HDR1 was not read, given the
-- number of items before its end
abbrev pub skip_of : ℕ → OpenSection → Option ℕ
skip_of place u = option_map (λ n. place - n - u.blocks) u.after

-- a section found on the image with this number
abbrev pub copy_of : ℕ → FoundAt → SectionCopy
copy_of image t = record {
  image = image;
  section = t.1.0;
  closed = t.1.1;
  skip = skip_of t.0 t.1.0;
}

-- the copies of the file's sections among those found on an image
abbrev pub of_file : List ℕ → ℕ → ℕ → List FoundAt → List SectionCopy
of_file set_id file image [] = []
of_file set_id file image (t ∷ ts) =
    if is_of set_id file t.1 then copy_of image t ∷ of_file set_id file image ts
    else of_file set_id file image ts

-- The phase expected at the first item of a copy's image if the section is read from it. If its
-- HDR1 was not read, its data are found by their place.
abbrev pub start_of : SectionCopy → Expected
start_of c = start_by c.skip c.section
  where
    start_by : Option ℕ → OpenSection → Expected
    start_by None u = Outside 0
    start_by (Some n) u = skipping n (record u { blocks = 0 })

-- the number of data items that are certainly blocks of the section: all if it closes, otherwise
-- those before the first unreadable item after its HDR1, and before the first that reads as its own
-- trailer label
abbrev pub believed : SectionCopy → ℕ
believed s = believed_by s.closed s.section.certain s.section.trailer s.section.blocks
  where
    up_to : Option ℕ → ℕ → ℕ
    up_to (Some n) blocks = n
    up_to None blocks = blocks

    believed_by : {A : Type 0} → Option A → Option ℕ → Option ℕ → ℕ → ℕ
    believed_by (Some closed) certain trailer blocks = blocks
    believed_by None certain trailer blocks = min (up_to trailer blocks) (up_to certain blocks)

-- the count of the trailer label, if that is not the number of the data items
abbrev pub wrong_count : SectionCopy → Option ℕ
wrong_count s = wrong_by s.closed s.section.blocks
  where
    wrong_by : Option Closing → ℕ → Option ℕ
    wrong_by None blocks = None
    wrong_by (Some closed) blocks =
        if closed.count == label_count blocks then None else Some closed.count

-- the number of its blocks that were read
abbrev pub blocks_read : SectionCopy → ℕ
blocks_read s = if is_some s.closed then s.section.blocks - s.section.unreadable else believed s

-- it closes, all of it was readable, and its trailer label counts its blocks
abbrev pub is_complete : SectionCopy → Bool
is_complete s = is_some s.closed && (is_none s.section.certain && is_none (wrong_count s))

-- the rank of a copy that is not complete, if this number of its blocks were read: of those with
-- equally many, the ones that close come first
abbrev pub rank_with : SectionCopy → ℕ → ℕ
rank_with s read = 2 * read + (if is_some s.closed then 1 else 0)

-- complete copies come first, then those with more readable blocks
abbrev pub rank : SectionCopy → ℕ
rank s = (if is_complete s then 8589934592 else 0) + rank_with s (blocks_read s)

-- All items of an image were read up to this stop, and its sections of the file were appended to
-- those found before.
pub record FindsCopies (before after : Option (List ℕ)) (set_id : List ℕ) (file image : ℕ)
    (stop : ImageStop) (old new : List SectionCopy) : Type 0 where
  pub items : List TapeItem
  pub read : IfKnown before after (StopsBehind items stop)
  pub seen : new ≡ old ++ of_file set_id file image (sections_in items)
