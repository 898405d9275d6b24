-- What `check` reports of images.
use Rattle.std.specs.Prelude.{◌≡◌, ◌⊎◌, ℕ, zero, suc, ◌+◌, ◌≤◌, Bool, if◌then◌else◌, List, [], ◌∷◌}
use Rattle.std.specs.Prelude.{◌++◌, map, length, Option, option_map, Some, None}
use Rattle.std.specs.{List.flat_map, Io.KnownBytes.Appends}
use Rattle.tape_run.specs.{declared.section.ImageLine.ImageLine, declared.section.Lack.Lack}
use Rattle.tape_run.specs.{declared.section.SectionLine.SectionLine, Passing.Told, Added.Adds}
use Rattle.tape_run.specs.Lacks.{line_of, lacks, found_all}
use Rattle.tape_run.specs.declared.fault.EngineFault.{EngineFault}
use Rattle.tape_run.specs.declared.fault.EngineFault.TheVariants.{Run, WriteFailed}
use Rattle.tape_run.specs.CheckLine.{image_line, image_lines, section_line, lack_line, found_line}
use Rattle.tape_run.specs.Reeling.{Mounting, AreMounted}
use Rattle.tape_run.specs.declared.fault.RunFault.TheVariants as run
use Rattle.tape_image.specs.Written.{AppendsFront}

-- an image: `None` if it was not opened, otherwise the bytes of its reader, if known
abbrev pub Reel : Type 0
Reel = Option (Option (List ℕ))

-- an image that was opened, or could not be opened, is described by this
abbrev pub IsReel : {R : Type 0} → (R → Option (List ℕ)) → Option R → Reel → Type 0
IsReel remaining image reel = reel ≡ option_map remaining image

-- An image was read to its end, or to a fault, and its sections were added to a catalogue; or it
-- was not opened.
abbrev pub AddsImage : Reel → Option ImageLine → List Told → List Told → Type 0
AddsImage None None c d = d ≡ c
AddsImage (Some before) (Some line) c d = (after : Option (List ℕ)) × Adds before after c line d
AddsImage _ _ c d = ⊥

-- A number of images were read to their ends, or to a fault, one after another, and their sections
-- were added to a catalogue.
abbrev pub AddsImages : List Reel → List (Option ImageLine) → List Told → List Told → Type 0
AddsImages [] [] c d = d ≡ c
AddsImages (reel ∷ reels) (line ∷ lines) c d =
    (mid : List Told) × AddsImage reel line c mid × AddsImages reels lines mid d
AddsImages _ _ c d = ⊥

-- the last line, which is printed if all was found
abbrev pub last_line : Bool → List ℕ
last_line found = if found then found_line else []

-- a line for each section, for each missing one, and the last line
abbrev pub summary_of : List SectionLine → List Lack → Bool → List ℕ
summary_of listed lacking found =
    flat_map section_line listed ++ flat_map lack_line lacking ++ last_line found

-- The text after the lines of images: the sections that were found, the first missing section of
-- each file, and the last line if sections were found and none is missing.
abbrev pub summary : List Told → List ℕ
summary d = summary_of (map line_of d) (lacks d) (found_all d)

-- the image with this number was read, and its line was written
abbrev pub TellsImage : Reel → ℕ → List Told → List Told → Option (List ℕ) → Option (List ℕ)
    → Type 0
TellsImage reel n c d old new =
    (line : Option ImageLine) × AddsImage reel line c d × Appends old new (image_line n line)

-- All images of a source were opened and read, one after another, and their lines were written.
-- After them the catalogue has these sections.
pub record TellsImages {L R : Type 0} (size : L → ℕ) (gives : Mounting L R)
    (remaining : R → Option (List ℕ)) (shelf left : L) (sections : List Told)
    (old new : Option (List ℕ)) : Type 0 where
  pub reels : List Reel
  pub mounted : AreMounted gives (IsReel remaining) shelf 0 reels left
  pub all : length reels ≡ size shelf
  pub lines : List (Option ImageLine)
  pub read : AddsImages reels lines [] sections
  pub wrote : Appends old new (image_lines 1 lines)

-- The text is the report on these images, and the result is whether all was found. After the images
-- the catalogue has these sections.
pub record IsReport (reels : List Reel) (text : List ℕ) (found : Bool) : Type 0 where
  pub lines : List (Option ImageLine)
  pub sections : List Told
  pub read : AddsImages reels lines [] sections
  pub told : text ≡ image_lines 1 lines ++ summary sections
  pub all : found ≡ found_all sections

-- All images of a source were opened, one after another, and their report was written.
pub record Reports {L R : Type 0} (size : L → ℕ) (gives : Mounting L R)
    (remaining : R → Option (List ℕ)) (shelf left : L) (old new : Option (List ℕ)) (found : Bool)
    : Type 0 where
  pub reels : List Reel
  pub mounted : AreMounted gives (IsReel remaining) shelf 0 reels left
  pub all : length reels ≡ size shelf
  pub text : List ℕ
  pub report : IsReport reels text found
  pub wrote : Appends old new text

-- the summary follows if no image is left
abbrev pub summary_behind : ℕ → List Told → List ℕ
summary_behind zero d = summary d
summary_behind (suc left) d = []

-- The first images were opened and read, and a prefix of their report was written; its summary
-- follows the line of the last image. Of those that were not read at most one was opened.
pub record ReportsInPart {L R : Type 0} (size : L → ℕ) (gives : Mounting L R)
    (remaining : R → Option (List ℕ)) (shelf left : L) (old new : Option (List ℕ)) : Type 0 where
  pub first : List Reel
  pub more : List Reel
  pub mounted : AreMounted gives (IsReel remaining) shelf 0 (first ++ more) left
  pub unread : ℕ
  pub counted : length first + unread ≡ size shelf
  pub few : (length more ≤ 1) × (length more ≤ unread)
  pub lines : List (Option ImageLine)
  pub sections : List Told
  pub read : AddsImages first lines [] sections
  pub wrote : AppendsFront old new (image_lines 1 lines ++ summary_behind unread sections)

-- a write failed, or memory ran out
abbrev pub IsCheckFault : EngineFault → Type 0
IsCheckFault fault = (fault ≡ WriteFailed) ⊎ (fault ≡ Run run.OutOfMemory)
