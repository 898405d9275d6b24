-- The result of `salvage` for images.
use Rattle.std.specs.Prelude.{◌≡◌, ◌⊎◌, ◌<◌, ◌≤◌, ℕ, ◌+◌, ◌&&◌, not, Bool, List, [], ◌∷◌, ◌++◌}
use Rattle.std.specs.Prelude.{length, Option, Some, None}
use Rattle.std.specs.Io.KnownBytes.{Appends}
use Rattle.tape_image.specs.Written.{AppendsFront}
use Rattle.tape_run.specs.SalvageTaking.{Taken, AreTaken, AreAllSections, after_file, file_text}
use Rattle.tape_run.specs.declared.salvage.copies.SectionCopy.{SectionCopy}
use Rattle.tape_run.specs.{Reeling.Mounting, Reeling.AreMounted, Checked.Reel, Checked.IsReel}
use Rattle.tape_run.specs.{declared.salvage.SalvageTask.SalvageTask, SalvageCopies.FindsCopies}
use Rattle.tape_run.specs.{RecordText.output_of, SalvageConflicts.AreConflicts}
use Rattle.tape_run.specs.SalvageLine.{not_opened_line, stopped_line, last_line}
use Rattle.tape_run.specs.declared.section.ImageStop.{ImageStop}
use Rattle.tape_run.specs.SalvageBlocks.{Salvaged, none_salvaged}
use Rattle.tape_run.specs.SalvageChoice.{form_of_file, last_section}
use Rattle.tape_run.specs.SalvageTaking.{StopsTaking}

-- An image was read, the file's sections on it were found, and its line was written if it stopped
-- at a fault; or it could not be opened, and its line was written.
abbrev pub FindsOn : List ℕ → ℕ → ℕ → Reel → List SectionCopy → List SectionCopy → List ℕ → Type 0
FindsOn set_id file n None old new text = (new ≡ old) × (text ≡ not_opened_line (n + 1))
FindsOn set_id file n (Some before) old new text =
    (after : Option (List ℕ)) × (stop : ImageStop)
    × FindsCopies before after set_id file n stop old new × (text ≡ stopped_line (n + 1) stop)

-- the same for images from this number on
abbrev pub FindsOnAll : List ℕ → ℕ → ℕ → List Reel → List SectionCopy → List SectionCopy → List ℕ
    → Type 0
FindsOnAll set_id file n [] old new text = (new ≡ old) × (text ≡ [])
FindsOnAll set_id file n (r ∷ rs) old new text = (mid : List SectionCopy) × (one rest : List ℕ)
    × FindsOn set_id file n r old mid one × FindsOnAll set_id file (n + 1) rs mid new rest
    × (text ≡ one ++ rest)

-- All images were opened, one after another, and the file's sections were found.
pub record FindsAll {L R : Type 0} (size : L → ℕ) (gives : Mounting L R)
    (remaining : R → Option (List ℕ)) (set_id : List ℕ) (file : ℕ) (shelf left : L)
    (copies : List SectionCopy) (said says : Option (List ℕ)) : Type 0 where
  pub reels : List Reel
  pub mounted : AreMounted gives (IsReel remaining) shelf 0 reels left
  pub all : length reels ≡ size shelf
  pub text : List ℕ
  pub finds : FindsOnAll set_id file 0 reels [] copies text
  pub wrote : Appends said says text

-- The readable parts of a file were recovered: the copies of its sections were found on the images,
-- and those that differ from the best one were reported; each section was recovered from its best
-- copy, the records were written to the output, which got its name, and the last line gives the
-- number of records, and whether nothing is missing and no copy differs.
pub record Salvages {W L R : Type 0} (contents : W → Option (List ℕ)) (size : L → ℕ)
    (gives : Mounting L R) (remaining : R → Option (List ℕ)) (task : SalvageTask) (out : W)
    (shelf left : L) (stands : Option (List ℕ)) (said says : Option (List ℕ)) (complete : Bool)
    : Type 0 where
  pub copies : List SectionCopy
  pub middle : L
  pub found : Option (List ℕ)
  pub finds : FindsAll size gives remaining task.set_id task.file shelf middle copies said found
  pub conflicts : List ℕ
  pub conflict : Bool
  pub differ : AreConflicts copies (last_section copies) conflicts conflict
  pub taken : List Taken
  pub took : AreTaken gives remaining copies task.content (form_of_file copies) 1 middle taken left
  pub all : AreAllSections task.content (form_of_file copies) copies taken
  pub wrote : Appends (contents out) stands
      (output_of task.form (after_file task.content copies taken none_salvaged).piece.done)
  pub is_complete : complete
      ≡ (not (after_file task.content copies taken none_salvaged).missing && not conflict)
  pub reported : Appends found says (conflicts
      ++ (file_text task.content copies taken none_salvaged ++ last_line complete
      (after_file task.content copies taken none_salvaged).piece.records))

-- A prefix of the report on what was read was written. The first images were searched, and of the
-- others at most one was opened; or all were searched, and sections were recovered.
pub record StopsSalvage {L R : Type 0} (size : L → ℕ) (gives : Mounting L R)
    (remaining : R → Option (List ℕ)) (task : SalvageTask) (shelf left : L)
    (said says : Option (List ℕ)) : Type 0 where
  pub reels : List Reel
  pub middle : L
  pub mounted : AreMounted gives (IsReel remaining) shelf 0 reels middle
  pub copies : List SectionCopy
  pub found : List ℕ
  pub finds : FindsOnAll task.set_id task.file 0 reels [] copies found
  pub more : List ℕ
  pub wrote : AppendsFront said says (found ++ more)
  pub stops : ((more ≡ []) × (left ≡ middle) × (length reels ≤ size shelf))
      ⊎ (((more ≡ []) × (length reels < size shelf)
      × ((image : Option R) × gives middle (length reels) image left))
      ⊎ ((length reels ≡ size shelf) × (conflicts : List ℕ) × (any : Bool)
      × AreConflicts copies (last_section copies) conflicts any × (lines : Salvaged → List ℕ)
      × StopsTaking gives remaining copies task.content middle left lines
      × (more ≡ conflicts ++ lines none_salvaged)))
