-- Laws of what `check` reports, for reels and sections.
use Rattle.std.specs.Prelude.{◌≡◌, ⊤, ℕ, Bool, true, List, [], ◌∷◌, ◌++◌, Option, Some, IsSome}
use Rattle.std.specs.List.{AllByRecursion, flat_map}
use Rattle.tape_image.specs.{Tape.TapeItem, Reader.IfKnown}
use Rattle.tape_set.specs.{Layout.FileSet, Layout.file_of, Layout.sections, Lawful.IsLawful}
use Rattle.tape_run.specs.declared.section.{SectionKey.SectionKey, SectionLine.SectionLine}
use Rattle.tape_run.specs.declared.section.{ImageStop.ImageStop, ImageLine.ImageLine}
use Rattle.tape_run.specs.declared.section.SectionState.TheVariants.{Good}
use Rattle.tape_run.specs.{Passing.Told, Noted.StandsIn, Shown.Shown, Added.StopsBehind}
use Rattle.tape_run.specs.WholeSet.{key_in, HasEach, IsWholeCopy, IsNoDevice}
use Rattle.tape_run.specs.CheckLine.{image_lines, section_line, found_line}
use Rattle.tape_run.specs.Checked.{Reel, IsReport}

-- Each image is a complete copy of the volume with this number, and its reader did not fail.
abbrev pub AreWholeCopies : FileSet → List Reel → List (Option ImageLine) → List ℕ → Type 0
AreWholeCopies set [] [] [] = ⊤
AreWholeCopies set (Some (Some bytes) ∷ reels) (Some line ∷ lines) (k ∷ ks) =
    IsWholeCopy set k bytes × IsNoDevice line.stop × AreWholeCopies set reels lines ks
AreWholeCopies set _ _ _ = ⊥

-- the section has a line, and this says GOOD
pub record IsListedGood (listed : List SectionLine) (key : SectionKey) : Type 0 where
  pub front : List SectionLine
  pub line : SectionLine
  pub rest : List SectionLine
  pub stands : listed ≡ front ++ line ∷ rest
  pub set_id : line.set_id ≡ key.set_id
  pub file : line.file ≡ key.file
  pub sect : line.sect ≡ key.sect
  pub good : line.state ≡ Good

-- After the lines of the images come a line for each section of the set that says GOOD, no line for
-- a missing one, and the line that says that all was found.
pub record IsToldWhole (set : FileSet) (lines : List (Option ImageLine)) (text : List ℕ)
    (found : Bool) : Type 0 where
  pub all : found ≡ true
  pub listed : List SectionLine
  pub told : text ≡ image_lines 1 lines ++ (flat_map section_line listed ++ found_line)
  pub good : AllByRecursion (λ x. IsListedGood listed (key_in set x)) (sections set)

-- The report on complete copies of all volumes of a valid set that has a file, in any order and
-- with repeats, lists each section of the set as GOOD, and none as missing.
abbrev pub WholeSetIsTold : Type 0
WholeSetIsTold =
    (set : FileSet) (ks : List ℕ) (reels : List Reel) (text : List ℕ) (found : Bool)
    → IsLawful set → HasEach set ks → IsSome (file_of set 1)
    → (report : IsReport reels text found) → AreWholeCopies set reels report.lines ks
    → IsToldWhole set report.lines text found

-- one of the images shows that the section is complete, in the items that its bytes begin with
pub record IsShownOn (reels : List Reel) (told : Told) : Type 0 where
  pub front : List Reel
  pub before : Option (List ℕ)
  pub rest : List Reel
  pub stands : reels ≡ front ++ Some before ∷ rest
  pub items : List TapeItem
  pub stop : ImageStop
  pub after : Option (List ℕ)
  pub read : IfKnown before after (StopsBehind items stop)
  pub shown : Shown items told.0 told.1

-- Each section that a report lists as GOOD is complete on one of the images.
abbrev pub GoodWasSeen : Type 0
GoodWasSeen = (reels : List Reel) (text : List ℕ) (found : Bool)
    → (report : IsReport reels text found) (told : Told)
    → StandsIn report.sections told → told.1.state ≡ Good → IsShownOn reels told
