-- A catalogue has one entry per section.
use Rattle.std.specs.Prelude.{◌≢◌, ⊤, ℕ, Bool, List, [], ◌∷◌, Option}
use Rattle.std.specs.List.{AllByRecursion}
use Rattle.tape_run.specs.declared.section.{ImageLine.ImageLine, SectionKey.SectionKey}
use Rattle.tape_run.specs.{Added.Adds, Added.AddsInPart, Checked.Reel, Checked.IsReport}
use Rattle.tape_run.specs.Passing.{Told}

-- none of these entries belongs to the section
abbrev pub AreOthers : SectionKey → List Told → Type 0
AreOthers key c = AllByRecursion (λ t. t.0 ≢ key) c

-- no two of these entries belong to the same section
abbrev pub HasOneEach : List Told → Type 0
HasOneEach [] = ⊤
HasOneEach (t ∷ ts) = AreOthers t.0 ts × HasOneEach ts

-- Whatever images are added to a catalogue, even if memory was refused, it has one entry for each
-- section; and so a report has one line for each.
pub record OneEntryASection : Type 0 where
  pub added : (before after : Option (List ℕ)) (old new : List Told) (line : ImageLine)
      → HasOneEach old → Adds before after old line new → HasOneEach new
  pub added_in_part : (before : Option (List ℕ)) (old new : List Told)
      → HasOneEach old → AddsInPart before old new → HasOneEach new
  pub reported : (reels : List Reel) (text : List ℕ) (found : Bool)
      → (report : IsReport reels text found) → HasOneEach report.sections
