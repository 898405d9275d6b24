-- A file of a valid set as a call of `salvage_to` recovers it from images of the set's volumes.
use Rattle.std.specs.Prelude.{◌≡◌, ◌<◌, ℕ, ◌+◌, Bool, true, List, [], ◌∷◌, length, Option, Some}
use Rattle.std.specs.{Prelude.None, Prelude.slice_get, List.AllByRecursion, Io.KnownBytes.Appends}
use Rattle.tape_image.specs.{Tape.TapeItem, Begins.Stop, Begins.Begins}
use Rattle.tape_set.specs.Layout.{FileSet, Section, numbered, file_of}
use Rattle.tape_set.specs.{Lawful.IsLawful, Before.section_parts, Reading.Reading}
use Rattle.tape_run.specs.{declared.salvage.Content.TheVariants.Records, SalvageBlocks.Salvaged}
use Rattle.tape_run.specs.{Checked.Reel, Reeling.Mounting, WholeSet.IsNoDevice, SalvageTaking.Taken}
use Rattle.tape_run.specs.{declared.salvage.SalvageTask.SalvageTask, SalvageImage.EndsData}
use Rattle.tape_run.specs.{declared.salvage.copies.SectionCopy.SectionCopy, SalvageWalk.sections_in}
use Rattle.tape_run.specs.{RecordText.output_of, Salvaging.FindsOnAll, Salvaging.Salvages}
use Rattle.tape_run.specs.{SalvageCopies.of_file, SalvageCopies.start_of}
use Rattle.tape_run.specs.SalvageSets.{items_read, IsCompleteOr, HasVolume, IsRecovered}

-- ---- the images

-- The items of an image are those of this reading; or, without a reading, no section of the file is
-- found among them.
abbrev pub AreItemsOf : FileSet → ℕ → Option Reading → List TapeItem → Type 0
AreItemsOf set file (Some r) xs = xs ≡ items_read set r
AreItemsOf set file None xs = (n : ℕ) → of_file set.set_id file n (sections_in xs) ≡ []

-- An image could not be opened, or its reader knows its bytes, and these begin with such items.
abbrev pub IsImage : {R : Type 0} → FileSet → ℕ → (R → Option (List ℕ)) → Option Reading → Option R
    → Type 0
IsImage set file remaining (Some r) None = ⊥
IsImage set file remaining None None = Unit {0}
IsImage set file remaining r (Some device) = (bytes : List ℕ) × (xs : List TapeItem) × (end : ℕ)
    × (stop : Stop) × (remaining device ≡ Some bytes) × Begins 0 bytes xs end stop
    × AreItemsOf set file r xs

-- Images with numbers below this one were opened: the source was `shelf` before, and is `now`. The
-- image that was opened last comes first.
abbrev pub HasOpened : {L R : Type 0} → Mounting L R → ℕ → L → List ℕ → L → Type 0
HasOpened gives count shelf [] now = now ≡ shelf
HasOpened gives count shelf (n ∷ ns) now = (n < count) × (before : _) × (image : Option _)
    × HasOpened gives count shelf ns before × gives before n image now

-- An image that is opened is the one with its number, whichever images were opened before it, and
-- however often.
abbrev pub AreImages : {L R : Type 0} → FileSet → ℕ → Mounting L R → (R → Option (List ℕ))
    → List (Option Reading) → L → Type 0
AreImages {L} {R} set file gives remaining rs shelf = (ns : List ℕ) (now left : L) (n : ℕ)
    (image : Option R) (r : Option Reading) → HasOpened gives (length rs) shelf ns now
    → slice_get rs n ≡ Some r → gives now n image left → IsImage set file remaining r image

-- ---- no reader failed

-- when the copies were found
abbrev pub NoneFailed : (set_id : List ℕ) (file n : ℕ) (reels : List Reel)
    (old new : List SectionCopy) (text : List ℕ) → FindsOnAll set_id file n reels old new text
    → Type 0
NoneFailed set_id file n [] old new text found = Unit {0}
NoneFailed set_id file n (None ∷ reels) old new text found =
    NoneFailed set_id file (n + 1) reels found.0 new found.2 found.4
NoneFailed set_id file n (Some before ∷ reels) old new text found = IsNoDevice found.3.1
    × NoneFailed set_id file (n + 1) reels found.0 new found.2 found.4

-- when a section was read from its best copy: the image was read to the mark after its data
abbrev pub IsReadToEnd : Taken → Type 0
IsReadToEnd t = (c : SectionCopy) → t.copy ≡ Some c
    → (xs : List TapeItem) × (t.items ≡ Some xs) × EndsData (start_of c) c.section.key xs

-- ---- the call

-- The files that a call recovers from such images of a valid set, if no reader failed: what is
-- written is what `IsRecovered` says. If the call says that nothing is missing, and that no copies
-- differ, it is exactly what `extract` writes of the complete file.
abbrev pub RecoversSets : {W L R : Type 0} → (W → Option (List ℕ)) → (L → ℕ) → Mounting L R
    → (R → Option (List ℕ)) → Type 0
RecoversSets {W} {L} {R} contents size gives remaining = (task : SalvageTask) (out : W)
    (shelf left : L) (stands said says : Option (List ℕ)) (complete : Bool)
    (s : Salvages contents size gives remaining task out shelf left stands said says complete)
    (set : FileSet) (f : List Section) (rs : List (Option Reading))
    → IsLawful set → task.set_id ≡ set.set_id → task.content ≡ Records
    → file_of set task.file ≡ Some f → size shelf ≡ length rs
    → AllByRecursion (IsCompleteOr set) rs → AreImages set task.file gives remaining rs shelf
    → AllByRecursion (λ p. p.section.blocks ≡ [] → HasVolume rs p.section.volume)
    (numbered task.file 1 f)
    → NoneFailed task.set_id task.file 0 s.finds.reels [] s.copies s.finds.text s.finds.finds
    → AllByRecursion IsReadToEnd s.taken
    → (g : Salvaged) × IsRecovered set task.file f rs s.copies g
    × Appends (contents out) stands (output_of task.form g.piece.done)
    × (complete ≡ true
    → Appends (contents out) stands (output_of task.form (section_parts f)))
