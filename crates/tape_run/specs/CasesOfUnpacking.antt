-- Examples for the definitions of unpacking. They are the contract of the call `laws::cases`.
use Rattle.std.specs.Prelude.{◌≡◌, ◌≢◌, ℕ, ◌<◌, ◌^◌, List, [], ◌∷◌, ◌++◌, length, true, false}
use Rattle.std.specs.Prelude.{Some, None, codes}
use Rattle.std.specs.{Prelude.map, Prelude.chars, Prelude.IsUtf8, List.AllByRecursion}
use Rattle.tape_run.specs.UnpackLaws.{NamesDiffer, NamesStay, NamesFit, AreBytes, IsNameOfOne}
use Rattle.tape_run.specs.{UnpackLaws.IsNoDevice, UnpackLaws.folded, CasesOfExtracts.Readers}
use Rattle.tape_run.specs.{declared.unpack.SetFile.SetFile, declared.unpack.FoundFiles.FoundFiles}
use Rattle.tape_run.specs.{Reeling.Took, Quoting.is_hidden, Quoting.name_text}
use Rattle.tape_run.specs.QuotingLaws.{NamesShow, NamesTellApart, NamesKeep}
use Rattle.tape_run.specs.SurveyRead.{nothing_found, AreViewed}
use Rattle.tape_run.specs.Unpacking.{files_of, file_name, FilesOn}
use Rattle.tape_run.specs.UnpackChoice.{Fits, Means, IsOfSet}
use Rattle.tape_run.specs.Origins.{is_before, source_at, Follow, AreSources}
use Rattle.tape_run.specs.declared.unpack.origin.{OpenedImage.OpenedImage, BlockRun.BlockRun}
use Rattle.tape_set.specs.{declared.position.Position.Position, Position.start}
use Rattle.tape_set.specs.declared.position.Position.TheVariants.{Awaits, Finished}

-- three images that were opened for a file, the last one after its session had gone back
abbrev pub three_opened : List OpenedImage
three_opened = record { image = 4; at = Awaits 1 0 0 } ∷ record { image = 7; at = Awaits 1 3 0 }
    ∷ record { image = 5; at = Awaits 1 2 0 } ∷ []

-- what unpacking says of files, names and lines
pub record CasesOfUnpacking : Type 0 where
  -- paths: characters that control a terminal or are invisible are escaped, and `\` is doubled
  pub told_apart : NamesTellApart → (a b : List ℕ) → IsUtf8 a → IsUtf8 b → a ≢ b
      → name_text a ≢ name_text b
  pub shows : NamesShow → (name : List ℕ) → IsUtf8 name
      → AllByRecursion (λ c. is_hidden c ≡ false) (chars (name_text name))
  pub keeps : NamesKeep → (name : List ℕ) → IsUtf8 name
      → AllByRecursion (λ c. (is_hidden c ≡ false) × (c ≢ 92)) (chars name) → name_text name ≡ name
  -- the files are those of the images, all of which were read, each in its place
  pub on_images : (shelf left : Readers) (met : FoundFiles)
      (f : FilesOn length Took (λ r. r) shelf left met)
      → (length met.images ≡ length shelf)
      × AreViewed Took (λ r. r) shelf 0 met.images nothing_found left f.found
      × (met.files ≡ files_of f.found) × (met.whole ≡ f.found.whole)
      × (met.sections.entries ≡ f.found.sections) × (met.notes.entries ≡ f.found.files.notes)
  -- a block came from the last image that was opened at the block or before
  pub not_again : source_at (Awaits 1 1 9) three_opened ≡ Some 4
  pub read_again : source_at (Awaits 1 3 0) three_opened ≡ Some 5
  pub had_before : source_at (Awaits 1 2 0) (record { image = 7; at = Awaits 1 2 1 } ∷ []) ≡ None
  pub in_order : (is_before (Awaits 1 9 9) (Awaits 2 0 0) ≡ true)
      × (is_before (Awaits 2 0 0) (Awaits 1 9 9) ≡ false)
      × (is_before (Awaits 1 2 9) (Awaits 1 3 0) ≡ true)
      × (is_before (Awaits 1 2 3) (Awaits 1 2 3) ≡ false)
      × (is_before (Awaits 1 2 3) Finished ≡ true) × (is_before Finished Finished ≡ false)
  -- the runs of a file are all its blocks, each with its image
  pub no_run : (os : List OpenedImage) (end : Position) → AreSources os end []
      → is_before start end ≡ false
  pub one_run : (os : List OpenedImage) (end at : Position) (run : BlockRun)
      → AreSources os end (run ∷ []) → is_before start at ≡ false → is_before at end ≡ true
      → (is_before start run.from ≡ false)
      × (run.end ≡ end) × (is_before at run.from ≡ false → source_at at os ≡ run.image)
  pub no_gap : (a b : BlockRun) (end : Position) → Follow start end (a ∷ b ∷ [])
      → (a.from ≡ start) × (b.from ≡ a.end) × (b.end ≡ end) × (is_before b.from b.end ≡ true)
  -- the files that are chosen
  pub star : Fits (codes "A*C") (codes "ABBC")
  pub no_more : Fits (codes "A") (codes "AB") → ⊥
  pub by_number : (f : SetFile) → f.file ≡ 12 → Means (codes "12") f
  pub other_set : (f : SetFile) (s : List ℕ) → f.set_id ≢ s → IsOfSet (Some s) f → ⊥
  pub any_set : (f : SetFile) → IsOfSet None f
  -- what a caller can conclude from the laws of names
  pub own_name : NamesDiffer → (s t : List ℕ) (m n : ℕ) (a b x y : List ℕ) → AreBytes s
      → AreBytes t → length s ≡ length t → m < 2 ^ 16 → n < 2 ^ 16 → s ≢ t
      → map folded (file_name s m a ++ x) ≢ map folded (file_name t n b ++ y)
  pub case_folded : map folded (codes "[Abz{@") ≡ codes "[ABZ{@"
  pub stays : NamesStay → (s : List ℕ) (n : ℕ) (a : List ℕ) → AreBytes s → AreBytes a
      → n < 2 ^ 16 → IsNameOfOne (file_name s n a)
  pub fits : NamesFit → (s : List ℕ) (n : ℕ) (a : List ℕ) → AreBytes s → n < 2 ^ 16
      → length s ≡ 6 → length a ≡ 17 → IsNoDevice (file_name s n a)
