-- What complete copies of a valid set's volumes leave in a catalogue.
use Rattle.std.specs.Prelude.{◌≡◌, true, ℕ, List, [], ◌∷◌, Option, None, Some, IsSome, ◌≢◌, ⊤}
use Rattle.std.specs.List.{AllByRecursion}
use Rattle.tape_set.specs.Layout.{FileSet, Placed, nth, file_of, sections, on, items}
use Rattle.tape_set.specs.{Lawful.IsLawful, Laws.StandsIn}
use Rattle.tape_run.specs.declared.section.{SectionKey.SectionKey, ImageStop.ImageStop}
use Rattle.tape_run.specs.declared.section.ImageLine.{ImageLine}
use Rattle.tape_image.specs.declared.item.{Ending.Ending, ImageCause.TheVariants.Device}
use Rattle.tape_image.specs.Begins.{ends, Begins}
use Rattle.tape_run.specs.declared.section.ImageStop.TheVariants.{Marked, Physical, Fault}
use Rattle.tape_run.specs.{Added.Adds, Passing.Told, Passing.met_in, Noted.noted_all}
use Rattle.tape_run.specs.Lacks.{IsGoodAt, lack_of, found_all}

-- which section of the set this is
abbrev pub key_in : FileSet → Placed → SectionKey
key_in set x = record { set_id = set.set_id; file = x.file; sect = x.sect }

-- the catalogue after complete copies of these volumes
abbrev pub behind_copies : FileSet → List Told → List ℕ → List Told
behind_copies set c [] = c
behind_copies set c (k ∷ ks) = behind_copies set (noted_all c (met_in (items set k))) ks

-- each volume of the set is among these, in any order and with repeats
abbrev pub HasEach : FileSet → List ℕ → Type 0
HasEach set ks = (k : ℕ) → IsSome (nth set.volumes k) → StandsIn ks k

-- these sections of the set are good
abbrev pub AreAllGood : FileSet → List Told → List Placed → Type 0
AreAllGood set c xs = AllByRecursion (λ x. IsGoodAt c (key_in set x)) xs

-- A complete copy of a volume makes each section on it good.
abbrev pub WholeVolumeIsGood : Type 0
WholeVolumeIsGood = (set : FileSet) (k : ℕ) (c : List Told)
    → IsLawful set → IsSome (nth set.volumes k)
    → AreAllGood set (noted_all c (met_in (items set k))) (on k (sections set))

-- Complete copies of all volumes make each section of the set good, whatever was found before.
abbrev pub WholeSetIsGood : Type 0
WholeSetIsGood = (set : FileSet) (ks : List ℕ) (c : List Told)
    → IsLawful set → HasEach set ks → AreAllGood set (behind_copies set c ks) (sections set)

-- If nothing else was found, no file of the set has a missing section.
abbrev pub WholeSetLacksNothing : Type 0
WholeSetLacksNothing = (set : FileSet) (ks : List ℕ) (file : ℕ)
    → IsLawful set → HasEach set ks → IsSome (file_of set file)
    → lack_of (behind_copies set [] ks) set.set_id file ≡ None

-- And if the set has a file, something was found and nothing is missing.
abbrev pub WholeSetIsFound : Type 0
WholeSetIsFound = (set : FileSet) (ks : List ℕ)
    → IsLawful set → HasEach set ks → IsSome (file_of set 1)
    → found_all (behind_copies set [] ks) ≡ true

-- The bytes are a complete copy of volume k: they begin with its items, and then the medium ends.
abbrev pub IsWholeCopy : FileSet → ℕ → List ℕ → Type 0
IsWholeCopy set k xs = (end : ℕ) × (ending : Ending) × Begins 0 xs (items set k) end (ends ending)

-- the reader did not fail
abbrev pub IsNoDevice : ImageStop → Type 0
IsNoDevice (Fault fault) = fault.cause ≢ Device
IsNoDevice Marked = ⊤
IsNoDevice Physical = ⊤

-- The sections that `add` adds for a complete copy whose reader did not fail are those in the
-- volume's items.
abbrev pub WholeCopiesAreAdded : Type 0
WholeCopiesAreAdded =
    (set : FileSet) (k : ℕ) (xs : List ℕ) (after : Option (List ℕ))
    (old : List Told) (line : ImageLine) (new : List Told)
    → IsWholeCopy set k xs → IsNoDevice line.stop → Adds (Some xs) after old line new
    → new ≡ behind_copies set old (k ∷ [])
