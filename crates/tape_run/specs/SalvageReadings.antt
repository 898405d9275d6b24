-- The records recovered from readings of volumes of a valid set in which only data blocks were
-- unreadable.
use Rattle.std.specs.Prelude.{◌≡◌, ℕ, true, List, ◌∷◌, ◌++◌, length, map, Some}
use Rattle.std.specs.List.{AllByRecursion}
use Rattle.tape_image.specs.Tape.{TapeItem}
use Rattle.tape_set.specs.Layout.{FileSet, Volume, items, entries, nth, on, sections}
use Rattle.tape_set.specs.{Lawful.IsLawful, Lawful.IsVolume, Lawful.FileForm, Reading.Reading}
use Rattle.tape_set.specs.{Reading.IsReadingOf, Reading.as_read, Reach.passes}
use Rattle.tape_run.specs.SalvageSections.{SectionRead, IsRead, Labels, AreLabels, read_volume}
use Rattle.tape_run.specs.declared.salvage.walk.Expected.TheVariants.{Outside}
use Rattle.tape_run.specs.{SalvageBlocks.Salvaged, SalvageSections.key_of, SalvageSections.IsReadTo}
use Rattle.tape_run.specs.{SalvageImage.salvaged_from, SalvageWhole.piece_after}

-- The items are those of volume k of the set, of which these labels and sections were read.
pub record IsReadVolume (set : FileSet) (k : ℕ) (xs : List TapeItem) : Type 0 where
  pub volume : Volume
  pub labels : Labels
  pub reads : List SectionRead
  pub there : nth set.volumes k ≡ Some volume
  pub is_volume : IsVolume volume
  pub are_labels : AreLabels volume labels
  pub are_read : AllByRecursion (IsRead set.set_id (length set.volumes)) reads
  pub all : map (λ (r : SectionRead). r.placed) reads ≡ on k (sections set)
  pub is : xs ≡ read_volume labels reads

-- From a complete reading of a volume of a valid set, in which all labels and tape marks were
-- readable, exactly the records of a section's readable blocks are recovered, whether the items
-- were read to the mark after its data or completely.
abbrev pub RecoversReading : Type 0
RecoversReading = (set : FileSet) (r : Reading) → IsLawful set → IsReadingOf set r
    → passes r.good (entries set r.volume) ≡ true
    → (v : IsReadVolume set r.volume (as_read (items set r.volume) r.good))
    × ((before rest : List SectionRead) (s : SectionRead) (form : FileForm) (g : Salvaged)
    (read : List TapeItem) → v.reads ≡ before ++ s ∷ rest
    → IsReadTo (key_of set.set_id s) (as_read (items set r.volume) r.good) read
    → (salvaged_from (key_of set.set_id s) (length s.blocks) (Some form) (Outside 0) g read).piece
    ≡ piece_after form g.piece s.blocks)
