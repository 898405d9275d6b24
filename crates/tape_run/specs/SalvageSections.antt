-- The records recovered of a section of a valid set of which HDR1, the trailer label and the tape
-- marks were read; any of its blocks, and any of its other labels, may be unreadable.
use Rattle.std.specs.Prelude.{◌≡◌, ◌⊎◌, ℕ, nat_lt, Bool, true, false, if◌then◌else◌, List, [], ◌∷◌}
use Rattle.std.specs.{Prelude.◌++◌, Prelude.length, Prelude.Some, Prelude.Err, List.AllByRecursion}
use Rattle.tape_image.specs.Tape.{TapeItem, block, bad, mark}
use Rattle.tape_label.specs.{declared.label.LabelFault.LabelFault, Reading.head1_at}
use Rattle.tape_blocks.specs.Tight.{Filled}
use Rattle.tape_set.specs.Layout.{Placed, Volume}
use Rattle.tape_set.specs.Lawful.{IsSection, IsVolume, FileForm, label_count}
use Rattle.tape_run.specs.{declared.salvage.walk.Expected.Expected, Noted.same_key}
use Rattle.tape_run.specs.{declared.salvage.walk.OpenSection.OpenSection, SalvageBlocks.Salvaged}
use Rattle.tape_run.specs.declared.salvage.walk.Closing.{Closing}
use Rattle.tape_run.specs.declared.section.SectionKey.{SectionKey}
use Rattle.tape_run.specs.SalvageWalk.{expected_after, found_from}
use Rattle.tape_run.specs.SalvageImage.{salvaged_from, EndsData}
use Rattle.tape_run.specs.SalvageWhole.{Blocks, piece_after}
use Rattle.tape_run.specs.declared.salvage.walk.Expected.TheVariants.{Outside, Next}

-- ---- what was read

-- the items of these blocks, with a bad item in place of each unreadable one
abbrev pub read_blocks : Blocks → List TapeItem
read_blocks [] = []
read_blocks (b ∷ bs) = (if b.0 then block b.1.bytes else bad) ∷ read_blocks bs

-- the blocks themselves
abbrev pub filled_of : Blocks → List Filled
filled_of [] = []
filled_of (b ∷ bs) = b.1 ∷ filled_of bs

-- labels, each with whether it was read
abbrev pub Labels : Type 0
Labels = List (Bool × List ℕ)

-- the items of these labels, with a bad item in place of each unreadable one
abbrev pub read_labels : Labels → List TapeItem
read_labels [] = []
read_labels (l ∷ ls) = (if l.0 then block l.1 else bad) ∷ read_labels ls

-- the labels themselves
abbrev pub labels_of : Labels → List (List ℕ)
labels_of [] = []
labels_of (l ∷ ls) = l.1 ∷ labels_of ls

-- which labels and blocks of a section were read: of the labels after HDR1, of the blocks, and of
-- the labels after the trailer label
pub record SectionRead : Type 0 where
  pub placed : Placed
  pub headers : Labels
  pub blocks : Blocks
  pub trailers : Labels

-- the items of the section
abbrev pub read_section : SectionRead → List TapeItem
read_section r = (block r.placed.section.hdr1 ∷ []) ++ (read_labels r.headers ++ ((mark ∷ [])
    ++ (read_blocks r.blocks ++ ((mark ∷ block r.placed.section.trailer ∷ [])
    ++ (read_labels r.trailers ++ (mark ∷ []))))))

-- the block does not read as HDR1
abbrev pub IsNoHead : List ℕ → Type 0
IsNoHead b = (fault : LabelFault) × (head1_at b ≡ Err fault)

-- none of the labels that were read is HDR1
abbrev pub AreNoHeads : Labels → Type 0
AreNoHeads [] = Unit {0}
AreNoHeads ((true, b) ∷ ls) = IsNoHead b × AreNoHeads ls
AreNoHeads ((false, b) ∷ ls) = AreNoHeads ls

-- None of the labels after the first unreadable one is HDR1: the unreadable one may have been the
-- tape mark, so the next section may begin there.
abbrev pub NoneBegins : Labels → Type 0
NoneBegins [] = Unit {0}
NoneBegins ((true, b) ∷ ls) = NoneBegins ls
NoneBegins ((false, b) ∷ ls) = AreNoHeads ls

-- This was read of a section of a valid set.
pub record IsRead (set_id : List ℕ) (volumes : ℕ) (r : SectionRead) : Type 0 where
  pub is : IsSection set_id volumes r.placed
  pub headers : labels_of r.headers ≡ r.placed.section.hdr2 ∷ r.placed.section.headers
  pub blocks : filled_of r.blocks ≡ r.placed.section.blocks
  pub trailers : labels_of r.trailers ≡ r.placed.section.trailers
  pub none : NoneBegins r.trailers

-- which section it is
abbrev pub key_of : List ℕ → SectionRead → SectionKey
key_of set_id r = record { set_id = set_id; file = r.placed.file; sect = r.placed.sect }

-- ---- a section

-- a section may begin here
abbrev pub MayBegin : Expected → Type 0
MayBegin (Outside n) = nat_lt n 2 ≡ true
MayBegin Next = Unit {0}
MayBegin _ = ⊥

-- the phase expected after a section, if these of its trailer labels were read
abbrev pub after_trailers : Labels → Expected
after_trailers [] = Next
after_trailers ((true, b) ∷ ls) = after_trailers ls
after_trailers ((false, b) ∷ ls) = Outside 1

-- From a section of a valid set exactly the records of the blocks that were read are recovered, in
-- addition to earlier ones. Then another section may begin.
abbrev pub RecoversSectionOf : Type 0
RecoversSectionOf = (set_id : List ℕ) (volumes : ℕ) (r : SectionRead) (form : FileForm)
    (key : SectionKey) (s : Expected) (g : Salvaged)
    → IsRead set_id volumes r → MayBegin s → same_key (key_of set_id r) key ≡ true
    → (expected_after s (read_section r) ≡ after_trailers r.trailers)
    × ((salvaged_from key (length r.blocks) (Some form) s g (read_section r)).piece
    ≡ piece_after form g.piece r.blocks)

-- from another section nothing is recovered
abbrev pub PassesSection : Type 0
PassesSection = (set_id : List ℕ) (volumes : ℕ) (r : SectionRead) (form : FileForm)
    (key : SectionKey) (most : ℕ) (s : Expected) (g : Salvaged)
    → IsRead set_id volumes r → MayBegin s → same_key (key_of set_id r) key ≡ false
    → (expected_after s (read_section r) ≡ after_trailers r.trailers)
    × (salvaged_from key most (Some form) s g (read_section r) ≡ g)

-- Such a section is found to close, with all of its data items counted.
abbrev pub FindsSection : Type 0
FindsSection = (set_id : List ℕ) (volumes : ℕ) (r : SectionRead) (s : Expected) (before : ℕ)
    → IsRead set_id volumes r → MayBegin s → (u : OpenSection) × (closed : Closing) × (place : ℕ)
    × (found_from s before (read_section r) ≡ (place, (u, Some closed)) ∷ [])
    × (u.key ≡ key_of set_id r) × (u.blocks ≡ length r.blocks)
    × (closed.count ≡ label_count (length r.blocks))

-- ---- a volume

-- the items of sections, one after another
abbrev pub read_sections : List SectionRead → List TapeItem
read_sections [] = []
read_sections (r ∷ rs) = read_section r ++ read_sections rs

-- another section than this
abbrev pub IsOther : List ℕ → SectionKey → SectionRead → Type 0
IsOther set_id key r = same_key (key_of set_id r) key ≡ false

-- the items of a volume, if these of its labels and sections were read
abbrev pub read_volume : Labels → List SectionRead → List TapeItem
read_volume ls rs = read_labels ls ++ (read_sections rs ++ (mark ∷ []))

-- the labels of a volume, each with whether it was read
abbrev pub AreLabels : Volume → Labels → Type 0
AreLabels v ls = labels_of ls ≡ v.vol1 ∷ v.labels

-- From a volume exactly the records of the section's blocks that were read are recovered, in
-- addition to earlier ones, whichever other sections precede and follow it.
abbrev pub RecoversFromVolume : Type 0
RecoversFromVolume = (set_id : List ℕ) (volumes : ℕ) (v : Volume) (ls : Labels)
    (before : List SectionRead) (r : SectionRead) (rest : List SectionRead) (form : FileForm)
    (key : SectionKey) (g : Salvaged) → IsVolume v → AreLabels v ls
    → AllByRecursion (IsRead set_id volumes) before → AllByRecursion (IsOther set_id key) before
    → AllByRecursion (IsRead set_id volumes) rest → AllByRecursion (IsOther set_id key) rest
    → IsRead set_id volumes r → same_key (key_of set_id r) key ≡ true
    → (salvaged_from key (length r.blocks) (Some form) (Outside 0) g
    (read_volume ls (before ++ r ∷ rest))).piece ≡ piece_after form g.piece r.blocks

-- ---- a reading of a volume

-- the items of a reading that ends at the mark after the section's data, or is the whole volume
abbrev pub IsReadTo : SectionKey → List TapeItem → List TapeItem → Type 0
IsReadTo key all items = (items ≡ all)
    ⊎ ((rest : List TapeItem) × (all ≡ items ++ rest) × EndsData (Outside 0) key items)

-- From such a reading exactly the records of the section's blocks that were read are recovered.
abbrev pub RecoversFromReading : Type 0
RecoversFromReading = (set_id : List ℕ) (volumes : ℕ) (v : Volume) (ls : Labels)
    (before : List SectionRead) (r : SectionRead) (rest : List SectionRead) (form : FileForm)
    (key : SectionKey) (g : Salvaged) (items : List TapeItem) → IsVolume v → AreLabels v ls
    → AllByRecursion (IsRead set_id volumes) before → AllByRecursion (IsOther set_id key) before
    → AllByRecursion (IsRead set_id volumes) rest → AllByRecursion (IsOther set_id key) rest
    → IsRead set_id volumes r → same_key (key_of set_id r) key ≡ true
    → IsReadTo key (read_volume ls (before ++ r ∷ rest)) items
    → (salvaged_from key (length r.blocks) (Some form) (Outside 0) g items).piece
    ≡ piece_after form g.piece r.blocks
