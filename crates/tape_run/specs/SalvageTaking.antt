-- The sections of a file, recovered one after another, each from its best copy.
use Rattle.std.specs.Prelude.{◌≡◌, ◌≢◌, ◌⊎◌, ℕ, ◌+◌, ◌<◌, ◌≤◌, min, Bool, true, false, is_some}
use Rattle.std.specs.Prelude.{List, [], ◌∷◌, ◌++◌, length, Option, Some, None, if◌then◌else◌}
use Rattle.std.specs.List.{AllByRecursion}
use Rattle.tape_image.specs.Tape.{TapeItem}
use Rattle.tape_set.specs.Lawful.{FileForm}
use Rattle.tape_run.specs.declared.salvage.ending.SectionEnd.TheVariants.{FileEnds, Continues}
use Rattle.tape_run.specs.SalvageEnds.{without_rest, no_section_text, no_form_text, read_again}
use Rattle.tape_run.specs.{declared.salvage.Content.Content, declared.salvage.walk.Closing.Closing}
use Rattle.tape_run.specs.declared.salvage.Content.TheVariants.{Records, Blocks}
use Rattle.tape_run.specs.{declared.salvage.ending.SectionEnd.SectionEnd, Reeling.Mounting}
use Rattle.tape_run.specs.declared.salvage.ending.SectionEnd.TheVariants.{Unknown}
use Rattle.tape_run.specs.declared.salvage.copies.SectionCopy.{SectionCopy}
use Rattle.tape_run.specs.{declared.salvage.recovery.Recovery.Recovery, SalvageLine.section_line}
use Rattle.tape_run.specs.SalvageCopies.{believed, start_of}
use Rattle.tape_run.specs.SalvageBlocks.{Salvaged, Recovers}
use Rattle.tape_run.specs.{SalvageWalk.expected_after, SalvageEnds.read_again_text}
use Rattle.tape_run.specs.SalvageImage.{ReadsSection, BeginsWith, read_in, salvaged_from, text_from}
use Rattle.tape_run.specs.SalvageChoice.{firsts, IsBest, form_of_file, last_section}

-- the form in which a section's blocks are read: its own, otherwise that of the file
abbrev pub form_for : Content → Option FileForm → Option FileForm → Option FileForm
form_for Blocks own known = None
form_for Records (Some form) known = Some form
form_for Records None known = known

-- whether its blocks can be read; blocks that are copied unchanged need no form
abbrev pub has_form : Content → Option FileForm → Bool
has_form Blocks form = true
has_form Records form = is_some form

-- The result for a section: its best copy, and the items of that copy's image that were read. No
-- image is read if there is no copy or no form, or if the image cannot be opened again.
pub record Taken : Type 0 where
  pub copy : Option SectionCopy
  pub items : Option (List TapeItem)

-- the number of an image as it is reported, counted from 1; it never exceeds the greatest number of
-- 64 bits
abbrev pub image_number : ℕ → ℕ
image_number n = min (n + 1) 18446744073709551615

-- after the items that were read of the copy's image
abbrev pub after_copy : SectionCopy → Option FileForm → Option (List TapeItem) → Salvaged → Salvaged
after_copy c form None g = without_rest g
after_copy c form (Some items) g =
    read_again (read_in c.section.key (expected_after (start_of c) items)) c
    (salvaged_from c.section.key (believed c) form (start_of c) g items)

abbrev pub copy_text : ℕ → SectionCopy → Option FileForm → Option (List TapeItem) → Salvaged
    → List ℕ
copy_text sect c form None g = no_section_text sect g
copy_text sect c form (Some items) g = section_line sect (image_number c.image) c.section.blocks
    ++ (text_from c.section.key (believed c) form (start_of c) g items
    ++ read_again_text (read_in c.section.key (expected_after (start_of c) items)) c
    (salvaged_from c.section.key (believed c) form (start_of c) g items))

-- after a section
abbrev pub after_taken : Content → Option FileForm → Option SectionCopy → Option (List TapeItem)
    → Salvaged → Salvaged
after_taken content known None items g = without_rest g
after_taken content known (Some c) items g =
    if has_form content (form_for content c.section.form known)
    then after_copy c (form_for content c.section.form known) items g else without_rest g

abbrev pub taken_text : Content → Option FileForm → ℕ → Option SectionCopy
    → Option (List TapeItem) → Salvaged → List ℕ
taken_text content known sect None items g = no_section_text sect g
taken_text content known sect (Some c) items g =
    if has_form content (form_for content c.section.form known)
    then copy_text sect c (form_for content c.section.form known) items g
    else no_form_text sect g

-- the end of the section
abbrev pub end_by : Option Closing → SectionEnd
end_by None = Unknown
end_by (Some closed) = if closed.eof then FileEnds else Continues

abbrev pub end_of_taken : Content → Option FileForm → Option SectionCopy
    → Option (List TapeItem) → SectionEnd
end_of_taken content known None items = Unknown
end_of_taken content known (Some c) None = Unknown
end_of_taken content known (Some c) (Some items) =
    if has_form content (form_for content c.section.form known) then end_by c.closed else Unknown

-- the items that were read of an image that was opened; none if it could not be opened
abbrev pub IsReadOf : {R : Type 0} → (R → Option (List ℕ)) → SectionCopy → Option R
    → Option (List TapeItem) → Type 0
IsReadOf remaining c None items = items ≡ None
IsReadOf remaining c (Some device) None = ⊥
IsReadOf remaining c (Some device) (Some items) = (after : Option (List ℕ)) × (is_ended : Bool)
    × ReadsSection (remaining device) after (start_of c) c.section.key items is_ended

-- the image of the copy was opened and read
abbrev pub MountsCopy : {L R : Type 0} → Mounting L R → (R → Option (List ℕ)) → SectionCopy → L → L
    → Option (List TapeItem) → Type 0
MountsCopy gives remaining c shelf left items = (image : Option _)
    × gives shelf c.image image left × IsReadOf remaining c image items

-- it was, or no image was opened
abbrev pub MountsIf : {L R : Type 0} → Bool → Mounting L R → (R → Option (List ℕ)) → SectionCopy
    → L → L → Option (List TapeItem) → Type 0
MountsIf true gives remaining c shelf left items = MountsCopy gives remaining c shelf left items
MountsIf false gives remaining c shelf left items = (left ≡ shelf) × (items ≡ None)

-- the image of the section's copy was opened, if the section has a copy and its blocks can be read
abbrev pub MountsTaken : {L R : Type 0} → Mounting L R → (R → Option (List ℕ)) → Content
    → Option FileForm → Option SectionCopy → L → L → Option (List TapeItem) → Type 0
MountsTaken gives remaining content known None shelf left items = (left ≡ shelf) × (items ≡ None)
MountsTaken gives remaining content known (Some c) shelf left items =
    MountsIf (has_form content (form_for content c.section.form known)) gives remaining c shelf left
    items

-- A section was recovered from its copy on an image whose reader has these bytes.
pub record TakesCopy {W : Type 0} (contents : W → Option (List ℕ)) (before : Option (List ℕ))
    (c : SectionCopy) (sect : ℕ) (form : Option FileForm) (old new : Recovery W)
    (said says : Option (List ℕ)) (end : SectionEnd) : Type 0 where
  pub items : List TapeItem
  pub after : Option (List ℕ)
  pub is_ended : Bool
  pub reads : ReadsSection before after (start_of c) c.section.key items is_ended
  pub recovers : Recovers contents old new said says (after_copy c form (Some items))
      (copy_text sect c form (Some items))
  pub ends : end ≡ end_by c.closed

-- A section was recovered from its best copy.
pub record TakesSection {W L R : Type 0} (contents : W → Option (List ℕ)) (gives : Mounting L R)
    (remaining : R → Option (List ℕ)) (copies : List SectionCopy) (content : Content)
    (known : Option FileForm) (sect : ℕ) (shelf left : L) (old new : Recovery W)
    (said says : Option (List ℕ)) (end : SectionEnd) : Type 0 where
  pub taken : Taken
  pub best : IsBest (firsts sect None copies) taken.copy
  pub mounts : MountsTaken gives remaining content known taken.copy shelf left taken.items
  pub recovers : Recovers contents old new said says
      (after_taken content known taken.copy taken.items)
      (taken_text content known sect taken.copy taken.items)
  pub ends : end ≡ end_of_taken content known taken.copy taken.items

-- ---- all sections

-- sections from this number on, one after another
abbrev pub AreTaken : {L R : Type 0} → Mounting L R → (R → Option (List ℕ)) → List SectionCopy
    → Content → Option FileForm → ℕ → L → List Taken → L → Type 0
AreTaken gives remaining copies content known sect shelf [] left = left ≡ shelf
AreTaken gives remaining copies content known sect shelf (t ∷ ts) left = (mid : _)
    × IsBest (firsts sect None copies) t.copy
    × MountsTaken gives remaining content known t.copy shelf mid t.items
    × AreTaken gives remaining copies content known (sect + 1) mid ts left

abbrev pub after_all : Content → Option FileForm → List Taken → Salvaged → Salvaged
after_all content known [] g = g
after_all content known (t ∷ ts) g =
    after_all content known ts (after_taken content known t.copy t.items g)

abbrev pub all_text : Content → Option FileForm → ℕ → List Taken → Salvaged → List ℕ
all_text content known sect [] g = []
all_text content known sect (t ∷ ts) g = taken_text content known sect t.copy t.items g
    ++ all_text content known (sect + 1) ts (after_taken content known t.copy t.items g)

-- the file continues after these sections, or that is not known
abbrev pub GoOn : Content → Option FileForm → List Taken → Type 0
GoOn content known = AllByRecursion (λ t. end_of_taken content known t.copy t.items ≢ FileEnds)

-- the end of the last of these sections; a file has at least one section
abbrev pub last_end : Content → Option FileForm → List Taken → SectionEnd
last_end content known [] = Continues
last_end content known (t ∷ []) = end_of_taken content known t.copy t.items
last_end content known (t ∷ u ∷ ts) = last_end content known (u ∷ ts)

-- These are all sections up to the first that ends the file, or up to the last that was found.
abbrev pub AreAllSections : Content → Option FileForm → List SectionCopy → List Taken → Type 0
AreAllSections content known copies taken =
    ((GoOn content known taken) × (length taken ≡ last_section copies))
    ⊎ ((front : List Taken) × (t : Taken) × (taken ≡ front ++ t ∷ []) × GoOn content known front
    × (end_of_taken content known t.copy t.items ≡ FileEnds)
    × (length taken ≤ last_section copies))

-- the file continues after the last section that was found
abbrev pub at_last : SectionEnd → Salvaged → Salvaged
at_last Continues g = without_rest g
at_last FileEnds g = g
at_last Unknown g = g

abbrev pub last_text : SectionEnd → ℕ → Salvaged → List ℕ
last_text Continues sect g = no_section_text sect g
last_text FileEnds sect g = []
last_text Unknown sect g = []

-- the number after this one; it never exceeds the greatest number of 16 bits
abbrev pub next_section : ℕ → ℕ
next_section n = min (n + 1) 65535

-- the salvaged data after all sections and their lines
abbrev pub after_file : Content → List SectionCopy → List Taken → Salvaged → Salvaged
after_file content copies taken g =
    at_last (last_end content (form_of_file copies) taken)
    (after_all content (form_of_file copies) taken g)

abbrev pub file_text : Content → List SectionCopy → List Taken → Salvaged → List ℕ
file_text content copies taken g = all_text content (form_of_file copies) 1 taken g
    ++ last_text (last_end content (form_of_file copies) taken) (next_section (length taken))
    (after_all content (form_of_file copies) taken g)

-- The sections of a file were recovered one after another, each from its best copy.
pub record TakesFile {W L R : Type 0} (contents : W → Option (List ℕ)) (gives : Mounting L R)
    (remaining : R → Option (List ℕ)) (copies : List SectionCopy) (content : Content)
    (shelf left : L) (old new : Recovery W) (said says : Option (List ℕ)) : Type 0 where
  pub taken : List Taken
  pub took : AreTaken gives remaining copies content (form_of_file copies) 1 shelf taken left
  pub all : AreAllSections content (form_of_file copies) copies taken
  pub recovers : Recovers contents old new said says (after_file content copies taken)
      (file_text content copies taken)

-- ---- up to an error

-- the lines about the copy and these items of its image
abbrev pub items_text : ℕ → SectionCopy → Option FileForm → List TapeItem → Salvaged → List ℕ
items_text sect c form items g = section_line sect (image_number c.image) c.section.blocks
    ++ text_from c.section.key (believed c) form (start_of c) g items

-- These are the lines about items that the copy's image begins with, or all lines about a copy that
-- was read.
abbrev pub StopsCopy : Option (List ℕ) → ℕ → SectionCopy → Option FileForm → (Salvaged → List ℕ)
    → Type 0
StopsCopy before sect c form lines = (items : List TapeItem)
    × ((BeginsWith before items × (lines ≡ items_text sect c form items))
    ⊎ ((after : Option (List ℕ)) × (is_ended : Bool)
    × ReadsSection before after (start_of c) c.section.key items is_ended
    × (lines ≡ copy_text sect c form (Some items))))

-- These are the lines about the section with this number, up to an error: none; or all, if no image
-- of it was read; or those about its best copy.
abbrev pub StopsSection : {L R : Type 0} → Mounting L R → (R → Option (List ℕ)) → List SectionCopy
    → Content → Option FileForm → ℕ → L → L → (Salvaged → List ℕ) → Type 0
StopsSection gives remaining copies content known sect shelf left lines =
    ((left ≡ shelf) × (lines ≡ (λ g. [])))
    ⊎ ((copy : Option SectionCopy) × IsBest (firsts sect None copies) copy
    × ((MountsTaken gives remaining content known copy shelf left None
    × (lines ≡ taken_text content known sect copy None))
    ⊎ ((c : SectionCopy) × (copy ≡ Some c)
    × (has_form content (form_for content c.section.form known) ≡ true)
    × (device : _) × gives shelf c.image (Some device) left
    × StopsCopy (remaining device) sect c (form_for content c.section.form known) lines)))

-- These are the lines of the first sections, perhaps with some of the next one, or of all sections.
pub record StopsTaking {L R : Type 0} (gives : Mounting L R) (remaining : R → Option (List ℕ))
    (copies : List SectionCopy) (content : Content) (shelf left : L) (lines : Salvaged → List ℕ)
    : Type 0 where
  pub taken : List Taken
  pub mid : L
  pub took : AreTaken gives remaining copies content (form_of_file copies) 1 shelf taken mid
  pub are : (GoOn content (form_of_file copies) taken × (length taken ≤ last_section copies)
      × (left ≡ mid) × (lines ≡ all_text content (form_of_file copies) 1 taken))
      ⊎ ((GoOn content (form_of_file copies) taken × (length taken < last_section copies)
      × (part : Salvaged → List ℕ) × StopsSection gives remaining copies content
      (form_of_file copies) (length taken + 1) mid left part
      × (lines ≡ (λ g. all_text content (form_of_file copies) 1 taken g
      ++ part (after_all content (form_of_file copies) taken g))))
      ⊎ (AreAllSections content (form_of_file copies) copies taken × (left ≡ mid)
      × (lines ≡ file_text content copies taken)))
