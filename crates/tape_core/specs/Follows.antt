-- How the reader's state relates to a reading of a volume of a valid set: in each phase, the
-- entries of the volume still to come.
use Rattle.std.specs.Prelude.{◌≡◌, ◌≢◌, ◌<◌, ◌≤◌, ◌⊎◌, ℕ, List, [], ◌∷◌, ◌++◌, ◌+◌, Bool, true}
use Rattle.std.specs.Prelude.{false, Option, Some, None, map, drop, length, is_some, slice_get}
use Rattle.std.specs.{Prelude.MatchBool, List.AllByRecursion}
use Rattle.tape_image.specs.Tape.{TapeItem, block}
use Rattle.tape_label.specs.{declared.values.Head1.Head1, declared.values.Trail1.Trail1}
use Rattle.tape_label.specs.{Head1.IsHead1, Trail1.IsTrail1}
use Rattle.tape_blocks.specs.{Block.Portion, Block.Holds, Spans.InOrder, Judged.begun_behind}
use Rattle.tape_blocks.specs.Tight.{Filled}
use Rattle.tape_set.specs.Layout.{FileSet, Section, Placed, Entry, a_label, a_data_block, a_mark}
use Rattle.tape_set.specs.Layout.{entries, sections, on, all_entries, data_group, trailer_group}
use Rattle.tape_set.specs.{declared.position.Position.Position, Layout.section_of, Reading.Reading}
use Rattle.tape_set.specs.declared.position.Position.TheVariants.{Awaits, Finished}
use Rattle.tape_set.specs.Position.{is_start, awaiting, next_block, block_of, part_of}
use Rattle.tape_set.specs.Before.{before, IsIn}
use Rattle.tape_set.specs.Lawful.{FileForm, TellsForm, IsVolumeLabel, most_blocks}
use Rattle.tape_set.specs.Reach.{far, before_data, passes, good_run, stopped}
use Rattle.tape_core.specs.declared.event.Phase.TheVariants.{Over, Broken, Volume, VolumeLabels}
use Rattle.tape_core.specs.declared.event.Phase.TheVariants.{Header2, Headers, DataPassed}
use Rattle.tape_core.specs.declared.event.Phase.TheVariants.{DataWanted, TrailerPassed}
use Rattle.tape_core.specs.{declared.event.Answer.Answer, declared.event.Awaited.Awaited}
use Rattle.tape_core.specs.{declared.event.Heading.Heading, declared.event.Phase.Phase}
use Rattle.tape_core.specs.declared.event.Answer.TheVariants.{Passed, Deliver}
use Rattle.tape_core.specs.declared.event.Phase.TheVariants.{TrailerWanted, Trailers, NextFile}
use Rattle.tape_core.specs.{Labels.heading_of, Known.is_finished}
use Rattle.tape_core.specs.State.{State, ToldFits, is_broken, told, wants_data}
use Rattle.tape_core.specs.Table.{Outcome, IsShapeOf, after_block, other_numbers, step_of}

-- ---- the reader and its file

-- All sections of the file have the given form.
abbrev pub FileTells : FileSet → ℕ → FileForm → Type 0
FileTells set file form = (sect : ℕ) (s : Section) → section_of set file sect ≡ Some s
    → TellsForm form s

-- the form known at a position: `None` at the start of the file, otherwise the form of the file
abbrev pub KnownAt : FileSet → ℕ → Position → Option FileForm → Type 0
KnownAt set file p known = MatchBool (is_start p) (known ≡ None)
    ((form : FileForm) × (known ≡ Some form) × FileTells set file form)

-- The position is in the file, and `begun` and `known` are right for it: whether a record is
-- unfinished, and the form.
pub record StandsAt (set : FileSet) (file : ℕ) (p : Position) (begun : Bool)
    (known : Option FileForm) : Type 0 where
  pub inside : IsIn set file p
  pub span : begun ≡ begun_behind false (before set file p)
  pub tells : KnownAt set file p known

-- The reader belongs to the set, has a position in its file, and is not broken.
pub record IsAt (set : FileSet) (core : State) : Type 0 where
  pub of_set : core.set_id ≡ set.set_id
  pub sound : is_broken core.phase ≡ false
  pub stands : StandsAt set core.file core.position core.begun core.known

-- ---- the volume that is read

abbrev pub reading : ℕ → List Bool → Reading
reading k good = record { volume = k; good = good }

-- the contents of a volume from the sections `later`
abbrev pub to_come : List Placed → List Entry
to_come later = all_entries later ++ a_mark ∷ []

-- `todo` is the rest of volume k after the items read; all bad items among those read are data
-- blocks
pub record Left (set : FileSet) (k : ℕ) (good : List Bool) (todo : List Entry) : Type 0 where
  pub done : List Entry
  pub whole : done ++ todo ≡ entries set k
  pub count : length done ≡ length good
  pub fine : passes good done ≡ true

-- `later` are the sections on volume k after some sections of earlier files
pub record Among (set : FileSet) (k file : ℕ) (later : List Placed) : Type 0 where
  pub past : List Placed
  pub all : past ++ later ≡ on k (sections set)
  pub earlier_files : AllByRecursion (λ x. x.file < file) past

-- the form in the labels of the section, if they were read
abbrev pub Tells : Option FileForm → Section → Type 0
Tells None s = Unit {0}
Tells (Some form) s = TellsForm form s

-- ---- a reading that lost its position on the reel

-- The block reads as a trailer whose numbers are those of the header.
abbrev pub FitsHeading : Heading → List ℕ → Type 0
FitsHeading heading b = (t : Trail1) × IsTrail1 b t × (other_numbers heading t ≡ false)

-- The block does not read as HDR1.
abbrev pub IsNoHeader : List ℕ → Type 0
IsNoHeader b = (h : Head1) → IsHead1 b h → ⊥

-- If the next file is expected, the rest cannot move the position: no HDR1 follows.
abbrev pub BarrenNext : List Entry → Type 0
BarrenNext (a_label b ∷ es) = IsNoHeader b
BarrenNext (a_data_block b ∷ es) = IsNoHeader b
BarrenNext _ = Unit {0}

-- If further trailers are expected, the rest cannot move the position.
abbrev pub BarrenTrailers : List Entry → Type 0
BarrenTrailers [] = Unit {0}
BarrenTrailers (a_mark ∷ es) = BarrenNext es
BarrenTrailers (_ ∷ es) = BarrenTrailers es

-- If a trailer with the numbers of `heading` is expected, the rest cannot move the position.
abbrev pub BarrenTrailer : Heading → List Entry → Type 0
BarrenTrailer heading (a_label b ∷ es) = FitsHeading heading b → BarrenTrailers es
BarrenTrailer heading (a_data_block b ∷ es) = FitsHeading heading b → BarrenTrailers es
BarrenTrailer heading _ = Unit {0}

-- If skipped data are expected, the rest cannot move the position, whether its next mark is
-- readable or bad.
abbrev pub BarrenData : Heading → List Entry → Type 0
BarrenData heading [] = Unit {0}
BarrenData heading (a_mark ∷ es) = BarrenTrailer heading es × BarrenData heading es
BarrenData heading (_ ∷ es) = BarrenData heading es

-- ---- the phases, for a reading of volume k that began when the given part of the given block was
-- expected

module _ (set : FileSet) (file sect block part k : ℕ) where
  abbrev pub Here : Position
  Here = Awaits sect block part

  -- The section is the one needed, or belongs to an earlier file.
  abbrev pub IsChosen : Bool → Placed → Type 0
  IsChosen true x = (x.file ≡ file) × (x.sect ≡ sect)
  IsChosen false x = x.file < file

  -- A section is being read, and `rest` are its remaining entries.
  pub record Inside (good : List Bool) (heading : Heading) (wanted : Bool) (x : Placed)
      (rest : List Entry) : Type 0 where
    pub later : List Placed
    pub among : Among set k file (x ∷ later)
    pub numbers : (heading.sequence ≡ x.file) × (heading.sect ≡ x.sect)
    pub chosen : IsChosen wanted x
    pub left : Left set k good (rest ++ to_come later)

  -- Everything before the section's data was read, and then the items that `seen` describes.
  pub record Reached (s : Section) (good seen : List Bool) : Type 0 where
    pub fine : passes good (before_data set file sect s) ≡ true
    pub rest : drop (length (before_data set file sect s)) good ≡ seen

  -- the expected block after the data blocks that `seen` describes
  abbrev pub block_after : List Bool → ℕ
  block_after seen = block + good_run (drop block seen)

  -- After the header of the section needed: `count` of its blocks were seen, and the others are
  -- still to come.
  pub record InData (good : List Bool) (heading : Heading) (form : FileForm) (count : ℕ)
      (position : Position) (x : Placed) : Type 0 where
    pub seen : List Bool
    pub past : List Filled
    pub blocks : List Filled
    pub split : past ++ blocks ≡ x.section.blocks
    pub numbered : length past ≡ count
    pub all_seen : length seen ≡ count
    pub labels : TellsForm form x.section
    pub inside : Inside good heading true x (data_group blocks ++ trailer_group x.section)
    pub reached : Reached x.section good seen
    pub awaited : position ≡ stopped Here sect block (block_after seen)
    pub not_behind : count ≤ block_after seen

  -- After the data of the section needed and its closing mark.
  pub record AtTrailer (good : List Bool) (heading : Heading) (form : FileForm)
      (position : Position) (x : Placed) : Type 0 where
    pub seen : List Bool
    pub all_seen : length seen ≡ length x.section.blocks
    pub labels : TellsForm form x.section
    pub inside : Inside good heading true x (a_label x.section.trailer
        ∷ map a_label x.section.trailers ++ a_mark ∷ [])
    pub reached : Reached x.section good (seen ++ true ∷ [])
    pub all_awaited : block_after seen ≡ length x.section.blocks
    pub awaited : position ≡ stopped Here sect block (length x.section.blocks)

  -- An unreadable mark was read as a data block: whatever follows, this reading does not move the
  -- position.
  pub record Astray (good : List Bool) (Barren : List Entry → Type 0) : Type 0 where
    pub todo : List Entry
    pub done : List Entry
    pub whole : done ++ todo ≡ entries set k
    pub count : length done ≡ length good
    pub bad : passes good done ≡ false
    pub lost : (more : List Bool) → far set file Here (reading k (good ++ more)) ≡ Here
    pub barren : Barren todo

  abbrev pub Waits : Position → Type 0
  Waits position = position ≡ Here

  -- The phase and the position after the items that `good` describes.
  abbrev pub Follows : Phase → Position → List Bool → Type 0
  Follows Over position good = (more : List Bool) → far set file Here (reading k (good ++ more))
      ≡ position
  Follows Broken position good = ⊥
  Follows Volume position good = Waits position × (good ≡ [])
  Follows VolumeLabels position good =
      Waits position × (labels : List (List ℕ)) × AllByRecursion IsVolumeLabel labels
      × Left set k good (map a_label labels ++ to_come (on k (sections set)))
  Follows (Header2 heading wanted) position good =
      Waits position × (x : Placed)
      × Inside good heading wanted x (a_label x.section.hdr2 ∷ map a_label x.section.headers
      ++ a_mark ∷ data_group x.section.blocks ++ trailer_group x.section)
      × (h : Head1) × IsHead1 x.section.hdr1 h × (heading ≡ heading_of h)
  Follows (Headers heading form) position good =
      Waits position × (x : Placed) × (labels : List (List ℕ)) × Tells form x.section
      × Inside good heading (is_some form) x (map a_label labels ++ a_mark
      ∷ data_group x.section.blocks ++ trailer_group x.section)
  Follows (DataPassed heading) position good =
      Waits position
      × (Astray good (BarrenData heading)
      ⊎ ((x : Placed) × (blocks : List Filled)
      × Inside good heading false x (data_group blocks ++ trailer_group x.section)))
  Follows (TrailerPassed heading) position good =
      Waits position
      × (Astray good (BarrenTrailer heading)
      ⊎ ((x : Placed)
      × Inside good heading false x (a_label x.section.trailer ∷ map a_label x.section.trailers
      ++ a_mark ∷ [])))
  Follows Trailers position good =
      Waits position
      × (Astray good BarrenTrailers
      ⊎ ((x : Placed) × (heading : Heading) × (labels : List (List ℕ))
      × Inside good heading false x (map a_label labels ++ a_mark ∷ [])))
  Follows NextFile position good = Waits position
      × (Astray good BarrenNext
      ⊎ ((later : List Placed) × Among set k file later × Left set k good (to_come later)))
  Follows (DataWanted heading form count) position good = (x : Placed)
      × InData good heading form count position x
  Follows (TrailerWanted heading form) position good = (x : Placed)
      × AtTrailer good heading form position x

-- the same for a reading that began at any position
abbrev pub FollowsFrom : FileSet → ℕ → Position → ℕ → List Bool → Phase → Position → Type 0
FollowsFrom set file Finished k good phase position = position ≡ Finished
FollowsFrom set file (Awaits sect b part) k good phase position =
    Follows set file sect b part k phase position good

-- The reader follows a reading of volume k that began at p; `good` says which of the items so far
-- were readable.
pub record IsReading (set : FileSet) (p : Position) (k : ℕ) (good : List Bool)
    (core : State) : Type 0 where
  pub from : IsIn set core.file p
  pub at : IsAt set core
  pub follows : FollowsFrom set core.file p k good core.phase core.position

-- ---- a step

-- the answer ends the reading
abbrev pub IsFinal : Answer → Type 0
IsFinal Passed = ⊥
IsFinal Deliver = ⊥
IsFinal _ = Unit {0}

-- The rest of this reading does not change the position.
abbrev pub IsDone : FileSet → Position → ℕ → List Bool → State → Type 0
IsDone set p k good core = (more : List Bool) → far set core.file p (reading k (good ++ more))
    ≡ core.position

-- The expected block came: it contains its parts in the file's form, and the parts not delivered
-- already are the next parts of the file.
pub record Delivers (set : FileSet) (item : TapeItem) (old new : State) : Type 0 where
  pub sect : ℕ
  pub place : ℕ
  pub part : ℕ
  pub section : Section
  pub filled : Filled
  pub form : FileForm
  pub awaited : old.position ≡ Awaits sect place part
  pub found : section_of set old.file sect ≡ Some section
  pub its : slice_get section.blocks place ≡ Some filled
  pub is_block : item ≡ block filled.bytes
  pub is_known : new.known ≡ Some form
  pub tells : FileTells set old.file form
  pub holds : Holds form.format form.rec_len form.offset filled.bytes filled.parts
  pub order : InOrder old.begun (drop part filled.parts) new.begun
  pub behind : new.position ≡ awaiting sect (place + 1)
  pub next : before set new.file new.position ≡ before set old.file old.position
      ++ drop part filled.parts

-- A step delivers the next parts, or no parts.
abbrev pub Gives : FileSet → TapeItem → Answer → State → State → Type 0
Gives set item Deliver old new = Delivers set item old new
Gives set item _ old new = before set new.file new.position ≡ before set old.file old.position

-- The effect of a step on a reading and on the delivered parts; `good` describes the items read,
-- including the item of this step.
pub record Kept (set : FileSet) (p : Position) (k : ℕ) (good : List Bool) (item : TapeItem)
    (core : State) (out : Outcome) : Type 0 where
  pub reads : IsReading set p k good out.1
  pub same_file : out.1.file ≡ core.file
  pub gives : Gives set item out.0 core out.1
  pub done : IsFinal out.0 → IsDone set p k good out.1

-- After a complete volume a step changes only the phase.
pub record Idle (set : FileSet) (p : Position) (k : ℕ) (good : List Bool) (core : State)
    (out : Outcome) : Type 0 where
  pub reads : IsReading set p k good out.1
  pub same_file : out.1.file ≡ core.file
  pub same_position : out.1.position ≡ core.position
  pub silent : out.0 ≢ Deliver

-- The block was delivered, in a valid or invalid set: it contains parts in span order in the form
-- that is now known, including the expected part, and the position is after the block.
pub record Checked (arrived : Option TapeItem) (old new : State) : Type 0 where
  pub bytes : List ℕ
  pub form : FileForm
  pub parts : List Portion
  pub begun : Bool
  pub end : Bool
  pub came : arrived ≡ Some (block bytes)
  pub is_known : new.known ≡ Some form
  pub holds : Holds form.format form.rec_len form.offset bytes parts
  pub order : InOrder begun parts end
  pub more : (part_of old.position ≡ 0) ⊎ (part_of old.position < length parts)
  pub few : length parts ≤ length bytes
  pub behind : new.position ≡ next_block old.position
  pub waits : is_finished old.position ≡ false

-- The block is the expected one: a step delivers it. The value describes it.
pub record IsAwaited (core : State) (bytes : List ℕ) (found : Awaited) : Type 0 where
  pub step : step_of core (Some (block bytes)) ≡ (Deliver, after_block core found.end)
  pub checked : Checked (Some (block bytes)) core (after_block core found.end)
  pub form : FileForm
  pub is_known : (after_block core found.end).known ≡ Some form
  pub shape : IsShapeOf form found.shape
  pub part : found.part ≡ part_of core.position
  pub begun : found.begun ≡ core.begun
  pub wanted : wants_data core.phase ≡ true
  pub more : block_of core.position < most_blocks
  pub fits : ToldFits found.end (told core.phase)
