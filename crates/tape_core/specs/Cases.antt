-- Examples for the definitions of readers and sinks, which ensure that no definition says less, or
-- requires more, than it should. They are the contract of the call `laws::cases`.
use Rattle.std.specs.Prelude.{◌≡◌, ◌≢◌, ◌<◌, ◌≤◌, ◌+◌, ◌⊎◌, ℕ, Bool, true, false, List, [], ◌∷◌}
use Rattle.std.specs.Prelude.{◌++◌, length, drop, replicate, codes, slice_get, Option, Some, None}
use Rattle.std.specs.Prelude.{Result, Ok, Err}
use Rattle.tape_image.specs.Tape.{TapeItem, block, bad, mark}
use Rattle.tape_blocks.specs.{declared.parts.Shape.Shape, declared.parts.Part.Part, Parts.view}
use Rattle.tape_blocks.specs.declared.parts.Span.TheVariants.{Whole, First}
use Rattle.tape_blocks.specs.{Block.Portion, Block.Holds, Spans.InOrder, Judged.begun_behind}
use Rattle.tape_blocks.specs.Packing.{longest_block}
use Rattle.tape_set.specs.{declared.position.Position.Position, Lawful.FileForm, Lawful.TellsForm}
use Rattle.tape_set.specs.declared.position.Position.TheVariants.{Awaits, Finished}
use Rattle.tape_set.specs.Position.{start, awaiting, next_block, part_of}
use Rattle.tape_set.specs.{Layout.FileSet, Layout.Section, Layout.section_of, Reach.far}
use Rattle.tape_set.specs.Before.{before, IsIn}
use Rattle.tape_core.specs.declared.event.Phase.TheVariants.{Over, Broken, Volume, VolumeLabels}
use Rattle.tape_core.specs.Crash.{Returns, Crashes, IsThis, OnlyThis, ThisAlone, AddsNothing}
use Rattle.tape_core.specs.Follows.{IsAt, StandsAt, KnownAt, FileTells, IsFinal, Delivers, Gives}
use Rattle.tape_core.specs.declared.event.Answer.TheVariants.{Passed, Deliver, Complete}
use Rattle.tape_core.specs.{declared.event.Phase.TheVariants.NextFile, Crash.AddsOnly, Crash.lost}
use Rattle.tape_core.specs.{declared.sink.SinkFault.SinkFault, Entries.parts_from}
use Rattle.tape_core.specs.Place.{rest_of, place_of, IsPlaced}
use Rattle.tape_core.specs.{Point.Point, Point.IsPoint, State.State, State.is_broken}
use Rattle.tape_core.specs.Stands.{Stands, weight_of, inside_block}
use Rattle.tape_core.specs.{Table.Outcome, Table.Shows, Weight.IsFront, Weight.Rose}
use Rattle.tape_core.specs.Foreign.{starts_set, labels_of_set, IsForeignAt, Unmoved}
use Rattle.tape_core.specs.Follows.{Checked, Idle, Kept, IsReading, reading}
use Rattle.tape_core.specs.Known.{is_finished, IsFileNumber, StandFits, most_staged}
use Rattle.tape_core.specs.Walks.{GivesPart, Counts, Lends, HasGiven}

-- ---- foreign reels

abbrev pub vol1 : List ℕ
vol1 = codes "VOL1ABC001                                                                     4"

abbrev pub user_label : List ℕ
user_label = codes "UVL1" ++ replicate 76 32

abbrev pub hdr1 : List ℕ
hdr1 = codes "HDR1PAYROLL          ABC00100010001000100 00000 00000 000000                    "

-- an HDR1 of section 3 of file 2
abbrev pub later_hdr1 : List ℕ
later_hdr1 =
    codes "HDR1PAYROLL          ABC00100030002000100 00000 00000 000000                    "

abbrev pub other_hdr1 : List ℕ
other_hdr1 =
    codes "HDR1PAYROLL          XYZ00100010001000100 00000 00000 000000                    "

abbrev pub hdr2 : List ℕ
hdr2 = codes "HDR2S0001800000                                   00                            "

-- whether the items begin as a volume of the set ABC001
abbrev pub begins_set : List TapeItem → Bool
begins_set items = starts_set (codes "ABC001") items

-- reels that begin as a volume of a set, and foreign reels
pub record CasesOfForeign : Type 0 where
  pub own_volume : (more : List TapeItem) → begins_set (block vol1 ∷ block hdr1 ∷ more) ≡ true
  -- with further volume labels, and beginning with a later section of a later file
  pub own_labelled : begins_set (block vol1 ∷ block user_label ∷ block user_label
      ∷ block later_hdr1 ∷ []) ≡ true
  pub other_set : begins_set (block vol1 ∷ block user_label ∷ block other_hdr1 ∷ []) ≡ false
  -- a reel without items, and reels that begin with a mark, a bad item or a block other than a
  -- volume label
  pub nothing : (id : List ℕ) → starts_set id [] ≡ false
  pub mark_first : (id : List ℕ) (rest : List TapeItem) → starts_set id (mark ∷ rest) ≡ false
  pub bad_first : (id : List ℕ) (rest : List TapeItem) → starts_set id (bad ∷ rest) ≡ false
  pub plain_first : begins_set (block (65 ∷ []) ∷ block hdr1 ∷ []) ≡ false
  pub header_first : begins_set (block hdr1 ∷ block hdr1 ∷ []) ≡ false
  -- a reel that ends after its volume label, or continues with something other than an HDR1
  pub label_alone : begins_set (block vol1 ∷ []) ≡ false
  pub mark_behind : (rest : List TapeItem) → begins_set (block vol1 ∷ mark ∷ rest) ≡ false
  pub bad_behind : (rest : List TapeItem) → begins_set (block vol1 ∷ bad ∷ rest) ≡ false
  pub second_behind : begins_set (block vol1 ∷ block hdr2 ∷ block hdr1 ∷ []) ≡ false
  -- the rest of a reel after its volume label, and the rest of a reel that is no longer read
  pub left_behind_label : (id : List ℕ) (rest : List TapeItem)
      → IsForeignAt id rest (awaiting 2 1) VolumeLabels → labels_of_set id rest ≡ false
  pub left_unread : (id : List ℕ) (rest : List TapeItem) → IsForeignAt id rest start Over
  pub left_by_complete : (id : List ℕ) (rest : List TapeItem)
      → IsForeignAt id rest Finished NextFile
  pub never_on_it : (id : List ℕ) (rest : List TapeItem) → IsForeignAt id rest start NextFile → ⊥

-- ---- positions of a reader

abbrev pub five_bytes : Portion
five_bytes = record { span = First; bytes = codes "ABCDE" }

abbrev pub no_bytes : Portion
no_bytes = record { span = Whole; bytes = [] }

-- states, checkpoints, and the parts that belong to them
pub record CasesOfPlaces : Type 0 where
  pub weight : weight_of (five_bytes ∷ no_bytes ∷ []) ≡ 15
  -- at the start of a file the form is unknown; elsewhere it is the form of all sections
  pub start_unknown : (set : FileSet) (file : ℕ) → KnownAt set file start None
  pub start_known : (set : FileSet) (file : ℕ) (form : FileForm)
      → KnownAt set file start (Some form) → ⊥
  pub behind_unknown : (set : FileSet) (file : ℕ) → KnownAt set file (Awaits 1 0 1) None → ⊥
  pub end_unknown : (set : FileSet) (file : ℕ) → KnownAt set file Finished None → ⊥
  pub behind_known : (set : FileSet) (file : ℕ) (form : FileForm)
      → KnownAt set file (awaiting 1 1) (Some form) → FileTells set file form
  -- each section of the file states its form
  pub told_by_sections : (set : FileSet) (file sect : ℕ) (form : FileForm) (s : Section)
      → FileTells set file form → section_of set file sect ≡ Some s → TellsForm form s
  -- the invariant of checkpoints
  pub point_fits : (point : Point) → IsPoint point → IsFileNumber point.file
      × StandFits point.position point.begun point.known × (point.staged ≤ most_staged)
  -- parts in memory are consecutive
  pub parts_in_order : parts_from 0 (record { span = First; end = 2 }
      ∷ record { span = Whole; end = 2 } ∷ record { span = Whole; end = 3 } ∷ [])
      (65 ∷ 66 ∷ 67 ∷ []) ≡ record { span = First; bytes = 65 ∷ 66 ∷ [] }
      ∷ record { span = Whole; bytes = [] } ∷ record { span = Whole; bytes = 67 ∷ [] } ∷ []
  -- everything that is known about a reader with a position in a file
  pub at : (set : FileSet) (core : State) → IsAt set core
      → (core.set_id ≡ set.set_id) × (is_broken core.phase ≡ false)
      × IsIn set core.file core.position
      × (core.begun ≡ begun_behind false (before set core.file core.position))
      × KnownAt set core.file core.position core.known
  pub at_by : (set : FileSet) (core : State) → core.set_id ≡ set.set_id
      → is_broken core.phase ≡ false → IsIn set core.file core.position
      → core.begun ≡ begun_behind false (before set core.file core.position)
      → KnownAt set core.file core.position core.known → IsAt set core
  pub broken_is_nowhere : (set : FileSet) (core : State) → core.phase ≡ Broken → IsAt set core → ⊥
  -- the same for a checkpoint with parts
  pub stands : (set : FileSet) (file : ℕ) (point : Point) (parts : List Portion)
      → Stands set file point parts → (point.set_id ≡ set.set_id) × (point.file ≡ file)
      × StandsAt set file point.position point.begun point.known
      × (parts ≡ before set file point.position) × (point.staged ≡ weight_of parts)
  pub stands_by : (set : FileSet) (file : ℕ) (point : Point) (parts : List Portion)
      → point.set_id ≡ set.set_id → point.file ≡ file
      → StandsAt set file point.position point.begun point.known
      → parts ≡ before set file point.position → point.staged ≡ weight_of parts
      → Stands set file point parts
  -- the same for a reader with parts
  pub placed : (set : FileSet) (core : State) (parts : List Portion) → IsPlaced set core parts
      → IsAt set core × (parts ≡ before set core.file core.position)
  -- a checkpoint describes a reader that has no reading in progress; a broken reader stays broken
  -- there
  pub read_is : (reading 2 (true ∷ false ∷ [])).volume ≡ 2
  pub read_of : (reading 2 (true ∷ false ∷ [])).good ≡ true ∷ false ∷ []
  -- the checkpoint inside a block expects the given part, and has the given weight
  pub in_block : (point : Point) → point.known ≡ None
      → ((inside_block point (awaiting 2 1) 3 true 20).position ≡ Awaits 2 1 3)
      × ((inside_block point (awaiting 2 1) 3 true 20).begun ≡ false)
      × ((inside_block point (awaiting 2 1) 3 true 20).staged ≡ 20)
  pub told_rests : (point : Point) → rest_of (place_of point) ≡ place_of point
  pub told_stands : (set : FileSet) (point : Point) → point.set_id ≡ set.set_id
      → StandsAt set point.file point.position point.begun point.known → IsAt set (place_of point)
  pub broken_stays : (core : State) → core.phase ≡ Broken → (rest_of core).phase ≡ Broken
  pub read_is_over : (core : State) → core.phase ≡ Volume → (rest_of core).phase ≡ Over
  pub all_stays : (core : State) → ((rest_of core).set_id ≡ core.set_id)
      × ((rest_of core).file ≡ core.file) × ((rest_of core).position ≡ core.position)
      × ((rest_of core).begun ≡ core.begun) × ((rest_of core).known ≡ core.known)

-- ---- the effect of a step

-- steps, restarts and shapes
pub record CasesOfSteps : Type 0 where
  -- a step that changes nothing leaves the position unchanged, and delivers nothing
  pub idle_stays : (set : FileSet) (p : Position) (k : ℕ) (good : List Bool) (core : State)
      (out : Outcome) → Idle set p k good core out → IsReading set p k good out.1
      × (out.1.file ≡ core.file) × (out.1.position ≡ core.position) × (out.0 ≢ Deliver)
  pub foreign_stays : (set : FileSet) (rest : List TapeItem) (core : State) (out : Outcome)
      → Unmoved set rest core out → IsAt set out.1 × (out.1.file ≡ core.file)
      × (out.1.position ≡ core.position) × (out.0 ≢ Deliver)
  pub kept_reading : (set : FileSet) (p : Position) (k : ℕ) (good : List Bool) (item : TapeItem)
      (core : State) (out : Outcome) → Kept set p k good item core out
      → IsReading set p k good out.1 × (out.1.file ≡ core.file) × Gives set item out.0 core out.1
      × (IsFinal out.0 → (more : List Bool)
      → far set out.1.file p (reading k (good ++ more)) ≡ out.1.position)
  pub goes_on : (IsFinal Passed → ⊥) × (IsFinal Deliver → ⊥) × IsFinal Complete
  -- a delivered block is that of the section at the expected position, and its parts, beginning
  -- with the expected one, are the next parts of the file
  pub delivered_block : (set : FileSet) (item : TapeItem) (old new : State)
      (d : Delivers set item old new)
      → (old.position ≡ Awaits d.sect d.place d.part)
      × (section_of set old.file d.sect ≡ Some d.section)
      × (slice_get d.section.blocks d.place ≡ Some d.filled) × (item ≡ block d.filled.bytes)
  pub delivered_parts : (set : FileSet) (item : TapeItem) (old new : State)
      (d : Delivers set item old new)
      → (new.position ≡ awaiting d.sect (d.place + 1)) × (before set new.file new.position
      ≡ before set old.file old.position ++ drop d.part d.filled.parts)
  pub delivered_form : (set : FileSet) (item : TapeItem) (old new : State)
      (d : Delivers set item old new)
      → (new.known ≡ Some d.form) × FileTells set old.file d.form
      × Holds d.form.format d.form.rec_len d.form.offset d.filled.bytes d.filled.parts
      × InOrder old.begun (drop d.part d.filled.parts) new.begun
  pub passed_gives_none : (set : FileSet) (item : TapeItem) (old new : State)
      → Gives set item Passed old new
      → before set new.file new.position ≡ before set old.file old.position
  -- a delivered block contains the expected part, in valid and invalid sets
  pub checked_block : (arrived : Option TapeItem) (old new : State) (c : Checked arrived old new)
      → (arrived ≡ Some (block c.bytes)) × (new.known ≡ Some c.form)
      × Holds c.form.format c.form.rec_len c.form.offset c.bytes c.parts
      × InOrder c.begun c.parts c.end
  pub checked_part : (arrived : Option TapeItem) (old new : State) (c : Checked arrived old new)
      → ((part_of old.position ≡ 0) ⊎ (part_of old.position < length c.parts))
      × (length c.parts ≤ length c.bytes) × (new.position ≡ next_block old.position)
      × (is_finished old.position ≡ false)
  pub shown_where_known : (form : FileForm) → Shows (Some form) None → ⊥
  pub none_shown_at_start : (shape : Shape) → Shows None (Some shape) → ⊥
  pub shape_of_form : (form : FileForm) (shape : Shape) → Shows (Some form) (Some shape)
      → (shape.format ≡ form.format) × (shape.rec_len ≡ form.rec_len)
      × (shape.offset ≡ form.offset) × (shape.block_len ≡ 0) × (shape.pad_full ≡ false)

-- ---- sinks

-- a sink, described by the parts that may remain after a crash, and whether any parts remain, now
-- and since each moment
pub record Comes : Type 0 where
  pub back : List Portion
  pub survives : Bool
  pub moment : ℕ
  pub back_since : ℕ → List Portion
  pub survived : ℕ → Bool

-- the effect of crashes on such a sink
abbrev pub coming : Comes → Crashes
coming s = record {
  returns = λ c ps. ps ≡ s.back;
  survives = s.survives ≡ true;
  moment = s.moment;
  returned = λ t c ps. ps ≡ s.back_since t;
  survived = λ t. s.survived t ≡ true;
}

-- a walk over a sink: the parts of the sink and those still to come, a weight, a count of refused
-- calls, and the contents that may remain after a crash
pub record Walk : Type 0 where
  pub kept : List Portion
  pub ahead : List Portion
  pub weight : ℕ
  pub refused : ℕ
  pub comes : Comes
  pub left : ℕ

-- one call of a walk over such a sink
abbrev pub Walks : Walk → Result (Option Part) SinkFault → Walk → Type 0
Walks old result new = HasGiven (λ s ps. s.kept ≡ ps) (λ s. s.weight) (λ s. s.refused)
    (λ s. coming s.comes) (λ s ps. s.ahead ≡ ps) (λ s. s.left)
    (λ s fault t. s.left ≡ 7) old result new

-- only the given parts remain
abbrev pub OneComesBack : List Portion → Returns
OneComesBack parts back there = there ≡ parts

-- parts, counts, walks and crashes
pub record CasesOfSinks : Type 0 where
  pub front : IsFront (five_bytes ∷ []) (five_bytes ∷ no_bytes ∷ [])
  pub no_front : IsFront (no_bytes ∷ []) (five_bytes ∷ no_bytes ∷ []) → ⊥
  pub longer : IsFront (five_bytes ∷ []) [] → ⊥
  -- an unchanged count did not increase, unless it is at its greatest value; no count decreases
  pub stands_still : Rose 3 3 → ⊥
  pub falls : Rose 3 2 → ⊥
  pub rises : Rose 3 4
  pub stays_greatest : Rose 18446744073709551615 18446744073709551615
  -- the part returned is the next part; if the call is refused, the same part is still to come; a
  -- part is returned if one is still to come
  pub given_is_next : (part : Part) (p : Portion) (parts : List Portion)
      → GivesPart (Ok (Some part)) (p ∷ []) (λ ps. ps ≡ parts) → (p ≡ view part) × (parts ≡ [])
  pub refused_is_ahead : (fault : SinkFault) (parts ahead : List Portion)
      → GivesPart (Err fault) parts (λ ps. ps ≡ ahead) → parts ≡ ahead
  pub none_at_the_end : (p : Portion) → GivesPart (Ok None) (p ∷ []) (λ ps. ps ≡ []) → ⊥
  pub calm : (given : Option Part) (old new : ℕ) → Counts (Ok given) old new → new ≡ old
  pub counted : (fault : SinkFault) → Counts (Err fault) 3 3 → ⊥
  pub lent : (part : Part) (old new : ℕ) → Lends (Ok (Some part)) old new
      → (length part.bytes.now ≤ longest_block) × (new < old)
  -- a walk changes neither the parts nor their weight, and adds nothing to the contents that may
  -- remain after a crash
  pub walk_keeps : (old new : Walk) (result : Result (Option Part) SinkFault)
      → Walks old result new → (new.kept ≡ old.kept) × (new.weight ≡ old.weight)
      × AddsNothing (coming old.comes) (coming new.comes)
  pub walk_gives : (old new : Walk) (result : Result (Option Part) SinkFault)
      → Walks old result new → GivesPart result old.ahead (λ ps. new.ahead ≡ ps)
      × Lends result old.left new.left × Counts result old.refused new.refused
  pub walk_refuses : (old new : Walk) (fault : SinkFault) → Walks old (Err fault) new
      → old.left ≡ 7
  -- the contents that may remain after a crash: those that could remain before or the given
  -- contents, or only the given contents
  pub this : (point other : Point) (parts more : List Portion) → IsThis point parts other more
      → (other ≡ point) × (more ≡ parts)
  pub only_this : (point other : Point) (parts more : List Portion)
      → OnlyThis point parts (λ c ps. (c ≡ other) × (ps ≡ more)) → (other ≡ point) × (more ≡ parts)
  pub this_alone : (point : Point) (parts : List Portion) (s : Comes)
      → ThisAlone point parts (coming s) → (s.back ≡ parts) × (s.back_since s.moment ≡ parts)
  -- for a call that adds nothing, and for a call that adds the given contents: now, and at each
  -- moment since
  pub adds_nothing : (old new : Comes) → AddsNothing (coming old) (coming new)
      → (new.back ≡ old.back) × (old.survives ≡ true → new.survives ≡ true)
  pub added_nothing : (old new : Comes) (t : ℕ) → t ≤ old.moment
      → AddsNothing (coming old) (coming new)
      → (new.back_since t ≡ old.back_since t) × (old.survived t ≡ true → new.survived t ≡ true)
  pub adds_only : (these : List Portion) (old new : Comes)
      → AddsOnly (OneComesBack these) (coming old) (coming new)
      → ((new.back ≡ old.back) ⊎ (new.back ≡ these))
      × (old.survives ≡ true → new.survives ≡ true) × (old.moment ≤ new.moment)
  pub added_only : (these : List Portion) (old new : Comes) (t : ℕ) → t ≤ old.moment
      → AddsOnly (OneComesBack these) (coming old) (coming new)
      → ((new.back_since t ≡ old.back_since t) ⊎ (new.back_since t ≡ these))
      × (old.survived t ≡ true → new.survived t ≡ true)
  -- if every crash loses everything, nothing remains
  pub lost_now : (back : Point) (there : List Portion) → lost.returns back there → ⊥
  pub lost_since : (t : ℕ) (back : Point) (there : List Portion)
      → lost.returned t back there → ⊥
  pub lost_for_good : (lost.survives → ⊥) × ((t : ℕ) → lost.survived t → ⊥)
