-- Examples for the definitions of disks and stages, which ensure that no definition says less than
-- it should, and that no requirement asks for too much. They are the contract of the call
-- `laws::cases`.
use Rattle.std.specs.Prelude.{◌≡◌, ◌⊎◌, ◌≤◌, ◌+◌, ◌-◌, ◌==◌, ℕ, List, [], ◌∷◌, ◌++◌, take, drop}
use Rattle.std.specs.Prelude.{length, min, replicate, codes, Some, None, Bool, true, false, not}
use Rattle.std.specs.Prelude.{Option, Result, Ok, Err, ◌<◌}
use Rattle.tape_blocks.specs.{declared.parts.Span.Span, declared.parts.Span.TheVariants.Whole}
use Rattle.tape_blocks.specs.{declared.parts.Part.Part, Block.Portion, Parts.view}
use Rattle.tape_blocks.specs.Packing.{longest_block}
use Rattle.tape_label.specs.declared.values.Format.TheVariants.{Spanned}
use Rattle.tape_set.specs.declared.position.Position.TheVariants.{Awaits}
use Rattle.tape_core.specs.{Point.Point, Stands.weight_of, Weight.Rose}
use Rattle.tape_core.specs.declared.sink.SinkFault.{SinkFault}
use Rattle.tape_stage.specs.declared.stage.StageFault.TheVariants.{NoPoint, BadFrame, Device}
use Rattle.tape_stage.specs.Staged.{Staged, Holding, HoldsNone, StandsLike, KeepsStaged}
use Rattle.tape_stage.specs.Staged.{KeepsFrames, Loses, Ready, StagedIn, slot_at, best}
use Rattle.tape_stage.specs.Stages.{Holds, IsAhead, IsStage, Returns, Survives, HasRefused}
use Rattle.tape_stage.specs.declared.stage.StageFault.TheVariants.{OutOfMemory, Failed, Full}
use Rattle.tape_stage.specs.Disk.{Torn, CutShort, Elapses, Follows, Allows, NoMore, Only}
use Rattle.tape_stage.specs.Memory.{memory_leaves, memory_left, memory_bytes, first_of}
use Rattle.tape_stage.specs.{Staged.gate_at, Staged.read_slot, Moments.Passes, Moments.Untouched}
use Rattle.tape_stage.specs.Stages.{EndsCall, OpensOver, Returned, Survived, crashes_of}
use Rattle.tape_stage.specs.declared.disk.content.Call.TheVariants.{Cut, Sync}
use Rattle.tape_stage.specs.{declared.disk.Disk.Ghosts, Parts.IsFront, Parts.AllShort, Parts.frames}
use Rattle.tape_stage.specs.{declared.disk.memory.MemoryDisk.MemoryDisk, declared.stage.Stage.Stage}
use Rattle.tape_stage.specs.declared.stage.part_reader.PartReader.{PartReader}
use Rattle.tape_stage.specs.{Body.body_text, Body.point_text, Reads.StageGave, Reads.HasRead}
use Rattle.tape_stage.specs.{Calls.IsImage, Calls.WasImage, Calls.worst_by, OnlyReading.OnlyReads}
use Rattle.tape_stage.specs.Faults.{SaysNone, IsNotDevice, OnBadFrame}
use Rattle.tape_stage.specs.{Found.IsBadPlace, Parts.AheadIn, Parts.IsFrameAt, Parts.NoFrameAt}
use Rattle.tape_stage.specs.Holding.{with_held, unwritten, LeftTorn, LeftSince}
use Rattle.tape_stage.specs.Disk as disk

-- the possible results of a crash after a write and after a cut
pub record CasesOfCrashes : Type 0 where
  -- after a write of four bytes at offset 1: no byte of the write,
  pub torn_nothing : Torn 1 4 (7 ∷ []) (7 ∷ [])
  -- all bytes of the write,
  pub torn_all : Torn 1 4 (7 ∷ []) (7 ∷ 1 ∷ 2 ∷ 3 ∷ 4 ∷ [])
  -- or two bytes, even other bytes than were written
  pub torn_short : Torn 1 4 (7 ∷ []) (7 ∷ 1 ∷ 255 ∷ [])
  -- a write over the first two of three bytes may leave any bytes there
  pub torn_inside : Torn 0 2 (7 ∷ 8 ∷ 9 ∷ []) (0 ∷ 255 ∷ 9 ∷ [])
  -- no byte before or after the range changes, and the file does not get shorter
  pub front_stays : Torn 1 2 (7 ∷ 8 ∷ 9 ∷ []) (6 ∷ 1 ∷ 2 ∷ []) → ⊥
  pub rest_stays : Torn 0 1 (7 ∷ 8 ∷ []) (7 ∷ 9 ∷ []) → ⊥
  pub none_is_lost : Torn 0 1 (7 ∷ []) [] → ⊥
  -- after a cut of four bytes to one: all of the bytes, some, only the first, or other bytes after
  -- it
  pub cut_nothing : CutShort 1 (1 ∷ 2 ∷ 3 ∷ 4 ∷ []) (1 ∷ 2 ∷ 3 ∷ 4 ∷ [])
  pub cut_some : CutShort 1 (1 ∷ 2 ∷ 3 ∷ 4 ∷ []) (1 ∷ 255 ∷ [])
  pub cut_all : CutShort 1 (1 ∷ 2 ∷ 3 ∷ 4 ∷ []) (1 ∷ [])
  -- the first byte does not change, and there are no more bytes than before
  pub cut_front_stays : CutShort 1 (1 ∷ 2 ∷ []) (9 ∷ 2 ∷ []) → ⊥
  pub cut_no_more : CutShort 1 (1 ∷ 2 ∷ []) [] → ⊥
  pub cut_no_longer : CutShort 1 (1 ∷ []) (1 ∷ 2 ∷ []) → ⊥
  -- the bytes written are read, and no other byte changes
  pub written : (new : List ℕ) → disk.Holds (1 ∷ 2 ∷ 3 ∷ []) 1 (9 ∷ []) new → new ≡ 1 ∷ 9 ∷ 3 ∷ []
  -- `NoMore` excludes new results of a crash, and `Only` excludes other files
  pub more_is_more : NoMore (λ c. c ≡ []) (λ c. Unit {0}) → ⊥
  pub other_is_other : Only [] (λ c. Unit {0}) → ⊥
  -- contents that are possible after a step come from the step on contents possible before it
  pub stepped : Follows (λ d c. (d ≡ []) × (c ≡ 7 ∷ [])) (λ c. c ≡ []) (λ c. c ≡ 7 ∷ [])
  pub not_stepped : Follows (λ d c. ⊥) (λ c. c ≡ []) (λ c. c ≡ []) → ⊥
  -- contents that a step allows are possible after the step
  pub allowed : Allows (λ d c. (d ≡ []) × (c ≡ 7 ∷ [])) (λ c. c ≡ []) (λ c. c ≡ 7 ∷ [])
  pub not_allowed : Allows (λ d c. c ≡ 7 ∷ []) (λ c. c ≡ []) (λ c. c ≡ []) → ⊥
  pub allowed_of_nothing : Allows (λ d c. c ≡ 7 ∷ []) (λ c. ⊥) (λ c. ⊥)
  -- buffered bytes are read at their offset, even past the end,
  pub held_over : with_held 1 (8 ∷ 9 ∷ []) (1 ∷ 2 ∷ 3 ∷ 4 ∷ []) ≡ 1 ∷ 8 ∷ 9 ∷ 4 ∷ []
  pub held_behind : with_held 2 (7 ∷ []) (1 ∷ 2 ∷ []) ≡ 1 ∷ 2 ∷ 7 ∷ []
  pub to_be_written : unwritten false (7 ∷ []) ≡ 7 ∷ []
  pub on_the_disk : unwritten true (7 ∷ []) ≡ []
  -- a crash may leave none of them, or other bytes instead, but changes no byte before them,
  pub held_lost : LeftTorn (λ c. c ≡ 1 ∷ []) 1 (7 ∷ []) (1 ∷ [])
  pub held_torn : LeftTorn (λ c. c ≡ 1 ∷ []) 1 (7 ∷ []) (1 ∷ 255 ∷ [])
  pub held_there : LeftTorn (λ c. c ≡ 1 ∷ []) 1 (7 ∷ []) (2 ∷ []) → ⊥
  -- and a crash leaves nothing if the disk itself leaves nothing
  pub held_of_nothing : LeftTorn (λ c. ⊥) 0 (7 ∷ []) [] → ⊥
  -- a disk in memory that was cut from two bytes to one: a crash may leave both until a sync, and
  -- then only the one
  pub cut_in_memory : IsImage (1 ∷ 2 ∷ []) (Cut 1 ∷ []) (1 ∷ 2 ∷ [])
  pub synced_in_memory : (c : List ℕ) → IsImage (1 ∷ 2 ∷ []) (Cut 1 ∷ Sync ∷ []) c → c ≡ 1 ∷ []
  pub before_it_was_synced : WasImage (1 ∷ 2 ∷ []) (Cut 1 ∷ Sync ∷ []) 1 (1 ∷ 2 ∷ [])
  pub since_it_was_synced : WasImage (1 ∷ 2 ∷ []) (Cut 1 ∷ Sync ∷ []) 2 (1 ∷ 2 ∷ []) → ⊥
  -- the worst contents have 255 for a byte that is not durable
  pub worst_in_memory : worst_by (1 ∷ 2 ∷ []) (1 ∷ 2 ∷ []) (Cut 1 ∷ []) ≡ 1 ∷ 255 ∷ []
  -- without a call a crash leaves the original bytes, now and since then; reads return them as long
  -- as nothing changes
  pub left_in_memory : (d : MemoryDisk) (c : List ℕ) → d.content.calls.items ≡ []
      → memory_leaves d c → c ≡ first_of d.content
  pub left_since_then : (d : MemoryDisk) (c : List ℕ) → d.content.calls.items ≡ []
      → memory_left d 0 c → c ≡ first_of d.content
  pub began_with : (d : MemoryDisk) → d.content.changed ≡ false
      → first_of d.content ≡ memory_bytes d

-- a disk reduced to its moment, with the contents that a crash may leave then, or might have left
-- since an earlier moment
abbrev pub disk_of : (ℕ → List ℕ → Type 0) → (ℕ → ℕ → List ℕ → Type 0) → Ghosts ℕ
disk_of may_leave left_since = record {
  is_honest = λ d. Unit {0};
  length_of = λ d. 0;
  seen = λ d. [];
  may_leave = may_leave;
  moment = λ d. d;
  left_since = left_since;
  faults = λ d. 0;
  calls_left = λ d. None;
}

-- contents that a crash may have left at some moment
pub record CasesOfMoments : Type 0 where
  -- a call during which a crash might have left the byte 7 is not a call after which no bytes are
  -- left,
  pub not_in_between : Passes (disk_of (λ d c. ⊥) (λ d t c. (d ≡ 1) × (c ≡ 7 ∷ []))) 0 1
      (λ c. c ≡ []) → ⊥
  -- nor is a call after which a crash may leave that byte,
  pub not_behind : Passes (disk_of (λ d c. (d ≡ 1) × (c ≡ 7 ∷ [])) (λ d t c. ⊥)) 0 1
      (λ c. c ≡ []) → ⊥
  -- nor is a call that goes back in time
  pub not_backwards : Passes (disk_of (λ d c. ⊥) (λ d t c. ⊥)) 1 0 (λ c. ⊥) → ⊥
  -- contents that might have been left before the call are allowed
  pub left_before : Passes (disk_of (λ d c. ⊥) (λ d t c. c ≡ 7 ∷ [])) 0 1 (λ c. ⊥)
  -- the same for buffered bytes: earlier the contents left by the disk itself, now those with the
  -- buffered bytes torn in
  pub held_before : LeftSince (λ t c. c ≡ 5 ∷ []) (λ c. ⊥) 0 (7 ∷ []) 0 (5 ∷ [])
  pub held_now : LeftSince (λ t c. ⊥) (λ c. c ≡ []) 0 (7 ∷ []) 0 (7 ∷ [])
  pub held_never : LeftSince (λ t c. ⊥) (λ c. ⊥) 0 (7 ∷ []) 0 [] → ⊥
  -- as time passes, no contents that might have been left are forgotten,
  pub not_forgotten : Elapses 0 1 (λ t c. Unit {0}) (λ t c. ⊥) (λ c. ⊥) → ⊥
  -- no other contents were left,
  pub not_invented : Elapses 0 1 (λ t c. ⊥) (λ t c. Unit {0}) (λ c. ⊥) → ⊥
  -- and no moment occurs again
  pub not_again : Elapses 1 0 (λ t c. ⊥) (λ t c. ⊥) (λ c. ⊥) → ⊥

-- ---- a checkpoint

-- a checkpoint inside a record that continues in block 7 of section 2; a part of 80 bytes of the
-- record is staged
abbrev pub worked_point : Point
worked_point = record {
  set_id = codes "ABC001";
  file = 3;
  position = Awaits 2 7 1;
  begun = true;
  known = Some record {
    file_id = codes "PAYROLL          ";
    format = Spanned;
    rec_len = 0;
    offset = 12;
  };
  staged = 85;
}

-- the text of that checkpoint
abbrev pub worked_text : List ℕ
worked_text =
    codes "TPCK2ABC00100030002000000000700001R11S0000012PAYROLL          000000000000085   "

-- the meaning of bytes
pub record CasesOfFiles : Type 0 where
  -- an empty file represents nothing
  pub nothing_staged : HoldsNone []
  -- a slot is valid if its gate, at offset 0 or 128, is O
  pub first_gate : gate_at false (79 ∷ []) ≡ 79
  pub second_gate : gate_at true (replicate 128 32 ++ 79 ∷ []) ≡ 79
  pub closed_gate : (body : List ℕ) → read_slot 67 body ≡ None
  -- the slot with the greater generation is current, or the first slot if both are equal
  pub greater_counts : (a b : Point) → best (Some (3, a)) (Some (4, b)) ≡ Some (4, b)
  pub first_at_a_tie : (a b : Point) → best (Some (3, a)) (Some (3, b)) ≡ Some (3, a)
  -- so if both are equal, the first slot is not replaced by the second, but the second by the first
  pub first_wins : (a : Point) → Loses false 3 (Some (3, a))
  pub second_loses : (a : Point) → Loses true 3 (Some (3, a)) → ⊥
  -- the text of a checkpoint, and the bytes written after a gate
  pub text : point_text worked_point ≡ worked_text
  pub body : body_text 9 worked_point ≡ codes "000000000000009" ++ (worked_text ++ replicate 32 32)
  -- the current slot determines the staged data, and all its frames are intact,
  pub staged_is_there : (bytes : List ℕ) (g : ℕ) (point : Point) (parts : List Portion)
      → Staged bytes g point parts
      → (best (slot_at false bytes) (slot_at true bytes) ≡ Some (g, point))
      × (256 + point.staged ≤ length bytes) × (take point.staged (drop 256 bytes) ≡ frames parts)
  -- and no frames are staged if the bytes represent nothing
  pub none_holds : (bytes : List ℕ) (g : ℕ) (point : Point) (parts : List Portion)
      → HoldsNone bytes → Staged bytes g point parts → ⊥
  -- equal bytes represent the same generation, checkpoint and parts
  pub stands_like : (read c : List ℕ) (g : ℕ) (point : Point) (parts : List Portion)
      → StandsLike read c → Staged read g point parts → Staged c g point parts
  -- staged data that are kept do not change, but the bytes after them may be removed
  pub staged_stays : (old new : List ℕ) (g : ℕ) (point : Point) (parts : List Portion)
      → KeepsStaged old new → Staged old g point parts
      → (take (256 + point.staged) new ≡ take (256 + point.staged) old) × (length new ≤ length old)
  -- frames that are kept are all intact
  pub frames_stay : (old new : List ℕ) → KeepsFrames old new
      → (drop 256 new ≡ drop 256 old) × (length old ≤ length new)
  -- if a frame is bad, the current slot counts parts, the frames before the bad one are intact, and
  -- it is not
  pub bad_place : (bytes : List ℕ) (place : ℕ) → IsBadPlace bytes place → (g : ℕ)
      × (point : Point) × (parts : List Portion) × (256 ≤ place) × (place ≤ length bytes)
      × (place < 256 + point.staged) × (take (place - 256) (drop 256 bytes) ≡ frames parts)
      × NoFrameAt place (min (256 + point.staged) (length bytes)) bytes
      × (best (slot_at false bytes) (slot_at true bytes) ≡ Some (g, point))
  -- a frame with one byte, A, has six bytes; five bytes contain no frame, and neither do six with
  -- another digit
  pub a_frame : IsFrameAt 0 6 (48 ∷ 0 ∷ 0 ∷ 0 ∷ 1 ∷ 65 ∷ []) Whole (65 ∷ [])
  pub no_room : NoFrameAt 0 5 (48 ∷ 0 ∷ 0 ∷ 0 ∷ 1 ∷ 65 ∷ [])
  pub no_digit : NoFrameAt 0 6 (52 ∷ 0 ∷ 0 ∷ 0 ∷ 1 ∷ 65 ∷ [])
  pub no_frame : (bytes : List ℕ) (place end : ℕ) (span : Span) (content : List ℕ)
      → NoFrameAt place end bytes → IsFrameAt place end bytes span content → ⊥
  -- the same frame belongs to one part of weight 6, which is the first of two
  pub frame_of : frames (record { span = Whole; bytes = 65 ∷ [] } ∷ [])
      ≡ 48 ∷ 0 ∷ 0 ∷ 0 ∷ 1 ∷ 65 ∷ []
  -- each part in a frame is short enough
  pub all_short : (a b : Portion) → AllShort (a ∷ b ∷ []) → (length a.bytes ≤ longest_block)
      × (length b.bytes ≤ longest_block)
  pub front_of_two : (a b : Portion) → length a.bytes ≡ 1 → IsFront 6 (a ∷ []) (a ∷ b ∷ [])

-- the effect of calls on any disk, and on a stage on it
pub record CasesOfStages {D : Type 0} (g : Ghosts D) : Type 0 where
  -- if nothing was written, reads return the same bytes, and a crash leaves no new contents
  pub untouched_stays : (old new : D) → Untouched g old new
      → (g.seen new ≡ g.seen old) × ((c : List ℕ) → g.may_leave new c → g.may_leave old c)
      × ((c : List ℕ) → g.left_since new (g.moment old) c
      → g.left_since old (g.moment old) c ⊎ g.may_leave old c)
  -- the same holds after calls that only read an honest disk,
  pub only_read_stays : (old new : D) → OnlyReads g old new → g.is_honest old
      → (g.seen new ≡ g.seen old) × ((c : List ℕ) → g.may_leave new c → g.may_leave old c)
  -- and any disk keeps its length, and does not become honest
  pub read_is_as_long : (old new : D) → OnlyReads g old new
      → (g.length_of new ≡ g.length_of old) × (g.is_honest new → g.is_honest old)
  -- a disk is as honest as another if each is honest exactly if the other is
  pub as_honest : (old new : D) → disk.SameFact (g.is_honest old) (g.is_honest new)
      → (g.is_honest old → g.is_honest new) × (g.is_honest new → g.is_honest old)
  -- all parts of a stage have frames, the first of them are acknowledged, and the stage has not
  -- failed
  pub is_stage : (stage : Stage D g) (acked parts : List Portion) → IsStage stage acked parts
      → (stage.failed ≡ false) × (stage.acknowledged.staged ≤ stage.weight) × Holding stage.weight
      parts (g.seen stage.disk) × Ready stage.in_second stage.generation stage.acknowledged acked
      stage.other_open (g.seen stage.disk) (g.may_leave stage.disk)
  -- a stage contains the parts that it would read, on a disk that is honest unless a save failed
  pub holds : (stage : Stage D g) (parts : List Portion) → Holds stage parts
      → (stage.pending ≡ None → g.is_honest stage.disk)
      × Holding stage.weight parts (g.seen stage.disk) × (stage.weight ≡ weight_of parts)
      × (stage.failed ≡ false → (acked : List Portion) × IsStage stage acked parts)
  pub ahead : (stage : Stage D g) (parts : List Portion) → IsAhead stage parts
      → (stage.pending ≡ None → g.is_honest stage.disk)
      × AheadIn (256 + stage.walked) (256 + stage.weight) (g.seen stage.disk) parts
  -- a stage that is ready has its acknowledged data in all contents that a crash may leave
  pub ready : (second : Bool) (n : ℕ) (point : Point) (parts : List Portion) (other_open : Bool)
      (disk : D) → Ready second n point parts other_open (g.seen disk) (g.may_leave disk)
      → StagedIn second n point parts (g.seen disk)
      × (other_open ≡ (gate_at (not second) (g.seen disk) == 79)) × ((c : List ℕ)
      → g.may_leave disk c → take (256 + point.staged) c ≡ take (256 + point.staged) (g.seen disk))
  -- after a read, a reader of parts has the same stage, which returned its next part
  pub has_read : (old new : PartReader D g) (result : Result (Option Part) SinkFault)
      → HasRead old result new → (new.stage.ghost_name ≡ old.stage.ghost_name)
      × StageGave old.stage.now result new.stage.now
  pub gave_keeps : (old new : Stage D g) (result : Result (Option Part) SinkFault)
      (parts : List Portion) → StageGave old result new → Holds old parts
      → Holds new parts × (new.weight ≡ old.weight)
  pub part_given : (old new : Stage D g) (part : Part) (p : Portion) (parts : List Portion)
      → StageGave old (Ok (Some part)) new → IsAhead old (p ∷ parts)
      → (view part ≡ p) × IsAhead new parts
  -- contents that a crash may leave now and that represent a checkpoint and parts may return,
  pub what_is_left_returns : (stage : Stage D g) (bytes : List ℕ) (n : ℕ) (back : Point)
      (there : List Portion) → g.may_leave stage.disk bytes → Staged bytes n back there
      → Returns stage back there
  -- no other contents may return,
  pub what_returns_is_left : (stage : Stage D g) (back : Point) (there : List Portion)
      → Returns stage back there → (bytes : List ℕ) × g.may_leave stage.disk bytes
      × ((n : ℕ) × Staged bytes n back there)
  -- and if a stage survives, all contents that a crash may leave represent something
  pub something_returns : (stage : Stage D g) (bytes : List ℕ) → Survives stage
      → g.may_leave stage.disk bytes
      → (back : Point) × (there : List Portion) × Returns stage back there
  -- the same for contents that a crash left since a moment, or may leave now
  pub what_was_left_returned : (stage : Stage D g) (t : ℕ) (bytes : List ℕ) (n : ℕ) (back : Point)
      (there : List Portion) → g.left_since stage.disk t bytes ⊎ g.may_leave stage.disk bytes
      → Staged bytes n back there → Returned stage t back there
  pub what_returned_was_left : (stage : Stage D g) (t : ℕ) (back : Point) (there : List Portion)
      → Returned stage t back there → (bytes : List ℕ) × (g.left_since stage.disk t bytes
      ⊎ g.may_leave stage.disk bytes) × ((n : ℕ) × Staged bytes n back there)
  pub something_returned : (stage : Stage D g) (t : ℕ) (bytes : List ℕ) → Survived stage t
      → g.left_since stage.disk t bytes ⊎ g.may_leave stage.disk bytes
      → (back : Point) × (there : List Portion) × Returned stage t back there
  pub crashes : (stage : Stage D g) (t : ℕ) (back : Point) (there : List Portion)
      → ((crashes_of stage).returns back there → Returns stage back there)
      × ((crashes_of stage).returned t back there → Returned stage t back there)
      × ((crashes_of stage).survives → Survives stage)
      × ((crashes_of stage).survived t → Survived stage t)
      × ((crashes_of stage).moment ≡ g.moment stage.disk)
  -- a stage that failed does not change, and neither does a full stage
  pub failed_stays : (old new : Stage D g) → HasRefused old new Failed
      → (new ≡ old) × (old.failed ≡ true)
  pub full_stays : (old new : Stage D g) → HasRefused old new Full → new ≡ old
  -- a stage fails when its disk fails, if it had not failed before, and keeps its weight
  pub device_ends : (old new : Stage D g) → HasRefused old new Device
      → (old.failed ≡ false) × (new.failed ≡ true) × (new.weight ≡ old.weight)
  -- a call succeeds only on a stage that had not failed, and its disk remains as honest as before,
  pub end_ok : (old new : Stage D g) → EndsCall {A = Unit {0}} old (Ok tt) new
      → (old.failed ≡ false) × (new.refused ≡ old.refused)
      × (g.is_honest old.disk → g.is_honest new.disk)
  -- and is refused with Device only if the disk failed, which did not become honest
  pub end_refused : (old new : Stage D g) → EndsCall {A = Unit {0}} old (Err Device) new
      → HasRefused old new Device × Rose (g.faults old.disk) (g.faults new.disk)
      × (g.is_honest new.disk → g.is_honest old.disk)
  -- a crash while a stage is opened left contents that were possible before, or contents that
  -- represent the same
  pub opened_over : (old new : D) (c : List ℕ) → OpensOver g old new
      → g.left_since new (g.moment old) c
      → g.left_since old (g.moment old) c ⊎ (g.may_leave old c ⊎ StandsLike (g.seen old) c)
  -- no other fault is possible
  pub no_other : (old new : Stage D g) → (HasRefused old new NoPoint → ⊥)
      × (HasRefused old new OutOfMemory → ⊥) × (HasRefused old new (BadFrame 300) → ⊥)

-- the meaning of faults
pub record CasesOfFaults : Type 0 where
  pub none_said : SaysNone NoPoint × SaysNone (BadFrame 300)
  pub not_said : (SaysNone Device → ⊥) × (SaysNone OutOfMemory → ⊥)
  pub is_no_device : IsNotDevice OutOfMemory × IsNotDevice NoPoint × IsNotDevice (BadFrame 300)
  pub is_device : IsNotDevice Device → ⊥
  pub of_its_place : (place n : ℕ) → OnBadFrame (BadFrame place) (λ p. p ≡ n) → place ≡ n
