-- Examples for the definitions of a reel's answer, and of where the table leads over any tapes.
-- They are the contract of the call `laws::cases`.
use Rattle.std.specs.Prelude.{◌≡◌, ◌<◌, ◌≤◌, ◌+◌, ℕ, List, [], ◌∷◌, ◌++◌, length, take, drop, codes}
use Rattle.std.specs.Prelude.{Option, Some, None, false}
use Rattle.std.specs.List.{AllByRecursion}
use Rattle.tape_image.specs.{Tape.TapeItem, Tape.block, Tape.bad, Tape.mark, Reader.IfKnown}
use Rattle.tape_image.specs.Begins.{Stop, Begins, Walks}
use Rattle.tape_image.specs.Step.{TakesEnd, TakesFault}
use Rattle.tape_label.specs.declared.values.Format.TheVariants.{Spanned}
use Rattle.tape_blocks.specs.{Block.Portion, Judged.begun_behind}
use Rattle.tape_set.specs.{Lawful.FileForm, declared.position.Position.Position}
use Rattle.tape_set.specs.declared.position.Position.TheVariants.{Awaits, Finished}
use Rattle.tape_set.specs.Position.{start, awaiting, part_of, at_part}
use Rattle.tape_core.specs.declared.event.Answer.TheVariants.{Passed, Deliver, Complete}
use Rattle.tape_core.specs.{declared.event.Phase.TheVariants.Over, Follows.IsFinal, Place.rest_of}
use Rattle.tape_core.specs.{declared.sink.SinkFault.SinkFault, Point.Point, State.State}
use Rattle.tape_core.specs.{Stands.weight_of, Weight.IsFront}
use Rattle.tape_core.specs.Table.{mount_of, reader_of, saved}
use Rattle.tape_core.specs.Wide.{step_by}
use Rattle.tape_run.specs.ByTable.{parts_from, parts_by, parts_at, delivered_parts, IsLed}
use Rattle.tape_run.specs.Lead.{Noted, Lead, at_start, lead, AreItems, AreNoted, StandsThere}
use Rattle.tape_run.specs.Reels.{Reads, ReadsReel, ReadsToBlock, EndedByItem, EndedByMedium}
use Rattle.tape_run.specs.Reels.{EndedByFault, Leaves, StopsAt, GoesOn, answers_to, behind_items}
use Rattle.tape_run.specs.{ByTable.StopsInside, ByTable.IsCutAt, declared.fault.RunFault.RunFault}
use Rattle.tape_run.specs.{Lead.StopsBy, Reels.delivered_by, declared.script.Step.Step, Seen.Seen}
use Rattle.tape_run.specs.{declared.reel_reader.ReelAnswer.ReelAnswer, Steps.Reeled, Steps.CutShort}
use Rattle.tape_run.specs.declared.fault.RunFault.TheVariants.{Sink, OutOfMemory}
use Rattle.tape_run.specs.declared.script.Step.TheVariants.{Reel, Save, Restart}
use Rattle.tape_run.specs.Headline.{HasRun, IsRead, HasStopped, reels_in}
use Rattle.tape_run.specs.WorkedHistory.{block_0, block_1, vol1, hdr1, hdr2, first}

-- ---- what a reel answers

-- answers, and the bytes left unread
pub record CasesOfAnswers : Type 0 where
  -- of a complete file nothing is read
  pub complete_reads_nothing : (core new : State) (bytes left : List ℕ) (answer : ReelAnswer)
      → Reads false Finished core (mount_of core) bytes left answer new → (left ≡ bytes)
      × (answer.answer ≡ Complete) × (answer.fault ≡ None) × (answer.blocks ≡ 0) × (new ≡ core)
  pub else_a_reel : (core new : State) (bytes left : List ℕ) (answer : ReelAnswer)
      → Reads false (Awaits 1 0 0) core (mount_of core) bytes left answer new
      → ReadsReel false (mount_of core) bytes left answer new
  pub goes_on : GoesOn Passed × GoesOn Deliver × (GoesOn Complete → ⊥)
  pub blocks : delivered_by (Passed ∷ Deliver ∷ Deliver ∷ Complete ∷ []) ≡ 2
  pub on : (core new : State) (bytes left : List ℕ) (answer : ReelAnswer)
      (r : ReadsReel false core bytes left answer new) → AllByRecursion GoesOn
      (answers_to false core r.items)
      × (answer.blocks ≡ delivered_by (answers_to false core r.items))
  -- an item that ended the reading got a final answer, is the last one taken, and is not a fault
  pub by_item : (core new : State) (items : List TapeItem) (bytes left : List ℕ)
      (answer : ReelAnswer) (e : EndedByItem false core items bytes left answer new)
      → ((answer.answer, new) ≡ step_by false (behind_items false core items) (Some e.item))
      × IsFinal answer.answer × (answer.fault ≡ None)
      × Walks 0 bytes (items ++ e.item ∷ []) e.at left
  pub by_medium : (core new : State) (items : List TapeItem) (bytes left : List ℕ)
      (answer : ReelAnswer) (e : EndedByMedium false core items bytes left answer new)
      → ((answer.answer, new) ≡ step_by false (behind_items false core items) None) ×
      (answer.fault ≡ None)
      × TakesEnd 0 items e.ending e.at bytes left
  pub by_fault : (core new : State) (items : List TapeItem) (bytes left : List ℕ)
      (answer : ReelAnswer) (e : EndedByFault false core items bytes left answer new)
      → ((answer.answer, new) ≡ step_by false (behind_items false core items) None)
      × (answer.fault ≡ Some e.fault) × TakesFault 0 items e.fault bytes left
  -- refused memory left everything unread, a refusing sink what follows the refused block
  pub memory_left_all : (core new : State) (old left : Option (List ℕ))
      → Leaves false OutOfMemory core old left new → left ≡ old
  pub sink_left : (core new : State) (cause : SinkFault) (old left : Option (List ℕ))
      → Leaves false (Sink cause) core old left new → IfKnown old left (ReadsToBlock false new core)
  -- the core's position is the refused part: the expected one or a later one
  pub stops_at_part : (core after new : State) → StopsAt (saved core 0) (saved after 0) new
      → (part : ℕ) × (part_of core.position ≤ part) × (new.position ≡ at_part part core.position)
  pub to_block : (core new : State) (bytes left : List ℕ)
      (r : ReadsToBlock false new core bytes left)
      → AllByRecursion GoesOn (answers_to false core r.items)
      × ((step_by false (behind_items false core r.items) (Some (block r.content))).0 ≡ Deliver)
      × StopsAt (saved (behind_items false core r.items) 0)
      (saved (step_by false (behind_items false core r.items) (Some (block r.content))).1 0) new
      × Walks 0 bytes (r.items ++ block r.content ∷ []) r.at left

-- ---- the parts that the table delivers for any items

abbrev pub spanned : FileForm
spanned = record {
  file_id = codes "PAYROLL          ";
  format = Spanned;
  rec_len = 0;
  offset = 0;
}

-- the labels of a first section, and its first two blocks
abbrev pub first_items : List TapeItem
first_items = block vol1 ∷ block hdr1 ∷ block hdr2 ∷ mark ∷ block block_0 ∷ bad ∷ []

abbrev pub at_front : State
at_front = reader_of (codes "ABC001") 1

-- parts that the table delivers
pub record CasesOfTable : Type 0 where
  pub passed_gives_none : (item : TapeItem) (p : Position) (known : Option FileForm)
      → parts_by Passed item p known ≡ []
  pub mark_gives_none : (p : Position) (known : Option FileForm)
      → parts_by Deliver mark p known ≡ []
  pub bad_gives_none : (p : Position) (known : Option FileForm) → parts_by Deliver bad p known ≡ []
  pub unknown_gives_none : (p : Position) (content : List ℕ) → parts_from p None content ≡ []
  pub from_its_front : parts_by Deliver (block block_0) start (Some spanned) ≡ first ∷ []
  pub from_its_part : parts_by Deliver (block block_1) (Awaits 1 1 1) (Some spanned) ≡ []
  -- the first block of a section is delivered, and a bad one after it ends the reading there
  pub one_block : delivered_parts false (mount_of at_front) first_items ≡ first ∷ []
  pub behind_one : (behind_items false (mount_of at_front) first_items).position ≡ awaiting 1 1
  pub led : (xs : List TapeItem) (core new : State) (held now : List Portion)
      → IsLed false xs core new held now
      → (new ≡ rest_of (behind_items false core xs)) × (now ≡ held ++ delivered_parts false core xs)
  pub stops : (core new : State) (item : TapeItem) (held now : List Portion)
      (s : StopsInside false core new item held now) →
      ((step_by false core (Some item)).0 ≡ Deliver)
      × (now ≡ held ++ take s.more (parts_at false core item))
      × (new.position ≡ at_part (part_of core.position + s.more) core.position)
      × (s.more < length (parts_at false core item))
  -- a core that stopped at the expected part is unchanged; the state of one that stopped after it
  -- is determined by the block
  pub stops_at_first : (core new : State) (item : TapeItem) (held now : List Portion)
      (s : StopsInside false core new item held now) → s.more ≡ 0 → new
      ≡ record core { phase = Over }
  pub stops_behind : (core new : State) (item : TapeItem) (held now : List Portion)
      (s : StopsInside false core new item held now) → 0 < s.more
      → (new.known ≡ (step_by false core (Some item)).1.known)
      × (begun_behind core.begun (take s.more (parts_at false core item)) ≡ false → new.begun
      ≡ false)
  pub cut_at : (xs : List TapeItem) (core new : State) (held now : List Portion)
      (c : IsCutAt false xs core new held now) → (xs ≡ c.before ++ c.item ∷ c.behind)
      × StopsInside false (behind_items false core c.before) new c.item
      (held ++ delivered_parts false core c.before) now

-- where the table leads a run
pub record CasesOfLeads : Type 0 where
  pub starts : at_start false (codes "ABC001") 1
      ≡ record { place = at_front; parts = []; notes = []; wide = false }
  -- a save records the position, and a rollback returns to it and drops the later checkpoints
  pub saved_and_back : lead (at_start false (codes "ABC001") 1) (Save ∷ Save ∷ Restart 0 ∷ []) []
      ≡ record {
        place = at_front;
        parts = [];
        notes = record { place = at_front; parts = [] } ∷ [];
        wide = false;
      }
  pub parts_back : (t : Lead) → t.notes ≡ [] → (lead t (Save ∷ Restart 0 ∷ []) []).parts ≡ t.parts
  pub over_a_reel : (t : Lead) (xs : List TapeItem) → lead t (Reel ∷ []) (xs ∷ [])
      ≡ record {
        place = rest_of (behind_items t.wide (mount_of t.place) xs);
        parts = t.parts ++ delivered_parts t.wide (mount_of t.place) xs;
        notes = t.notes;
        wide = t.wide;
      }
  pub items : (bytes : List ℕ) (xs : List TapeItem) → AreItems (bytes ∷ []) (xs ∷ [])
      → (end : ℕ) × (stop : Stop) × Begins 0 bytes xs end stop
  pub items_of_none : AreItems ([] ∷ []) ([] ∷ [])
  pub items_of_each : (bytes : List ℕ) → AreItems (bytes ∷ []) [] → ⊥
  pub items_of_no_more : (xs : List TapeItem) → AreItems [] (xs ∷ []) → ⊥
  pub there : (t : Lead) (s : Seen) → StandsThere t s
      → (s.place ≡ t.place) × (s.parts ≡ t.parts) × AreNoted [] t.notes s.notes s.parts
      × (s.wide ≡ t.wide)
  pub noted : (n : Noted) (c : Point) (parts : List Portion) → AreNoted [] (n ∷ []) (c ∷ []) parts
      → (c ≡ saved n.place (weight_of n.parts)) × IsFront n.parts parts
  pub each_noted : (n : Noted) (c : Point) (parts : List Portion)
      → (AreNoted [] (n ∷ []) [] parts → ⊥) × (AreNoted [] [] (c ∷ []) parts → ⊥)
  -- after a failed step the run is where it was before, or inside the reel
  pub save_stops : (t : Lead) (readers : List (List ℕ)) (fault : RunFault) (new : Seen)
      → StopsBy t Save readers fault new → StandsThere t new
  pub reel_stops : (t : Lead) (bytes : List ℕ) (cause : SinkFault) (new : Seen)
      (xs : List TapeItem) (end : ℕ) (stop : Stop)
      → StopsBy t Reel (bytes ∷ []) (Sink cause) new → Begins 0 bytes xs end stop
      → IsCutAt t.wide xs (mount_of t.place) new.place t.parts new.parts
      × AreNoted [] t.notes new.notes new.parts
  -- what calls promise about this
  pub run_led : (old new : Seen) (steps : List Step) (bytes : List (List ℕ))
      (left : List (Option (List ℕ))) (t : Lead)
      (tapes : List (List TapeItem)) (r : HasRun old steps bytes left new) → AreItems r.given tapes
      → StandsThere t old → StandsThere (lead t steps tapes) new
  pub read_led : (id : List ℕ) (file : ℕ) (steps : List Step) (bytes : List (List ℕ))
      (left : List (Option (List ℕ))) (s : Seen) (tapes : List (List TapeItem))
      (r : IsRead id file steps bytes left s) → AreItems r.given tapes
      → StandsThere (lead (at_start s.wide id file) steps tapes) s
  pub stopped_led : (old new : Seen) (steps : List Step) (bytes : List (List ℕ))
      (left : List (Option (List ℕ))) (n : ℕ) (fault : RunFault) (t : Lead)
      (tapes : List (List TapeItem))
      (s : HasStopped old steps bytes left n fault new) → AreItems s.given tapes → StandsThere t old
      → StopsBy (lead t (take n steps) tapes) s.step (drop (reels_in (take n steps)) bytes) fault
      new
  pub reel_led : (bytes : List ℕ) (left : Option (List ℕ)) (old new : Seen) (xs : List TapeItem)
      (end : ℕ) (stop : Stop) (r : Reeled bytes left false old new) → Begins 0 r.given xs end stop
      → IsLed old.wide xs (mount_of old.place) new.place old.parts new.parts
  pub cut_led : (bytes : List ℕ) (old new : Seen) (xs : List TapeItem) (end : ℕ) (stop : Stop)
      → CutShort (mount_of old.place) bytes old new → Begins 0 bytes xs end stop
      → IsCutAt old.wide xs (mount_of old.place) new.place old.parts new.parts
