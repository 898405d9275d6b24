-- Test cases for the definitions of tapes, of the files passed to a writer, and of its refusals.
-- They are part of the contract of the function `laws::cases`.
use Rattle.std.specs.Prelude.{None, ℕ, Result, false, length, ◌≡◌, Err, Ok, [], map, ◌+◌, ◌≢◌, ◌≤◌}
use Rattle.std.specs.Prelude.{Option, ◌∷◌, ◌⊎◌, List, Some, codes, take, true, ◌++◌}
use Rattle.std.specs.List.{AllByRecursion}
use Rattle.byteorder.specs.Endian.{little_bytes}
use Rattle.tape_image.specs.Writer.{finished, Writer, writing, broken}
use Rattle.tape_image.specs.{Tape.TapeItem, Tape.mark, Tape.bad, Word.end_word, Spelling.Leads}
use Rattle.tape_image.specs.{Spelling.Spells, Written.written}
use Rattle.tape_label.specs.{declared.values.Head1.Head1, declared.values.Vol1.Vol1}
use Rattle.tape_label.specs.{declared.values.Format.TheVariants.Fixed}
use Rattle.tape_blocks.specs.Tight.{parts_of_all, first_len, Chain, Filled, IsDue, IsWritten}
use Rattle.tape_blocks.specs.{Run.AreClosed, Packing.IsWritable, declared.parts.Shape.Shape}
use Rattle.tape_blocks.specs.{Spans.join}
use Rattle.tape_set.specs.Tight.{IsTight, IsTightFile, takes_next, least_capacity}
use Rattle.tape_set.specs.{Before.section_parts, Lawful.IsLawful, Layout.Placed, Layout.Section}
use Rattle.tape_set.specs.{Layout.all_items, Sizes.items_size}
use Rattle.tape_writer.specs.Images.{AreImages, AreImagesOf, HasStopped, IsImageOf, TakesNoMore}
use Rattle.tape_writer.specs.Images.{IsImageSoFar, HandedOn, Holds, Images}
use Rattle.tape_writer.specs.Labels.{first_label, second_kind, second_label, trailer_label}
use Rattle.tape_writer.specs.Lasting.{Lasting, Lasts, StaysAsked, TapeLasts}
use Rattle.tape_writer.specs.Refusals.{IsBeginFault, IsFinishFault, IsNewFault, IsPutFault}
use Rattle.tape_writer.specs.State.{HasAsked, IfFiling, IsWriting, Refuses, SameSet, SetState}
use Rattle.tape_writer.specs.State.{Leaves, tape_of, HasLength, IsOutOfVolumes}
use Rattle.tape_writer.specs.Tapes.{Changes, Closes, Ended, Grows, Keeps, Rose, Takes, Tapes}
use Rattle.tape_writer.specs.Tapes.{Failures, HasCause, UnderWay, WasAsked, all_volumes, volume_at}
use Rattle.tape_writer.specs.Told.{IsOfFile, IsWrittenSet, Told, labelled, opened_by, with_record}
use Rattle.tape_writer.specs.Told.{AreFiled, IsFiled, IsWithin}
use Rattle.tape_writer.specs.{Refusals.IsInFile, declared.course.Course.Course}
use Rattle.tape_writer.specs.{declared.course.Opened.Opened, declared.fault.WriteFault.WriteFault}
use Rattle.tape_writer.specs.{declared.out.TapeOut.Ghosts, declared.phase.OpenFile.OpenFile}
use Rattle.tape_writer.specs.{declared.tape.Tape.Tape, Blank.IsPrefix, Draft.open_blocks}
use Rattle.tape_writer.specs.{Faults.FailsByDevice, Faults.FailsWith, Faults.IsEnding}
use Rattle.tape_writer.specs.{Fields.IsTextVolume, Fields.IsText, Fields.IsTextHead, Inside.IsStuck}
use Rattle.tape_writer.specs.{Inside.Continues}
use Rattle.tape_label.specs.declared.values.Kind.TheVariants as kinds
use Rattle.tape_writer.specs.declared.fault.OutFault.TheVariants as out
use Rattle.tape_writer.specs.declared.fault.WriteFault.TheVariants as faults
use Rattle.tape_writer.specs.declared.phase.Phase.TheVariants as phases

-- a model of tapes: their contents, their failures, and the label of the last volume requested
abbrev pub Bare : Type 0
Bare = Tapes × Failures × Vol1

abbrev pub bare : Ghosts Bare
bare = record { holds = λ s t. t ≡ s.0; failures = λ s. s.1; asked = λ s v. v ≡ s.2 }

-- tapes, and the counts of their failures
pub record CasesOfTapes : Type 0 where
  -- an item is appended to the current volume, the next volume begins, and closing ends the current
  -- volume
  pub takes : (after : Tapes) → Takes {E = ℕ} (bad ∷ []) (λ t. t ≡ UnderWay [] (mark ∷ []))
      (Ok tt) (λ t. t ≡ after) → UnderWay [] (mark ∷ bad ∷ []) ≡ after
  pub changes : (after : Tapes) → Changes {E = ℕ} [] (λ t. t ≡ UnderWay [] (mark ∷ [])) (Ok tt)
      (λ t. t ≡ after) → UnderWay ((mark ∷ []) ∷ []) [] ≡ after
  pub closes : (after : Tapes) → Closes {E = ℕ} (λ t. t ≡ UnderWay [] (mark ∷ [])) (Ok tt)
      (λ t. t ≡ after) → Ended ((mark ∷ []) ∷ []) ≡ after
  -- a refusal leaves the contents unchanged
  pub keeps : (after : Tapes) → Keeps {E = ℕ} (λ t. t ≡ Ended []) (Err 0) (λ t. t ≡ after)
      → Ended [] ≡ after
  -- volume number 2 was requested with the second label; before the first volume no volume was
  -- requested
  pub asked_second : (v w asked : Vol1) → WasAsked (λ u. u ≡ asked) (v ∷ w ∷ []) 2 → w ≡ asked
  pub none_asked : (volumes : List Vol1) → WasAsked (λ _. ⊥) volumes 0
  -- the current volume is the last of all volumes
  pub last_of_all : all_volumes (UnderWay ((mark ∷ []) ∷ []) (bad ∷ []))
      ≡ (mark ∷ []) ∷ (bad ∷ []) ∷ []
  pub second : volume_at (UnderWay ((mark ∷ []) ∷ []) (bad ∷ [])) 1 ≡ bad ∷ []
  pub none_behind : volume_at (Ended ((mark ∷ []) ∷ [])) 1 ≡ []
  -- each fault has its own count
  pub device_failed : (old new : Failures)
      → HasCause out.Device out.OutOfMemory old (Err out.Device) new → Rose old.device new.device
  pub growth_refused : (old new : Failures)
      → HasCause out.Device out.OutOfMemory old (Err out.OutOfMemory) new
      → Rose old.memory new.memory
  pub writing_failed : (old new : Failures) → FailsWith old (Err faults.Device) new
      → Rose old.device new.device
  pub no_memory : (old new : Failures) → FailsWith old (Err faults.OutOfMemory) new
      → Rose old.memory new.memory
  pub begin_failed : (old new : Failures) → FailsByDevice old (Err faults.Device) new
      → Rose old.device new.device
  -- and no count decreases
  pub no_count_falls : (old new : Failures) → Grows old new
      → (old.device ≤ new.device) × (old.memory ≤ new.memory)
  -- the volumes that have ended are the first of the contents, and the counted size is that of the
  -- current volume
  pub ended_stay : (tapes : Tapes) (used : ℕ) (volumes : List (List TapeItem))
      (l : Lasts (λ t. t ≡ tapes) used volumes) → (UnderWay (volumes ++ l.more) l.items ≡ tapes)
      × (used ≡ items_size l.items)
  pub lasting : (after : Tapes) (f f' : Failures) (used' : ℕ)
      → Lasting (λ t. t ≡ UnderWay [] []) f 0 (λ t. t ≡ after) f' used'
      → Lasts (λ t. t ≡ after) used' [] × Grows f f'
  pub writer_lasts : (old new : SetState Bare) → TapeLasts bare (tape_of old) (tape_of new)
      → Lasting (λ t. t ≡ old.out.0) old.out.1 old.course.used
      (λ t. t ≡ new.out.0) new.out.1 new.course.used
  -- the current volume was requested with its own label, and a call that succeeds preserves this
  pub has_asked : (w : SetState Bare) → HasAsked bare w
      → WasAsked (λ v. v ≡ w.out.2) w.volumes w.course.volume
  pub stays_asked : (volumes : List Vol1) (old new : Tape Bare)
      → StaysAsked bare volumes old (Ok tt) new
      → WasAsked (λ v. v ≡ old.out.2) volumes old.course.volume
      → WasAsked (λ v. v ≡ new.out.2) volumes new.course.volume

-- volumes as images
pub record CasesOfImages : Type 0 where
  -- the bytes of an image encode its volume, including the end-of-medium marker; the size counts
  -- them
  pub its_spelling : (items : List TapeItem) (bytes : List ℕ) → IsImageOf items bytes
      → Spells bytes items × (length bytes ≡ items_size items + 4)
  -- the bytes of a current image encode the items so far; nothing follows them if nothing failed
  pub spelled_so_far : (items : List TapeItem) (w : Writer) (i : IsImageSoFar items w)
      → w.standing ≡ writing
      → (w.contents ≡ Some (i.bytes ++ i.more)) × Leads i.bytes items [] × (i.more ≡ [])
      × (w.size ≡ items_size items)
  -- if the image failed, a prefix of the next write follows
  pub front_behind : (items : List TapeItem) (w : Writer) (i : IsImageSoFar items w)
      → (next : List ℕ) × (rest : List ℕ) × (next ≡ i.more ++ rest)
      × ((next ≡ little_bytes 4 end_word) ⊎ ((item : TapeItem) × (next ≡ written item)))
  -- the end-of-medium marker is not written yet
  pub not_ended : (items : List TapeItem) (w : Writer) → IsImageSoFar items w
      → w.standing ≡ finished → ⊥
  -- each volume that has ended has its image, in order, and there are no other images
  pub none_without_image : (v : List TapeItem) → AreImagesOf (v ∷ []) [] → ⊥
  pub no_image_besides : (b : List ℕ) → AreImagesOf [] (b ∷ []) → ⊥
  pub in_order : (v u : List TapeItem) (b c : List ℕ) → AreImagesOf (v ∷ u ∷ []) (b ∷ c ∷ [])
      → IsImageOf v b × IsImageOf u c
  -- the store received exactly the images of the volumes
  pub handed : (given : List (List ℕ)) (volumes : List (List TapeItem))
      (h : HandedOn (λ images. images ≡ given) volumes)
      → (h.images ≡ given) × AreImagesOf volumes h.images
  -- if all volumes have ended there is no current image, and no device is lent; otherwise there is
  -- one
  pub all_handed : (w : Writer) (v : List (List TapeItem))
      → AreImages (λ lent images. Unit {0}) (Some w) (Ended v) → ⊥
  pub none_lent : (v : List (List TapeItem))
      → AreImages (λ lent images. lent ≡ true) None (Ended v) → ⊥
  pub one_lent : (w : Writer) (v : List (List TapeItem)) (items : List TapeItem)
      → AreImages (λ lent images. lent ≡ false) (Some w) (UnderWay v items) → ⊥
  pub under_way_so_far : (w : Writer) (v : List (List TapeItem)) (items : List TapeItem)
      → AreImages (λ lent images. Unit {0}) (Some w) (UnderWay v items) → IsImageSoFar items w
  pub under_way_is_here : (v : List (List TapeItem)) (items : List TapeItem)
      → AreImages (λ lent images. Unit {0}) None (UnderWay v items) → ⊥
  -- an image accepts further items while it is written and has room for the longest block
  pub takes_more : (w : Writer) → w.standing ≡ writing → w.size ≡ 4294867287
      → TakesNoMore (Some w) → ⊥
  pub has_failed : (w : Writer) → w.standing ≡ broken → TakesNoMore (Some w)
  pub is_full : (w : Writer) → w.size ≡ 4294867288 → TakesNoMore (Some w)
  -- a call of image tapes fails only if the image accepts no further items, or no device is left
  pub stopped : (left : ℕ) (image : Option Writer) → HasStopped left image
      → (left ≡ 0) ⊎ TakesNoMore image
  -- a writer of images has its own image, and the contents of its store
  pub of_the_writer : (t : Images ℕ) (v : List (List TapeItem))
      → Holds (λ n lent images. n ≡ 7) t (Ended v) → (t.image ≡ None) × (t.store ≡ 7)

-- the files passed, and the set written
pub record CasesOfSets : Type 0 where
  -- a file has the identifier and the number of the writer, and its first section
  pub opened : (id : List ℕ) (head : Head1) (shape : Shape)
      → ((opened_by id 2 head shape).head.set_id ≡ id)
      × ((opened_by id 2 head shape).head.sequence ≡ 2)
      × ((opened_by id 2 head shape).head.sect ≡ 1) × ((opened_by id 2 head shape).shape ≡ shape)
  -- a record is appended to the records of the last file
  pub put_last : (t u : Told) (r : List ℕ) → with_record (t ∷ u ∷ []) r
      ≡ t ∷ record { file = u.file; records = u.records ++ r ∷ [] } ∷ []
  -- there are as many files on the volumes as were passed, in order
  pub none_left_out : (capacity : ℕ) (t : Told) → AreFiled capacity (t ∷ []) [] → ⊥
  pub none_besides : (capacity : ℕ) (f : List Section) → AreFiled capacity [] (f ∷ []) → ⊥
  pub in_order : (capacity : ℕ) (t u : Told) (f g : List Section)
      → AreFiled capacity (t ∷ u ∷ []) (f ∷ g ∷ []) → IsFiled capacity t f × IsFiled capacity u g
  -- a file contains exactly the records passed, none of them unfinished, without unused space in
  -- the shape passed
  pub its_records : (capacity : ℕ) (t : Told) (f : List Section) → IsFiled capacity t f
      → ((join (section_parts f)).records ≡ t.records) × ((join (section_parts f)).rest ≡ None)
      × IsTightFile capacity t.file.shape f
  -- a section has exactly the labels written for its file
  pub its_labels : (file : Opened) (x : Placed) (o : IsOfFile file x)
      → (x.section.hdr1 ≡ first_label file x.sect)
      × (x.section.hdr2 ≡ second_label file kinds.Hdr2) × (x.section.headers ≡ [])
      × (x.section.trailer ≡ trailer_label file x.sect (length x.section.blocks) o.eof)
      × (x.section.trailers ≡ second_label file (second_kind o.eof) ∷ [])
  -- a written set is valid and tight, has the given identifier, is on the first of the volumes
  -- passed, each within the capacity, and the tapes contain its items
  pub written_is : (tapes : Tapes) (volumes : List Vol1) (capacity : ℕ) (set_id : List ℕ)
      (told : List Told) (w : IsWrittenSet (λ t. t ≡ tapes) volumes capacity set_id told)
      → IsLawful w.layout × IsTight w.layout capacity (map (λ t. t.file.shape) told)
      × (Ended (all_items w.layout) ≡ tapes)
      × AllByRecursion (IsWithin capacity) (all_items w.layout) × (w.layout.set_id ≡ set_id)
      × (w.layout.volumes ≡ take (length w.layout.volumes) (map labelled volumes))
      × AreFiled capacity told w.layout.files
  -- the end-of-medium marker counts towards the capacity
  pub end_word_counts : (capacity : ℕ) → IsWithin capacity [] → 4 ≤ capacity

-- a writer, its refusals and their effects
pub record CasesOfRefusals : Type 0 where
  -- a call does not change the set
  pub same_set : (old new : SetState ℕ) → SameSet old new → (new.volumes ≡ old.volumes)
      × (new.capacity ≡ old.capacity) × (new.set_id ≡ old.set_id)
  -- the faults of creating a writer: each has its cause, and there is no other fault
  pub new_field : (id : List ℕ) (volumes : List Vol1) → IsNewFault id volumes faults.BadField
      → IsText id → AllByRecursion IsTextVolume volumes → ⊥
  pub enough_volumes : (id : List ℕ) (v : Vol1) → IsNewFault id (v ∷ []) faults.OutOfVolumes → ⊥
  pub few_volumes : (id : List ℕ) (v : Vol1) → IsNewFault id (v ∷ []) faults.TooMany → ⊥
  pub no_other_new : (id : List ℕ) (volumes : List Vol1)
      → (IsNewFault id volumes faults.RecordLength → ⊥) × (IsNewFault id volumes faults.Device → ⊥)
      × (IsNewFault id volumes faults.OutOfMemory → ⊥) × (IsNewFault id volumes faults.Failed → ⊥)
  -- the faults of beginning a file
  pub begin_field : (capacity n : ℕ) (head : Head1) (shape : Shape)
      → IsBeginFault capacity n head shape faults.BadField → IsTextHead head → ⊥
  pub begin_shape : (capacity n : ℕ) (head : Head1) (shape : Shape)
      → IsBeginFault capacity n head shape faults.BadShape → IsWritable shape → ⊥
  pub begin_capacity : (n : ℕ) (head : Head1) (shape : Shape)
      → IsBeginFault (least_capacity shape) n head shape faults.CapacityTooSmall → ⊥
  pub begin_many : (capacity : ℕ) (head : Head1) (shape : Shape)
      → IsBeginFault capacity 9998 head shape faults.TooMany → ⊥
  pub no_other_begin : (capacity n : ℕ) (head : Head1) (shape : Shape)
      → (IsBeginFault capacity n head shape faults.OutOfVolumes → ⊥)
      × (IsBeginFault capacity n head shape faults.RecordLength → ⊥)
      × (IsBeginFault capacity n head shape faults.NoFile → ⊥)
  -- the faults of writing a record
  pub put_length : (o : OpenFile) (bytes : List ℕ)
      → IsPutFault (HasLength o bytes → ⊥) faults.RecordLength → HasLength o bytes → ⊥
  pub no_other_put : (IsPutFault (Unit {0}) faults.NoFile → ⊥)
      × (IsPutFault (Unit {0}) faults.TooMany → ⊥) × (IsPutFault (Unit {0}) faults.BadShape → ⊥)
      × (IsPutFault (Unit {0}) faults.BadField → ⊥) × (IsPutFault (Unit {0}) faults.FileBegun → ⊥)
  -- the faults of finishing a set
  pub some_file : IsFinishFault 1 faults.NoFile → ⊥
  pub no_other_end : (IsFinishFault 0 faults.OutOfVolumes → ⊥)
      × (IsFinishFault 0 faults.RecordLength → ⊥) × (IsFinishFault 0 faults.TooMany → ⊥)
  -- a fault that ends a writer leaves a failed writer; any other fault leaves it unchanged
  pub ends_for_good : (old new : SetState ℕ) → (Leaves old new faults.Device
      → new.phase ≡ phases.Failed) × (Leaves old new faults.OutOfMemory
      → new.phase ≡ phases.Failed) × (Leaves old new faults.OutOfVolumes
      → new.phase ≡ phases.Failed)
  pub else_the_same : (old new : SetState ℕ)
      → (Leaves old new faults.RecordLength → new ≡ old)
      × (Leaves old new faults.NoFile → new ≡ old) × (Leaves old new faults.BadField → new ≡ old)
  pub does_not_end : (IsEnding faults.RecordLength → ⊥) × (IsEnding faults.NoFile → ⊥)
  -- a refused call returns the fault, and changes nothing
  pub refuses : (old new : SetState ℕ) (result : Result (Unit {0}) WriteFault)
      → Refuses old result new faults.NoFile → (result ≡ Err faults.NoFile) × (new ≡ old)
  -- a property of the open file is stated inside a file, and makes no claim between two files,
  pub of_the_open : (o u : OpenFile) → IfFiling (phases.Filing o) (λ f. f ≡ u) → o ≡ u
  pub of_no_other : IfFiling phases.Between (λ f. ⊥)
  -- and a record has one of the lengths of its shape
  pub has_length : (o : OpenFile) → o.file.shape.format ≡ Fixed → HasLength o []
      → 0 ≡ o.file.shape.rec_len
  -- a field with small letters is not written; a volume identifier begins with three capital
  -- letters or digits
  pub a_text : IsText (codes "AB 12")
  pub no_text : IsText (codes "ABc") → ⊥
  pub three : IsPrefix (codes "A1") → ⊥
  pub no_small : IsPrefix (codes "ABc") → ⊥
  pub a_prefix : IsPrefix (codes "A0Z")
  -- a writer keeps the files passed to it
  pub keeps_files : (tapes : Tapes) (w : SetState ℕ) (told : List Told)
      → IsWriting (λ t. t ≡ tapes) w told → w.files ≡ map (λ t. t.file) told
  -- for a failed writer the contents of the tapes are unspecified; between files no file is current
  pub failed_tells_nothing : (tapes : Tapes) (w : SetState ℕ) (told : List Told)
      → w.phase ≡ phases.Failed → IsWriting (λ t. t ≡ tapes) w told → ⊥
  pub none_under_way : (file : Opened) → (IsInFile file phases.Between → ⊥)
      × (IsInFile file phases.Failed → ⊥) × (IsInFile file phases.Finished → ⊥)
  -- if no volume is left for the last file passed, the other files are complete,
  pub out_of_volumes : (tapes : Tapes) (w : SetState ℕ) (told : List Told)
      (o : IsOutOfVolumes (λ t. t ≡ tapes) w told) → (told ≡ o.past ++ o.last ∷ [])
      × AreFiled w.capacity o.past o.files
      × IsStuck (λ t. t ≡ tapes) w.volumes w.capacity w.set_id o.last.file w.course o.files
      o.last.records
  -- and the rule for the change of volumes refuses the next block of its records
  pub stuck : (tapes : Tapes) (volumes : List Vol1) (capacity : ℕ) (set_id : List ℕ)
      (file : Opened) (course : Course) (fs : List (List Section)) (records : List (List ℕ))
      (s : IsStuck (λ t. t ≡ tapes) volumes capacity set_id file course fs records)
      → (length volumes ≤ course.volume) × (takes_next capacity course.used s.next ≡ false)
      × (s.draft.files ≡ fs) × Continues file.shape records (open_blocks s.draft) s.next
  -- the records are joined from the blocks written, the next block, if there is one, and the parts
  -- after it
  pub comes_next : (shape : Shape) (records : List (List ℕ)) (blocks next : List Filled)
      (c : Continues shape records blocks next)
      → (join (parts_of_all (blocks ++ next) ++ c.behind)
      ≡ record { records = records; rest = None })
      × (length next ≤ 1) × (next ≡ [] → c.behind ≡ [])
      × AllByRecursion (IsWritten shape) (blocks ++ next) × Chain (IsDue shape) (blocks ++ next)
      × (c.behind ≢ [] → AreClosed shape (blocks ++ next) (first_len c.behind 0))
