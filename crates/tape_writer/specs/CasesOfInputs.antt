-- Test cases for the definitions of sets written from inputs. They are part of the contract of the
-- function `laws::cases`.
use Rattle.std.specs.Prelude.{Some, [], ◌⊎◌, Err, List, Option, ◌∷◌, None, true, ℕ, ◌<◌, ◌≡◌, ◌≤◌}
use Rattle.std.specs.Prelude.{◌++◌, false, length}
use Rattle.std.specs.{List.AllByRecursion, List.flat_map}
use Rattle.tape_label.specs.{declared.values.Format.TheVariants.Fixed}
use Rattle.tape_label.specs.{declared.values.Format.TheVariants.Spanned}
use Rattle.tape_label.specs.{declared.values.Format.TheVariants.Counted, declared.values.Vol1.Vol1}
use Rattle.tape_label.specs.{declared.values.Head1.Head1}
use Rattle.tape_blocks.specs.{Packing.HasRecordLength, declared.parts.Shape.Shape}
use Rattle.tape_set.specs.Layout.{Section, Placed, numbered, all_items}
use Rattle.tape_set.specs.Lawful.{IsFile}
use Rattle.tape_writer.specs.RecordLaws.{IsLine, LinesAreCut, PiecesAreCut, WholeIsOne, ended_line}
use Rattle.tape_writer.specs.Records.{Adds, GrowsLong, left_of, records_from, records_of, to_come}
use Rattle.tape_writer.specs.Records.{IsFirstLong, given, last_record, longest, longest_by}
use Rattle.tape_writer.specs.WriteFaults.{IsFileFault, IsFilesFault, IsInputFault, StopsByDevice}
use Rattle.tape_writer.specs.WriteFaults.{IsOfWriter, IsSetFault, IsWholeFault, OneIsOther, told_as}
use Rattle.tape_writer.specs.LeftOf.{GaveUpSet, GaveUp, GaveUpIn, HasNoVolume}
use Rattle.tape_writer.specs.Tapes.{Failures, Rose, Ended, Tapes}
use Rattle.tape_writer.specs.Told.{IsFiled, IsOfFile, Told, opened_by, with_file}
use Rattle.tape_writer.specs.{WriteFaults.IsFaultOfCut, declared.fault.SetFault.SetFault}
use Rattle.tape_writer.specs.{declared.fault.SetFault.TheVariants.ReadFailed}
use Rattle.tape_writer.specs.{declared.fault.SetFault.TheVariants.Write}
use Rattle.tape_writer.specs.{declared.fault.WriteFault.WriteFault, declared.inputs.cut.Cut.Cut}
use Rattle.tape_writer.specs.{declared.inputs.cut.Cut.TheVariants.Lines}
use Rattle.tape_writer.specs.{declared.inputs.cut.Cut.TheVariants.Whole}
use Rattle.tape_writer.specs.{declared.inputs.cut.Cut.TheVariants.Length}
use Rattle.tape_writer.specs.{declared.inputs.records.Records.Records, Images.HandedOn}
use Rattle.tape_writer.specs.{Images.device_failures, Refusals.IsNewFault, Refusals.IsPutFault}
use Rattle.tape_writer.specs.{State.IsOutOfVolumes, State.SetState, WriteSet.cut_of}
use Rattle.tape_writer.specs.{WriteSet.IsSetOfImages, WriteSet.raw_cut}
use Rattle.tape_writer.specs.{declared.course.Opened.Opened, declared.inputs.set.SetPlan.SetPlan}
use Rattle.tape_writer.specs.{ToldFiles.IfAllKnown, ToldFiles.told_files, ToldFiles.with_records}
use Rattle.tape_blocks.specs.declared.parts.Form.TheVariants as forms
use Rattle.tape_writer.specs.declared.fault.WriteFault.TheVariants as faults
use Rattle.tape_writer.specs.declared.inputs.records.InputFault.TheVariants as inputs

-- the records of inputs
pub record CasesOfInputs : Type 0 where
  -- 10 is the line feed: a last line without a line feed is a record, and so is an empty line; the
  -- end of the input is not a record
  pub lines : records_of Lines (65 ∷ 10 ∷ 10 ∷ 66 ∷ []) ≡ (65 ∷ []) ∷ [] ∷ (66 ∷ []) ∷ []
  pub last_line_ends : records_of Lines (65 ∷ 10 ∷ []) ≡ (65 ∷ []) ∷ []
  pub no_lines : records_of Lines [] ≡ []
  -- pieces of two bytes, and the rest; the line feed has no special meaning
  pub pieces : records_of (Length 2) (65 ∷ 10 ∷ 66 ∷ []) ≡ (65 ∷ 10 ∷ []) ∷ (66 ∷ []) ∷ []
  pub no_pieces : records_of (Length 2) [] ≡ []
  -- all bytes are one record, which may be empty
  pub whole : records_of Whole (65 ∷ 10 ∷ []) ≡ (65 ∷ 10 ∷ []) ∷ []
  pub empty_whole : records_of Whole [] ≡ [] ∷ []
  -- raw inputs, by format
  pub raw : (raw_cut Fixed 80 ≡ Some (Length 80)) × (raw_cut Counted 80 ≡ None)
      × (raw_cut Spanned 0 ≡ Some Whole)
  pub lines_of_any : (shape : Shape) → cut_of forms.Lines shape ≡ Some Lines
  pub raw_of_shape : (shape : Shape) → cut_of forms.Raw shape ≡ raw_cut shape.format shape.rec_len
  -- no record of a shape is longer than its maximum, and the shape has records of this length if it
  -- has any
  pub within_longest : (shape : Shape) (n : ℕ)
      → HasRecordLength shape.format shape.rec_len n → n ≤ longest shape
  pub has_longest : (shape : Shape) (n : ℕ) → HasRecordLength shape.format shape.rec_len n
      → HasRecordLength shape.format shape.rec_len (longest shape)
  pub longest_of_each : (longest_by Fixed 80 ≡ 80) × (longest_by Counted 80 ≡ 76)
      × (longest_by Spanned 0 ≡ 4294967295)
  -- the first record gets too long, whatever follows
  pub none_is_long : (most : ℕ) → IsFirstLong most [] → ⊥
  pub first_is_long : (most : ℕ) (r : List ℕ) (rs : List (List ℕ))
      → IsFirstLong most (r ∷ rs) → most < length r
  pub grows_long : (most : ℕ) (cut : Cut) (r bytes : List ℕ) → GrowsLong most cut r bytes
      → (more : List ℕ) → IsFirstLong most (records_from cut r (bytes ++ more))
  -- no records are to come at the end of an input, and a record that was returned comes first
  pub over : (cut : Cut) (bytes : List ℕ) → to_come cut true bytes ≡ []
  pub not_over : (cut : Cut) (bytes : List ℕ) → to_come cut false bytes ≡ records_of cut bytes
  pub given_first : (r : List ℕ) (rs : List (List ℕ)) → (given true r rs ≡ r ∷ rs)
      × (given false r rs ≡ rs)
  -- bytes that were read ahead precede those of the reader
  pub ahead_first : (r : Records ℕ) → r.ahead ≡ 65 ∷ []
      → left_of (λ n. Some (66 ∷ [])) r ≡ Some (65 ∷ 66 ∷ [])
  -- whether bytes continue or end a record does not depend on the bytes after them
  pub more_of_it : (cut : Cut) (old bytes new more : List ℕ) → Adds cut old bytes new false
      → records_from cut old (bytes ++ more) ≡ records_from cut new more
  pub ends_it : (cut : Cut) (old bytes new more : List ℕ) → Adds cut old bytes new true
      → records_from cut old (bytes ++ more) ≡ new ∷ records_from cut [] more
  -- the files passed are those of the inputs, numbered in order, each with its own records
  pub told_in_order : (id : List ℕ) (shape : Shape) (cut : Cut) (h k : Head1) (a b : List ℕ)
      → told_files id shape cut 1 ((h, a) ∷ (k, b) ∷ [])
      ≡ record { file = opened_by id 1 h shape; records = records_of cut a }
      ∷ record { file = opened_by id 2 k shape; records = records_of cut b } ∷ []
  pub told_more : (t : Told) (r s : List ℕ) → with_records (t ∷ []) (r ∷ s ∷ [])
      ≡ record { file = t.file; records = (t.records ++ r ∷ []) ++ s ∷ [] } ∷ []
  -- a claim about the bytes of the inputs is made only if all of them are known
  pub all_known : (h k : Head1) (a b : List ℕ) (given : List (Head1 × List ℕ))
      → IfAllKnown ((h, Some a) ∷ (k, Some b) ∷ []) (λ fs. fs ≡ given)
      → (h, a) ∷ (k, b) ∷ [] ≡ given
  -- after a prefix of the records was passed, no volume was left for the set
  pub gave_up : (tapes : Tapes) (w : SetState ℕ) (told : List Told)
      (records : List (List ℕ)) (g : GaveUp (λ t. t ≡ tapes) w told records)
      → (records ≡ g.front ++ g.back)
      × IsOutOfVolumes (λ t. t ≡ tapes) w (with_records told g.front)
  -- a prefix of the records of the first file was passed, and no file before it
  pub gave_up_in : (tapes : Tapes) (w : SetState ℕ) (id : List ℕ) (shape : Shape) (cut : Cut)
      (x : Head1 × List ℕ)
      → GaveUpIn (λ t. t ≡ tapes) w id [] shape cut ((x.0, Some x.1) ∷ [])
      → GaveUp (λ t. t ≡ tapes) w (with_file id [] x.0 shape) (records_of cut x.1)
  -- a writer of the plan found no volume left, and its tapes are returned
  pub gave_up_set : (plan : SetPlan) (cut : Cut) (given : List (Head1 × Option (List ℕ)))
      (g : GaveUpSet {T = ℕ} (λ n t. t ≡ Ended []) (λ n. n ≡ 7) plan cut given)
      → (g.writer.out ≡ 7) × (g.writer.volumes ≡ plan.volumes.items)
      × (g.writer.capacity ≡ plan.capacity) × (g.writer.set_id ≡ plan.set_id)

-- the faults of writing a set from inputs
pub record CasesOfSetFaults : Type 0 where
  pub as_told : (told_as inputs.ReadFailed ≡ ReadFailed)
      × (told_as inputs.TooLong ≡ Write faults.RecordLength)
      × (told_as inputs.OutOfMemory ≡ Write faults.OutOfMemory)
  -- a record of the shape does not have a wrong length, and no records contain none that has
  pub none_is_other : (shape : Shape) → OneIsOther shape [] → ⊥
  pub one_is_other : (shape : Shape) (r : List ℕ) → OneIsOther shape (r ∷ [])
      → HasRecordLength shape.format shape.rec_len (length r) → ⊥
  -- each fault has its cause, and there is no other fault
  pub of_writer : (one other : WriteFault) → IsOfWriter (λ f. f ≡ one) (Write other)
      → other ≡ one
  pub read_is_not : IsOfWriter (λ f. Unit {0}) ReadFailed → ⊥
  pub length_only_so : IsPutFault ⊥ faults.RecordLength → ⊥
  pub input_length_so : IsInputFault ⊥ (Write faults.RecordLength) → ⊥
  pub read_failed : (shape : Shape) → IsInputFault (OneIsOther shape []) ReadFailed
  pub of_no_file : (capacity : ℕ) (shape : Shape) (cut : Cut) (fault : SetFault)
      → IsFilesFault capacity shape cut 0 [] fault → ⊥
  -- the second file follows one other file
  pub of_second : (capacity : ℕ) (shape : Shape) (cut : Cut) (x y : Head1 × Option (List ℕ))
      (fault : SetFault) → IsFilesFault capacity shape cut 0 (x ∷ y ∷ []) fault
      → IsFileFault capacity shape cut 0 x fault ⊎ IsFileFault capacity shape cut 1 y fault
  -- a length that is refused is that of a record of the input
  pub length_of_input : (capacity : ℕ) (shape : Shape) (cut : Cut) (n : ℕ) (head : Head1)
      (bytes : List ℕ)
      → IsFileFault capacity shape cut n (head, Some bytes) (Write faults.RecordLength)
      → OneIsOther shape (records_of cut bytes)
  -- a set without inputs has no file, and this is the cause
  pub of_nothing : (capacity : ℕ) (shape : Shape) (cut : Cut)
      → IsWholeFault capacity shape cut [] (Write faults.RecordLength) → ⊥
  pub some_file : (capacity : ℕ) (shape : Shape) (cut : Cut) (x : Head1 × Option (List ℕ))
      → IsWholeFault capacity shape cut (x ∷ []) (Write faults.NoFile) → ⊥
  -- raw inputs that cannot be records of the format are refused for this reason
  pub not_cut : (plan : SetPlan) (given : List (Head1 × Option (List ℕ))) (fault : SetFault)
      → IsFaultOfCut plan given None fault → fault ≡ Write faults.BadShape
  pub cut_so : (plan : SetPlan) (given : List (Head1 × Option (List ℕ))) (cut : Cut)
      (fault : SetFault) → IsFaultOfCut plan given (Some cut) fault
      → IsOfWriter (IsNewFault plan.set_id plan.volumes.items) fault
      ⊎ IsWholeFault plan.capacity plan.shape cut given fault

-- sets that are written, and why others are not
pub record CasesOfWritten : Type 0 where
  -- failures of an image's device are counted as failures of a device
  pub as_of_a_device : (n : ℕ) → ((device_failures n).device ≡ n)
      × ((device_failures n).memory ≡ 0)
  -- a file has sections; they have the labels of the file, and numbers of four digits
  pub its_sections : (capacity : ℕ) (t : Told) (f : List Section) → IsFiled capacity t f
      → IsFile f × AllByRecursion (IsOfFile t.file) (numbered t.file.head.sequence 1 f)
  pub its_number : (file : Opened) (x : Placed) → IsOfFile file x → (1 ≤ x.sect) × (x.sect ≤ 9999)
  -- one more file follows those that were passed; it has the next number and no records
  pub begun_behind : (id : List ℕ) (t : Told) (head : Head1) (shape : Shape)
      → with_file id (t ∷ []) head shape
      ≡ t ∷ record { file = opened_by id 2 head shape; records = [] } ∷ []
  -- the images that were passed to the store are those of the set's volumes
  pub of_images : (given : List (List ℕ)) (volumes : List Vol1) (capacity : ℕ) (id : List ℕ)
      (told : List Told)
      (w : IsSetOfImages (λ lent images. images ≡ given) volumes capacity id told)
      → HandedOn (λ images. images ≡ given) (all_items w.layout)
  -- a set is refused with `Device` only if the device failed; its other faults depend on how its
  -- inputs are cut
  pub set_failed : (old new : Failures) → StopsByDevice old (Err (Write faults.Device)) new
      → Rose old.device new.device
  pub set_fault : (plan : SetPlan) (given : List (Head1 × Option (List ℕ))) (fault : SetFault)
      → IsSetFault plan given fault → IsFaultOfCut plan given (cut_of plan.form plan.shape) fault
  -- no volume is left if the plan has no volumes, or a writer of the plan found none left
  pub no_volume : (plan : SetPlan) (cut : Cut) (given : List (Head1 × Option (List ℕ)))
      → cut_of plan.form plan.shape ≡ Some cut
      → HasNoVolume {T = ℕ} (λ n t. t ≡ Ended []) (λ n. n ≡ 7) plan given
      → (length plan.volumes.items ≡ 0)
      ⊎ GaveUpSet {T = ℕ} (λ n t. t ≡ Ended []) (λ n. n ≡ 7) plan cut given

-- conclusions that a caller can draw from the laws of records, which ensure that no law has
-- premises that nothing satisfies
pub record CasesOfRecordLaws : Type 0 where
  pub lines_are_cut : LinesAreCut → (line rest : List ℕ) → IsLine line → IsLine rest
      → records_of Lines (flat_map ended_line (line ∷ []) ++ rest) ≡ line ∷ last_record Lines rest
  pub pieces_are_cut : PiecesAreCut → (piece rest : List ℕ) → length rest < length piece
      → records_of (Length (length piece)) (flat_map (λ p. p) (piece ∷ []) ++ rest)
      ≡ piece ∷ last_record (Length (length piece)) rest
  pub whole_is_one : WholeIsOne → (bytes : List ℕ) → records_of Whole bytes ≡ bytes ∷ []
  -- the byte 10 is the only one that is not in a line, and ends it
  pub a_line : IsLine (65 ∷ 13 ∷ [])
  pub no_line : IsLine (65 ∷ 10 ∷ []) → ⊥
  pub ended : ended_line (65 ∷ []) ≡ 65 ∷ 10 ∷ []
