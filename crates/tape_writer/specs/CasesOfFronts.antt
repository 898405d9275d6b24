-- Test cases for the definitions of the contents of the tapes after a refusal. They are part of the
-- contract of the function `laws::cases`.
use Rattle.std.specs.Prelude.{ℕ, ◌++◌, ◌∷◌, Some, [], length, ◌≡◌, ◌≢◌, ◌⊎◌, ◌<◌, List, Option}
use Rattle.tape_image.specs.Tape.{TapeItem}
use Rattle.tape_label.specs.{declared.values.Head1.Head1, declared.values.Vol1.Vol1}
use Rattle.tape_blocks.specs.{Packing.Packing, declared.parts.Shape.Shape}
use Rattle.tape_set.specs.Layout.{Section}
use Rattle.tape_writer.specs.Front.{Change, HoldsFront, IsInLast, IsLeftInside, IsMidRecord, Item}
use Rattle.tape_writer.specs.Front.{Close, IsLeftBehind, IsLeftWhole, IsPartly, behind_steps}
use Rattle.tape_writer.specs.Inside.{IsFlat, IsInside, IsPacking, IsWaiting}
use Rattle.tape_writer.specs.LeftOf.{IsLeftIn, IsLeftOf, IsLeftOfAll, IsLeftSet, IsLeftUnbegun}
use Rattle.tape_writer.specs.Told.{AreFiled, IsWrittenSet, Told, with_file}
use Rattle.tape_writer.specs.{declared.course.Course.Course, declared.course.Opened.Opened}
use Rattle.tape_writer.specs.{declared.fault.SetFault.SetFault}
use Rattle.tape_writer.specs.{declared.fault.SetFault.TheVariants.Write}
use Rattle.tape_writer.specs.{declared.fault.SetFault.TheVariants.ReadFailed}
use Rattle.tape_writer.specs.{declared.fault.WriteFault.TheVariants.OutOfMemory}
use Rattle.tape_writer.specs.{declared.fault.WriteFault.TheVariants.RecordLength}
use Rattle.tape_writer.specs.{declared.inputs.set.SetPlan.SetPlan, declared.inputs.cut.Cut.Cut}
use Rattle.tape_writer.specs.{Records.records_of, State.SetState, Tapes.Ended, Tapes.UnderWay}
use Rattle.tape_writer.specs.{Tapes.Tapes, ToldFiles.with_records}

-- prefixes, and contents that remain
pub record CasesOfFronts : Type 0 where
  -- items are appended to the current volume, and a volume to the other volumes
  pub in_order : (u v w : TapeItem)
      → behind_steps (Change ∷ Item u ∷ Item v ∷ Change ∷ Item w ∷ []) (Ended [])
      ≡ UnderWay ((u ∷ v ∷ []) ∷ []) (w ∷ [])
  pub at_the_end : (u : TapeItem)
      → behind_steps (Close ∷ []) (UnderWay [] (u ∷ [])) ≡ Ended ((u ∷ []) ∷ [])
  pub no_volume : (u : TapeItem) → behind_steps (Item u ∷ []) (Ended []) ≡ Ended []
  -- the contents are extended to the whole, and nothing in them is removed
  pub leads_there : (now whole : Tapes) (f : HoldsFront (λ t. t ≡ now) whole)
      → behind_steps f.steps now ≡ whole
  pub not_back : (u : TapeItem) → HoldsFront (λ t. t ≡ UnderWay [] (u ∷ [])) (UnderWay [] []) → ⊥
  pub mid_record : (tapes : Tapes) (volumes : List Vol1) (capacity : ℕ) (id : List ℕ)
      (file : Opened) (course : Course) (fs : List (List Section)) (records : List (List ℕ))
      (m : IsMidRecord (λ t. t ≡ tapes) volumes capacity id file course fs records)
      → (records ≡ m.before ++ m.whole ∷ [])
      × IsPacking (λ t. t ≡ tapes) volumes capacity id file course m.packer fs m.before m.whole
      m.rest
  pub partly : (tapes : Tapes) (volumes : List Vol1) (capacity : ℕ) (id : List ℕ)
      (file : Opened) (course : Course) (fs : List (List Section)) (records : List (List ℕ))
      → IsPartly (λ t. t ≡ tapes) volumes capacity id file course fs records
      → ((p : Packing) × IsInside (λ t. t ≡ tapes) volumes capacity id file course p fs records)
      ⊎ (IsMidRecord (λ t. t ≡ tapes) volumes capacity id file course fs records
      ⊎ IsFlat (λ t. t ≡ tapes) volumes capacity id file course fs records)
  -- the files before the last one are complete
  pub in_last : (tapes : Tapes) (volumes : List Vol1) (capacity : ℕ) (id : List ℕ)
      (told : List Told) (l : IsInLast (λ t. t ≡ tapes) volumes capacity id told)
      → (told ≡ l.past ++ l.last ∷ []) × AreFiled capacity l.past l.files
      × IsPartly (λ t. t ≡ tapes) volumes capacity id l.last.file l.course l.files l.last.records
  -- a prefix of the items remains
  pub left : (tapes : Tapes) (w : SetState ℕ) (told : List Told)
      → (IsLeftInside (λ t. t ≡ tapes) w told
      → IsInLast (HoldsFront (λ t. t ≡ tapes)) w.volumes w.capacity w.set_id told)
      × (IsLeftBehind (λ t. t ≡ tapes) w told → (course : Course)
      × IsWaiting (HoldsFront (λ t. t ≡ tapes)) w.volumes w.capacity w.set_id course told)
      × (IsLeftWhole (λ t. t ≡ tapes) w told
      → IsWrittenSet (HoldsFront (λ t. t ≡ tapes)) w.volumes w.capacity w.set_id told)
  -- for inputs: a prefix of the records was passed, and a file ended only if all its records were
  -- passed
  pub left_of : (tapes : Tapes) (w : SetState ℕ) (told : List Told) (records : List (List ℕ))
      (g : IsLeftOf (λ t. t ≡ tapes) w ⊥ ReadFailed told records)
      → (records ≡ g.front ++ g.back) × (IsLeftInside (λ t. t ≡ tapes) w (with_records told g.front)
      ⊎ ((g.back ≡ []) × IsLeftBehind (λ t. t ≡ tapes) w (with_records told g.front)))
  -- if no allocation of the tapes failed, memory ran out at a longer record
  pub no_memory : (tapes : Tapes) (w : SetState ℕ) (told : List Told) (r s : List ℕ)
      (g : IsLeftOf (λ t. t ≡ tapes) w ⊥ (Write OutOfMemory) told (r ∷ s ∷ []))
      → g.front ≡ r ∷ [] → length r < length s
  pub not_at_the_end : (tapes : Tapes) (w : SetState ℕ) (told : List Told) (r : List ℕ)
      (g : IsLeftOf (λ t. t ≡ tapes) w ⊥ (Write OutOfMemory) told (r ∷ []))
      → g.front ≡ r ∷ [] → ⊥
  -- if an input failed, or a record has a wrong length, all records passed are on the tapes
  pub all_held : (tapes : Tapes) (w : SetState ℕ) (told : List Told) (records : List (List ℕ))
      (g : IsLeftOf (λ t. t ≡ tapes) w ⊥ ReadFailed told records)
      → IsInLast (λ t. t ≡ tapes) w.volumes w.capacity w.set_id (with_records told g.front)
  pub wrong_length : (tapes : Tapes) (w : SetState ℕ) (told : List Told)
      (records : List (List ℕ))
      (g : IsLeftOf (λ t. t ≡ tapes) w ⊥ (Write RecordLength) told records)
      → IsInLast (λ t. t ≡ tapes) w.volumes w.capacity w.set_id (with_records told g.front)
  pub left_in : (tapes : Tapes) (w : SetState ℕ) (id : List ℕ) (shape : Shape) (cut : Cut)
      (x : Head1 × List ℕ) (fault : SetFault)
      → IsLeftIn (λ t. t ≡ tapes) w ⊥ fault id [] shape cut ((x.0, Some x.1) ∷ [])
      → IsLeftUnbegun (λ t. t ≡ tapes) w fault []
      ⊎ IsLeftOf (λ t. t ≡ tapes) w ⊥ fault (with_file id [] x.0 shape) (records_of cut x.1)
  -- no fault that depends on the bytes of an input prevents a file from beginning
  pub unbegun : (tapes : Tapes) (w : SetState ℕ) (told : List Told) (fault : SetFault)
      → IsLeftUnbegun (λ t. t ≡ tapes) w fault told
      → (fault ≢ ReadFailed) × (fault ≢ Write RecordLength) × IsLeftBehind (λ t. t ≡ tapes) w told
  pub left_of_none : (tapes : Tapes) (w : SetState ℕ) (id : List ℕ) (shape : Shape) (cut : Cut)
      (fault : SetFault) → IsLeftOfAll (λ t. t ≡ tapes) w ⊥ fault id [] shape cut []
      → (fault ≡ Write OutOfMemory → ⊥) × (fault ≢ ReadFailed) × (IsLeftBehind (λ t. t ≡ tapes) w []
      ⊎ IsLeftWhole (λ t. t ≡ tapes) w [])
  pub left_set : (fault : SetFault) (plan : SetPlan) (cut : Cut)
      (given : List (Head1 × Option (List ℕ)))
      (g : IsLeftSet {T = ℕ} (λ n t. t ≡ Ended []) (λ n. n ≡ 7) fault plan cut given)
      → (g.writer.out ≡ 7) × (g.writer.volumes ≡ plan.volumes.items)
      × (g.writer.capacity ≡ plan.capacity) × (g.writer.set_id ≡ plan.set_id)
      × IsLeftOfAll (λ t. t ≡ Ended []) g.writer ⊥ fault plan.set_id [] plan.shape cut given
