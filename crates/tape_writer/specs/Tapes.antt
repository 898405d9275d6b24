-- The output: volumes of items, and the effect of the calls of a `TapeOut`.
pub use Rattle.tape_set.specs.Counts.{Rose}
use Rattle.std.specs.Prelude.{IfErr, List, OnOk, Result, Some, ◌++◌, ◌+◌, ◌∷◌, ◌≡◌, [], slice_get}
use Rattle.std.specs.Prelude.{ℕ, ◌≤◌, OnErr, unwrap_or}
use Rattle.tape_image.specs.Tape.{TapeItem}
use Rattle.tape_label.specs.declared.values.Vol1.{Vol1}

-- the volumes that have ended, in order, and the items of the current volume, if there is one
pub data Tapes : Type 0 where
  Ended : (volumes : List (List TapeItem)) → Tapes
  UnderWay : (volumes : List (List TapeItem)) (items : List TapeItem) → Tapes

-- all volumes, including the current one as if it had ended
abbrev pub all_volumes : Tapes → List (List TapeItem)
all_volumes (Ended volumes) = volumes
all_volumes (UnderWay volumes items) = volumes ++ items ∷ []

-- the items of a volume, counted from 0, or no items if there is no such volume
abbrev pub volume_at : Tapes → ℕ → List TapeItem
volume_at tapes k = unwrap_or (slice_get (all_volumes tapes) k) []

-- if the call succeeds, it appends `more` to the current volume, if there is one
abbrev pub Takes : {E : Type 0} → List TapeItem → (Tapes → Type 0) → Result (Unit {0}) E
    → (Tapes → Type 0) → Type 0
Takes more H result H' = (volumes : List (List TapeItem)) (items : List TapeItem)
    → H (UnderWay volumes items) → OnOk result (H' (UnderWay volumes (items ++ more)))

-- if the call succeeds, it ends the current volume, if there is one, and begins the next volume
-- with the items `first`
abbrev pub Changes : {E : Type 0} → List TapeItem → (Tapes → Type 0) → Result (Unit {0}) E
    → (Tapes → Type 0) → Type 0
Changes first H result H' = (tapes : Tapes)
    → H tapes → OnOk result (H' (UnderWay (all_volumes tapes) first))

-- if the call succeeds, it ends the current volume, if there is one
abbrev pub Closes : {E : Type 0} → (Tapes → Type 0) → Result (Unit {0}) E → (Tapes → Type 0)
    → Type 0
Closes H result H' = (tapes : Tapes) → H tapes → OnOk result (H' (Ended (all_volumes tapes)))

-- if the call is refused, the contents are unchanged
abbrev pub Keeps : {E : Type 0} → (Tapes → Type 0) → Result (Unit {0}) E → (Tapes → Type 0) → Type 0
Keeps H result H' = (tapes : Tapes) → H tapes → OnErr result (H' tapes)

-- the volume with the given number, from 1, was requested with its own label
abbrev pub WasAsked : (Vol1 → Type 0) → List Vol1 → ℕ → Type 0
WasAsked asked volumes number = (k : ℕ) (volume : Vol1) → number ≡ k + 1
    → slice_get volumes k ≡ Some volume → asked volume

-- The number of calls in which the device failed, and of failed allocations.
pub record Failures : Type 0 where
  pub device : ℕ
  pub memory : ℕ

-- no count decreased
abbrev pub Grows : Failures → Failures → Type 0
Grows old new = (old.device ≤ new.device) × (old.memory ≤ new.memory)

-- the faults for the device and for memory are each returned only if their count increased in the
-- call
abbrev pub HasCause : {E : Type 0} → E → E → Failures → Result (Unit {0}) E → Failures → Type 0
HasCause device memory old result new = IfErr result (λ fault.
    (fault ≡ device → Rose old.device new.device)
    × (fault ≡ memory → Rose old.memory new.memory))
