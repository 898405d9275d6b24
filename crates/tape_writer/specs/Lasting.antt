-- The properties that every call preserves, whatever its result.
use Rattle.std.specs.Prelude.{List, OnOk, Result, ◌++◌, ◌≡◌, ◌⊎◌, [], ℕ}
use Rattle.tape_image.specs.Tape.{TapeItem}
use Rattle.tape_label.specs.declared.values.Vol1.{Vol1}
use Rattle.tape_set.specs.Sizes.{items_size}
use Rattle.tape_writer.specs.Tapes.{Ended, Failures, Grows, Tapes, UnderWay, WasAsked}
use Rattle.tape_writer.specs.{declared.out.TapeOut.Ghosts, declared.tape.Tape.Tape}
use Rattle.tape_writer.specs.{declared.fault.WriteFault.WriteFault}

-- There is a current volume of the counted size, and the given volumes ended first.
pub record Lasts (H : Tapes → Type 0) (used : ℕ) (volumes : List (List TapeItem)) : Type 0 where
  pub more : List (List TapeItem)
  pub items : List TapeItem
  pub held : H (UnderWay (volumes ++ more) items)
  pub size : used ≡ items_size items

-- there is no volume yet and no byte was counted, or the current volume has the counted size
abbrev pub LastsFirst : (Tapes → Type 0) → ℕ → Type 0
LastsFirst H used = (H (Ended []) × (used ≡ 0)) ⊎ Lasts H used []

-- Volumes that have ended are unchanged, the size is that of the items accepted, and no count of
-- failures decreases.
pub record Lasting (H : Tapes → Type 0) (failures : Failures) (used : ℕ)
    (H' : Tapes → Type 0) (failures' : Failures) (used' : ℕ) : Type 0 where
  pub lasts : (volumes : List (List TapeItem)) (items : List TapeItem)
      → H (UnderWay volumes items) → used ≡ items_size items → Lasts H' used' volumes
  pub count : Grows failures failures'

-- the same for the output of a tape and the size that it counts, before and after a call
abbrev pub TapeLasts : {T : Type 0} → Ghosts T → Tape T → Tape T → Type 0
TapeLasts g old new = Lasting (g.holds old.out) (g.failures old.out) old.course.used
    (g.holds new.out) (g.failures new.out) new.course.used

-- after a call that succeeds, the current volume was requested with its own label, if it was before
abbrev pub StaysAsked : {T : Type 0} → Ghosts T → List Vol1 → Tape T
    → Result (Unit {0}) WriteFault → Tape T → Type 0
StaysAsked g volumes old result new = WasAsked (g.asked old.out) volumes old.course.volume
    → OnOk result (WasAsked (g.asked new.out) volumes new.course.volume)
