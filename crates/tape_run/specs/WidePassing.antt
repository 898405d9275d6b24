-- Reading a reel with every section skipped, in the wider reading: a section may have no HDR2.
use Rattle.std.specs.Prelude.{◌≡◌, ℕ, List, [], ◌∷◌, Option, None, if◌then◌else◌, Bool, false}
use Rattle.std.specs.Prelude.{⊤}
use Rattle.tape_image.specs.Tape.{TapeItem, block, mark}
use Rattle.tape_label.specs.{Kinds.kind_at, WideHead2.is_further_header}
use Rattle.tape_run.specs.declared.passing.Phase.{Phase}
use Rattle.tape_run.specs.declared.passing.Phase.TheVariants.{Second, Headers, Data}
use Rattle.tape_run.specs.declared.met.Met.{Met}
use Rattle.tape_run.specs.Passing.{Told, second_with}
use Rattle.tape_run.specs.Passing as Strict

-- after a block where a section's second label is expected, which is a further header label or not
abbrev pub second_if : Met → List ℕ → Bool → Phase × Option Told
second_if met b is = if is then (Headers met, None) else (second_with met (kind_at b), None)

-- The phase after an item, and the section that it completes, if any. HDR1 may be followed by a
-- tape mark or by a further header label; otherwise it is as without the wider reading.
abbrev pub step : Phase → TapeItem → Phase × Option Told
step (Second met) mark = (Data met, None)
step (Second met) (block b) = second_if met b (is_further_header b)
step p x = Strict.step p x

-- ---- where the wider reading makes a difference

-- in this phase the item does not show that a section has no HDR2
abbrev pub IsNoAbsence : Phase → TapeItem → Type 0
IsNoAbsence (Second met) mark = ⊥
IsNoAbsence (Second met) (block b) = is_further_header b ≡ false
IsNoAbsence p x = ⊤

-- none of these items does
abbrev pub AreNoAbsence : Phase → List TapeItem → Type 0
AreNoAbsence p [] = ⊤
AreNoAbsence p (x ∷ xs) = IsNoAbsence p x × AreNoAbsence (Strict.step p x).0 xs
