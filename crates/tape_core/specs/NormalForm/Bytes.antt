-- The bytes of the image of a tape in normal form. What is not replaced keeps its bytes: gaps, pad
-- bytes, blocks that cannot be read, and everything from a fault or the end of the medium on.
use Rattle.std.specs.Prelude.{◌≡◌, ◌≤◌, ◌<◌, ℕ, zero, suc, ◌+◌, ◌-◌, ◌%◌, ◌==◌, nat_lt}
use Rattle.std.specs.Prelude.{min, take, drop}
use Rattle.std.specs.Prelude.{◌&&◌, Bool, true, false, List, [], ◌∷◌, ◌++◌, length}
use Rattle.std.specs.Prelude.{replicate, Option, Some, None, if◌then◌else◌}
use Rattle.std.specs.List.{flat_map}
use Rattle.byteorder.specs.Endian.{little_number}
use Rattle.tape_image.specs.{Tape.block, Tape.bad, Tape.mark, Written.written_block}
use Rattle.tape_image.specs.{Written.written, Begins.image_limit}
use Rattle.tape_image.specs.Word.{mark_word, gap_word, longest_block, block_len, block_extent}
use Rattle.tape_core.specs.declared.normal.machine.{TapePlace.TapePlace, Change.Change}
use Rattle.tape_core.specs.declared.normal.machine.{Replacement.Replacement, Missing.Missing}
use Rattle.tape_core.specs.declared.normal.machine.TapePlace.TheVariants.{Start, Data, Over}
use Rattle.tape_core.specs.declared.normal.machine.Replacement.TheVariants.{Same, Dropped, Label}
use Rattle.tape_core.specs.declared.normal.looking.Looked.{Looked}
use Rattle.tape_core.specs.NormalForm.{Codes.is_label_length}
use Rattle.tape_core.specs.NormalForm.Steps.{step_of, same, inserted}

-- ---- the item that bytes begin with

-- no label is read where data are, or where the tape is left as it is
abbrev pub reads_labels : TapePlace → Bool
reads_labels (Data code seen) = false
reads_labels Over = false
reads_labels place = true

-- whether a label is read, and the bytes begin with the word of a block that can be one
abbrev pub begins_label : TapePlace → List ℕ → Bool
begins_label place bytes = reads_labels place && is_label_length (little_number 4 bytes)

-- a block that is not a label stays as it is, or is dropped
abbrev pub unlabelled_instead : Replacement → Replacement
unlabelled_instead Dropped = Dropped
unlabelled_instead other = Same

abbrev pub unlabelled : TapePlace × Change → TapePlace × Change
unlabelled step = (
  step.0,
  record { missing = step.1.missing; instead = unlabelled_instead step.1.instead },
)

-- what the machine does with a block of which the first word and the length are known. A block that
-- is not a label counts by its length alone, and up to 121 bytes of it.
abbrev pub block_step : TapePlace → ℕ → ℕ → TapePlace × Change
block_step place w n =
    if nat_lt longest_block w then unlabelled (step_of place bad)
    else unlabelled (step_of place (block (take (min n 121) (replicate 121 0))))

-- the item takes so many bytes, if they are within the limit
abbrev pub within : ℕ → ℕ → TapePlace × Change → Option Looked
within room size step =
    if nat_lt room size then None
    else Some (record { size = size; next = step.0; change = step.1 })

-- the label of w bytes that the bytes begin with, if its two words agree
abbrev pub looked_label : ℕ → TapePlace → ℕ → List ℕ → Option Looked
looked_label room place w xs =
    if nat_lt (length xs) (block_extent w) then None
    else if little_number 4 (drop (4 + w + w % 2) xs) == w
    then within room (block_extent w) (step_of place (block (take w (drop 4 xs))))
    else None

abbrev pub looked_block : ℕ → TapePlace → ℕ → Option ℕ → Option Looked
looked_block room place w None = None
looked_block room place w (Some n) = within room (block_extent n) (block_step place w n)

abbrev pub looked_word : ℕ → TapePlace → ℕ → List ℕ → Option Looked
looked_word room place w xs =
    if w == mark_word then within room 4 (step_of place mark)
    else if w == gap_word then within room 4 (place, same)
    else if begins_label place xs then looked_label room place w xs
    else looked_block room place w (block_len w)

abbrev pub is_over : TapePlace → Bool
is_over Over = true
is_over place = false

-- the item or gap that the bytes begin with, and what replaces it, if `room` bytes are left to the
-- limit; `None` if the rest is left as it is
abbrev pub looked : ℕ → TapePlace → List ℕ → Option Looked
looked room place xs =
    if is_over place then None
    else if nat_lt (length xs) 4 then None
    else looked_word room place (little_number 4 xs) xs

-- ---- the bytes

-- the label that is inserted, as a block
abbrev pub inserted_bytes : Missing → List ℕ
inserted_bytes missing = flat_map written (inserted missing)

-- n bytes are left out; if the image ends before, one byte stands for the truncated item
abbrev pub skipped : ℕ → List ℕ → List ℕ → List ℕ
skipped n xs rest = if nat_lt (length xs) n then 0 ∷ [] else rest

-- what replaces an item of n bytes, and the rest
abbrev pub instead_bytes : Replacement → ℕ → List ℕ → List ℕ → List ℕ
instead_bytes Same n xs rest = take n xs ++ rest
instead_bytes Dropped n xs rest = skipped n xs rest
instead_bytes (Label text) n xs rest = written_block text ++ skipped n xs rest

-- the bytes from an item on that was looked at, with the bytes that the rest gives
abbrev pub by_looked :
    Option Looked → ℕ → List ℕ → (ℕ → TapePlace → List ℕ → List ℕ) → List ℕ
by_looked None room xs rest = xs
by_looked (Some l) room xs rest =
    inserted_bytes l.change.missing
    ++ instead_bytes l.change.instead l.size xs (rest (room - l.size) l.next (drop l.size xs))

-- The bytes in normal form, from this place on. Each step takes at least four bytes, so as many
-- steps as there are bytes are enough.
abbrev pub bytes_from : ℕ → ℕ → TapePlace → List ℕ → List ℕ
bytes_from zero room place xs = xs
bytes_from (suc steps) room place xs =
    by_looked (looked room place xs) room xs (bytes_from steps)

abbrev pub normal_from : ℕ → TapePlace → List ℕ → List ℕ
normal_from room place xs = bytes_from (length xs) room place xs

-- the bytes of an image in normal form
abbrev pub normal_bytes : List ℕ → List ℕ
normal_bytes xs = normal_from image_limit (Start 0) xs

-- ---- what is held to look at an item

-- enough is held
abbrev pub IsHeld : TapePlace → List ℕ → Type 0
IsHeld place held = (4 ≤ length held)
    × (begins_label place held ≡ true → block_extent (little_number 4 held) ≤ length held)

-- there is no more, and it is not enough
abbrev pub IsShort : TapePlace → List ℕ → Type 0
IsShort place held = 4 ≤ length held
    → (begins_label place held ≡ true) × (length held < block_extent (little_number 4 held))
