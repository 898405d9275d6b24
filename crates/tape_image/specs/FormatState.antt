-- What is left of the SIMH image of an image of another format.
use Rattle.std.specs.Prelude.{◌≡◌, ◌≤◌, ◌<◌, ℕ, List, [], ◌++◌, length, take, drop, Option, Some}
use Rattle.std.specs.Prelude.{None, ⊤}
use Rattle.std.specs.Prelude.{option_map, Result, Ok, Err}
use Rattle.std.specs.Io.KnownBytes.{Keeps, Consumes, IsAtEnd, prepend_known}
use Rattle.tape_image.specs.declared.format.ImageFormat.{ImageFormat}
use Rattle.tape_image.specs.declared.format.{Course.Course, SimhImage.SimhImage}
use Rattle.tape_image.specs.declared.format.Course.TheVariants.{Looking, Passing, Leaving}
use Rattle.tape_image.specs.declared.format.Course.TheVariants.{Over, Keeping, Giving}
use Rattle.tape_image.specs.declared.format.step.Step.{Step}
use Rattle.tape_image.specs.declared.format.step.Step.TheVariants.{Stop, Give, Leave, Keep}
use Rattle.tape_image.specs.Format.{passed, left_out, bytes_after, Before, after, kept_in}
use Rattle.tape_image.specs.Format.{with_more, word_behind, piece_bytes}

-- what is taken of an item is there, and is at least a byte
abbrev pub IsWithin : List ℕ → Step → Type 0
IsWithin front (Stop piece) = ⊤
IsWithin front (Give g) = (1 ≤ g.taken) × (g.taken ≤ length front)
IsWithin front (Leave n w) = 4 ≤ length front
IsWithin front (Keep c) = (0 < c.count) × (6 ≤ length front)

-- what is left, from the bytes that have not been taken
abbrev pub left_in : Course → ImageFormat → Before → List ℕ → List ℕ
left_in Looking format before xs = bytes_after format before xs
left_in (Passing p) format before xs = passed p xs (bytes_after format before)
left_in (Leaving n w) format before xs = left_out n w xs (bytes_after format (after 0))
left_in (Keeping n c) format before xs = kept_in n c before.kept xs (bytes_after format)
left_in (Giving at w) format before xs =
    drop at before.kept ++ (piece_bytes (word_behind w)
    ++ bytes_after format (after before.chunk) xs)
left_in Over format before xs = []

-- what is left, if it is known what is left of the device
abbrev pub simh_remaining :
    {R : Type 0} → (R → Option (List ℕ)) → SimhImage R → Option (List ℕ)
simh_remaining remaining s =
    option_map (λ xs. s.out
    ++ left_in s.course s.format (record { chunk = s.before; kept = s.kept.items }) xs)
    (prepend_known s.input.held (remaining s.input.device))

-- the call gave the first bytes of what is left, none only at the end; or it gave nothing, and the
-- same is left
abbrev pub GivesOn : {E : Type 0} → Option (List ℕ) → Option (List ℕ) → Result (Option ℕ) E
    → List ℕ → Type 0
GivesOn old new (Ok (Some n)) buf =
    (n ≤ length buf) × Consumes old new (take n buf) × (n ≡ 0 → IsAtEnd new)
GivesOn old new (Ok None) buf = Keeps old new
GivesOn old new (Err fault) buf = Keeps old new

-- the call read bytes, of which those are kept for which there is room, none only at the end; or it
-- read nothing
abbrev pub KeepsOf : {E : Type 0} → Option (List ℕ) → Option (List ℕ) → ℕ → List ℕ → List ℕ
    → Result ℕ E → Type 0
KeepsOf old new count kept more (Ok n) =
    (bytes : List ℕ) × Consumes old new bytes × (length bytes ≡ n) × (n ≤ count)
    × (more ≡ with_more kept bytes) × (n ≡ 0 → IsAtEnd new)
KeepsOf old new count kept more (Err fault) = Keeps old new × (more ≡ kept)
