-- What is left of an image in normal form.
use Rattle.std.specs.Prelude.{◌≡◌, ◌≤◌, ℕ, ◌+◌, ◌*◌, length, Some, None, Result, Ok, Err, List}
use Rattle.std.specs.Prelude.{◌++◌, take, drop, Option, option_map, if◌then◌else◌}
use Rattle.tape_core.specs.declared.normal.machine.{TapePlace.TapePlace}
use Rattle.tape_core.specs.declared.normal.image.Course.{Course}
use Rattle.tape_core.specs.declared.normal.image.Course.TheVariants.{Looking, Passing, Skipping}
use Rattle.tape_core.specs.declared.normal.image.NormalImage.{NormalImage}
use Rattle.tape_core.specs.NormalForm.Bytes.{normal_from, skipped, is_over}
use Rattle.std.specs.Io.KnownBytes.{Keeps, Consumes, IsAtEnd, prepend_known}

-- what is left, from the bytes that have not been taken
abbrev pub left_in : Course → ℕ → TapePlace → List ℕ → List ℕ
left_in Looking room place xs = normal_from room place xs
left_in (Passing n) room place xs = take n xs ++ normal_from room place (drop n xs)
left_in (Skipping n) room place xs = skipped n xs (normal_from room place (drop n xs))

-- what is left, if it is known what is left of the device
abbrev pub normal_remaining : {R : Type 0} → (R → Option (List ℕ)) → NormalImage R → Option (List ℕ)
normal_remaining remaining s =
    option_map
    (λ xs. s.inserted.now ++ (s.label ++ left_in s.course s.room s.place xs))
    (prepend_known s.input.held (remaining s.input.device))

-- more than the number of steps up to the next byte
abbrev pub steps_left : {R : Type 0} → NormalImage R → ℕ
steps_left s = place_steps s.place s.room + course_steps s.course
  where
    place_steps : TapePlace → ℕ → ℕ
    place_steps place room = if is_over place then 0 else 2 * room + 3

    course_steps : Course → ℕ
    course_steps Looking = 0
    course_steps (Passing n) = 1
    course_steps (Skipping n) = 2

-- the call gave the first bytes of what is left, none only at the end; or it gave nothing, and the
-- same is left
abbrev pub GivesOn : {E : Type 0} → Option (List ℕ) → Option (List ℕ) → Result (Option ℕ) E
    → List ℕ → Type 0
GivesOn old new (Ok (Some n)) buf =
    (n ≤ length buf) × Consumes old new (take n buf) × (n ≡ 0 → IsAtEnd new)
GivesOn old new (Ok None) buf = Keeps old new
GivesOn old new (Err fault) buf = Keeps old new
