-- The kind of a file, by its first bytes.
use Rattle.std.specs.Prelude.{ℕ, zero, suc, ◌||◌, Bool, false, if◌then◌else◌}
use Rattle.std.specs.Prelude.{List, length, drop, nat_lt, Option, Some, None}
use Rattle.tape_run.specs.declared.container.Container.{Container}
use Rattle.tape_run.specs.declared.container.Container.TheVariants.{Simh, Extended, E11, TextCopy}
use Rattle.tape_run.specs.ContainerFrames.{whole_len, is_e11, is_extended, begins_text}
use Rattle.tape_run.specs.declared.container.Container.TheVariants.{Unknown}
use Rattle.tape_run.specs.{ContainerMarks.packed, ContainerMarks.other_medium}
use Rattle.tape_run.specs.{ContainerMarks.labelled, ContainerRecords.recorded}

-- the item of this length is passed over, if it is whole
abbrev pub walked_by :
    Option ℕ → Bool → List ℕ → (Bool → List ℕ → Bool × List ℕ) → Bool × List ℕ
walked_by None block xs walk = (block, xs)
walked_by (Some n) block xs walk = walk (block || nat_lt 4 n) (drop n xs)

-- whether there is a block among the whole items at the front, or there was one before, and the
-- bytes after them; each item has a byte, so as many steps as there are bytes are enough
abbrev pub walked_from : ℕ → Bool → List ℕ → Bool × List ℕ
walked_from zero block xs = (block, xs)
walked_from (suc steps) block xs = walked_by (whole_len xs) block xs (walked_from steps)

abbrev pub walked : List ℕ → Bool × List ℕ
walked xs = walked_from (length xs) false xs

-- the first of these kinds that is known
abbrev pub first_known : Option Container → Option Container → Option Container → Option Container
    → Container
first_known (Some kind) b c d = kind
first_known None (Some kind) c d = kind
first_known None None (Some kind) d = kind
first_known None None None (Some kind) = kind
first_known None None None None = Unknown

-- the kind of a file that does not begin with a whole SIMH block
abbrev pub foreign : List ℕ → Container
foreign xs = first_known (other_medium xs) (packed xs) (recorded xs) (labelled xs)

-- the kind, from the whole items at the front and what follows them
abbrev pub kind_by : Bool × List ℕ → List ℕ → Container
kind_by (block, rest) xs =
    if is_e11 rest then E11
    else if is_extended rest then Extended
    else if begins_text rest then TextCopy
    else if block then Simh
    else foreign xs

-- the kind of the file that begins with these bytes
abbrev pub container_of : List ℕ → Container
container_of xs = kind_by (walked xs) xs
