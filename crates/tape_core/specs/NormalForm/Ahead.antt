-- What a reader of a file takes from a tape, and from its normal form.
use Rattle.std.specs.Prelude.{◌≡◌, false, List, [], ◌∷◌, ◌++◌, Option, Some, None}
use Rattle.tape_image.specs.Tape.{TapeItem}
use Rattle.tape_core.specs.declared.event.Answer.{Answer}
use Rattle.tape_core.specs.declared.event.Answer.TheVariants.{Passed, Deliver}
use Rattle.tape_core.specs.declared.event.Answer.TheVariants.{Useless}
use Rattle.tape_core.specs.declared.event.Phase.TheVariants.{Volume, Trailers}
use Rattle.tape_core.specs.{State.State, Known.is_finished, Table.Outcome, Table.step_of}
use Rattle.tape_core.specs.declared.normal.code.Code.TheVariants.{Ascii}
use Rattle.tape_core.specs.declared.normal.numbers.FileSeen.{FileSeen}
use Rattle.tape_core.specs.NormalForm.{normal, of_trailers}

-- an item that was delivered, and what follows it; nothing follows an answer that ends the reading
abbrev pub delivered_by : Answer → TapeItem → List TapeItem → List TapeItem
delivered_by Passed item rest = rest
delivered_by Deliver item rest = item ∷ rest
delivered_by answer item rest = []

-- the items that a reading delivers
abbrev pub delivered : State → List TapeItem → List TapeItem
delivered core [] = []
delivered core (x ∷ xs) =
    delivered_by (step_of core (Some x)).0 x (delivered (step_of core (Some x)).1 xs)

-- the outcome, if it completes a section or the file, or that of the rest, if the reading goes on
abbrev pub closed_by : Outcome → Option Outcome → Option Outcome
closed_by (Passed, core) rest = rest
closed_by (Deliver, core) rest = rest
closed_by (Useless why, core) rest = None
closed_by (answer, core) rest = Some (answer, core)

-- the outcome that completes a section or the file
abbrev pub closed : State → List TapeItem → Option Outcome
closed core [] = None
closed core (x ∷ xs) =
    closed_by (step_of core (Some x)) (closed (step_of core (Some x)).1 xs)

-- From ys a reader takes everything that it takes from xs, and it may take more: only if the
-- reading of xs completes nothing.
pub record IsAhead (core : State) (xs ys : List TapeItem) : Type 0 where
  pub more : List TapeItem
  pub front : delivered core ys ≡ delivered core xs ++ more
  pub same : (out : Outcome) → closed core xs ≡ Some out → closed core ys ≡ Some out

-- A reader at the start of a reel that still needs something takes everything from the normal form
-- of a tape that it takes from the tape, and comes to the same end of the section or the file.
abbrev pub NormalIsAhead : Type 0
NormalIsAhead =
    (core : State) (items : List TapeItem) → core.phase ≡ Volume
    → is_finished core.position ≡ false → IsAhead core items (normal items)

-- The same for a reader that begins after a trailer label, as for a later file of a reel.
abbrev pub BehindIsAhead : Type 0
BehindIsAhead =
    (core : State) (seen : FileSeen) (items : List TapeItem) → core.phase ≡ Trailers
    → is_finished core.position ≡ false → IsAhead core items (of_trailers Ascii seen items)
