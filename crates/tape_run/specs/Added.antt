-- The sections that an image adds to a catalogue.
use Rattle.std.specs.Prelude.{◌≡◌, ℕ, List, length, Option, IfSome}
use Rattle.tape_image.specs.{declared.item.Ending.Ending, Step.TakesEnd, Step.TakesFault}
use Rattle.tape_image.specs.{Tape.TapeItem, Begins.Walks, Reader.IfKnown}
use Rattle.tape_image.specs.declared.item.Ending.TheVariants as endings
use Rattle.tape_run.specs.declared.section.{ImageStop.ImageStop, ImageLine.ImageLine}
use Rattle.tape_run.specs.declared.passing.Phase.TheVariants.{Volume}
use Rattle.tape_run.specs.declared.section.ImageStop.TheVariants.{Marked, Physical, Fault}
use Rattle.tape_run.specs.Passing.{Told, told_from, met_in}
use Rattle.tape_run.specs.Noted.{noted_all, KeepsPlaces, GoodIsShown}

-- the end of the medium as a way to stop
abbrev pub stop_at : Ending → ImageStop
stop_at endings.Marked = Marked
stop_at endings.Physical = Physical

-- The bytes begin with these items, and then stop like this: at an end, or at a fault caused by the
-- bytes or, if the device failed, by those that it returned.
abbrev pub StopsBehind : List TapeItem → ImageStop → List ℕ → List ℕ → Type 0
StopsBehind items Marked xs ys = (place : ℕ) × TakesEnd 0 items endings.Marked place xs ys
StopsBehind items Physical xs ys = (place : ℕ) × TakesEnd 0 items endings.Physical place xs ys
StopsBehind items (Fault fault) xs ys = TakesFault 0 items fault xs ys

-- All items that a reader returned were read, and the sections found in them were added. Before the
-- call the reader had the bytes `before`, and afterwards it has the bytes `after`.
pub record Adds
    (before after : Option (List ℕ)) (old : List Told) (line : ImageLine) (new : List Told) : Type 0
  where
    pub items : List TapeItem
    pub counted : line.items ≡ length items
    pub stop : IfKnown before after (StopsBehind items line.stop)
    pub noted : new ≡ noted_all old (met_in items)
    pub places : KeepsPlaces old new
    pub good : GoodIsShown items old new

-- Memory ran out: the sections found in a prefix of the items were added.
pub record AddsInPart (before : Option (List ℕ)) (old new : List Told) : Type 0 where
  pub items : List TapeItem
  pub front : IfSome before (λ xs. (place : ℕ) × (ys : List ℕ) × Walks 0 xs items place ys)
  pub noted : new ≡ noted_all old (told_from Volume items)
