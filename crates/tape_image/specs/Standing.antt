-- How callers see the private state of an `ImageWriter`, and the results of its private calls.
use Rattle.std.specs.Prelude.{◌≡◌, ℕ, ◌+◌, ◌<◌, ◌≤◌, Result, Ok, Err}
use Rattle.tape_image.specs.{declared.item.ImageWriteFault.ImageWriteFault, Begins.image_limit}
use Rattle.tape_image.specs.declared.item.ImageWriteFault.TheVariants.{Device, Finished, TooLong}
use Rattle.tape_image.specs.declared.writer.Phase.{Phase}
use Rattle.tape_image.specs.declared.writer.Phase.TheVariants.{Open, Done, Broken}
use Rattle.tape_image.specs.Writer.{Standing, writing, finished, broken, Writer}

-- the state that callers see
abbrev pub standing_of : Phase → Standing
standing_of Open = writing
standing_of Done = finished
standing_of Broken = broken

-- Ok if a writer in this state may write, otherwise the reason why it may not
abbrev pub MayWrite : Standing → Result (Unit {0}) ImageWriteFault → Type 0
MayWrite writing result = result ≡ Ok tt
MayWrite finished result = result ≡ Err Finished
MayWrite broken result = result ≡ Err Device

-- whether `extent` more bytes end within the limit
abbrev pub HasRoom : ℕ → ℕ → Result (Unit {0}) ImageWriteFault → Type 0
HasRoom size extent (Ok _) = size + extent ≤ image_limit
HasRoom size extent (Err fault) = (fault ≡ TooLong) × (image_limit < size + extent)

-- the writer after recording whether `extent` bytes were written
abbrev pub noted : Result (Unit {0}) ImageWriteFault → ℕ → Standing → Writer → Writer
noted (Ok _) extent after old =
    record { size = old.size + extent; standing = after; contents = old.contents }
noted (Err _) extent after old =
    record { size = old.size; standing = broken; contents = old.contents }
