-- The fixed numbers of the faults.
use Rattle.std.specs.Prelude.{ℕ}
use Rattle.tape_image.specs.declared.item.ImageCause.{ImageCause}
use Rattle.tape_image.specs.declared.item.ImageCause.TheVariants.{Truncated, LengthsDiffer}
use Rattle.tape_image.specs.declared.item.ImageCause.TheVariants.{Reserved, TooLong, Device}
use Rattle.tape_image.specs.declared.item.ImageCause.TheVariants.{OutOfMemory}
use Rattle.tape_image.specs.declared.item.ImageWriteFault.{ImageWriteFault}
use Rattle.tape_image.specs.declared.item.ImageWriteFault.TheVariants as w

-- the number of a cause, as programs print it
abbrev pub number_of : ImageCause → ℕ
number_of Truncated = 1
number_of LengthsDiffer = 2
number_of (Reserved _) = 3
number_of TooLong = 4
number_of Device = 5
number_of OutOfMemory = 6

-- the number of a writer's fault
abbrev pub write_number_of : ImageWriteFault → ℕ
write_number_of w.BlockLength = 1
write_number_of w.Device = 2
write_number_of w.Finished = 3
write_number_of w.TooLong = 4
