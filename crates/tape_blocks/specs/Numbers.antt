-- The fixed numbers of the faults.
use Rattle.std.specs.Prelude.{ℕ}
use Rattle.tape_blocks.specs.declared.check.BlockCause.{BlockCause}
use Rattle.tape_blocks.specs.declared.check.BlockCause.TheVariants.{ShortOffset, NotMultiple}
use Rattle.tape_blocks.specs.declared.check.BlockCause.TheVariants.{BadCount, PastEnd, BadIndicator}
use Rattle.tape_blocks.specs.declared.check.BlockCause.TheVariants.{SpanBroken, BadPadding}
use Rattle.tape_blocks.specs.declared.offer.PackFault.{PackFault}
use Rattle.tape_blocks.specs.declared.offer.PackFault.TheVariants.{RecordLength, ShapeRange}
use Rattle.tape_blocks.specs.declared.offer.PackFault.TheVariants.{OutOfMemory}

-- the number of each cause of a fault of a block
abbrev pub cause_number : BlockCause → ℕ
cause_number ShortOffset = 1
cause_number NotMultiple = 2
cause_number BadCount = 3
cause_number PastEnd = 4
cause_number BadIndicator = 5
cause_number SpanBroken = 6
cause_number BadPadding = 7

-- the number of each fault of a packer
abbrev pub pack_fault_number : PackFault → ℕ
pack_fault_number RecordLength = 8
pack_fault_number ShapeRange = 9
pack_fault_number OutOfMemory = 10
