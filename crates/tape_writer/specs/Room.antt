-- How much data a writer can still accept.
use Rattle.std.specs.Prelude.{◌*◌, length, ℕ, ◌+◌, ◌-◌}
use Rattle.tape_blocks.specs.{Packing.size_of, Packing.Packing}
use Rattle.tape_writer.specs.{declared.phase.Phase.TheVariants.Filing, State.SetState}
use Rattle.tape_writer.specs.{declared.course.Course.Course, declared.phase.Phase.Phase}

-- an upper bound of the bytes that can be accepted before no volume is left: the free bytes of the
-- current block and the current volume, and for each further volume its capacity and a block
abbrev pub room_of : ℕ → ℕ → Course → Packing → ℕ
room_of volumes capacity course p =
    (volumes - course.volume) * (capacity + p.shape.block_len)
    + ((capacity - course.used) + (p.shape.block_len - size_of p.shape p.parts))

-- the same in each phase; outside a file no record is accepted
abbrev pub room_in : ℕ → ℕ → Course → Phase → ℕ
room_in volumes capacity course (Filing o) = room_of volumes capacity course o.packer
room_in volumes capacity course _ = 0

-- the same for a writer
abbrev pub room_left : {T : Type 0} → SetState T → ℕ
room_left w = room_in (length w.volumes) w.capacity w.course w.phase
