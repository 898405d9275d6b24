use Rattle.std.proofs.Common.{◌≡◌, ◌≤◌, ◌-◌, length, vec_capacity}
use Rattle.tape_image.specs.declared.reader.State.TheVariants.{Going}
use Rattle.tape_image.specs.{Begins.image_limit, Reader.going, Reader.buffer_len, Front.Passed}
use Rattle.tape_image.proofs.reader.ImageReader.next.Given as goal

abbrev pub invariant-loop-found : goal.invariant-loop-found
invariant-loop-found g l = record {
  going : l.fn.self.status ≡ going;
  on : l.self-inside.state ≡ Going;
  same_device : l.self-inside.device.ghost_name ≡ l.fn.self.device;
  same_room : vec_capacity l.self-inside.buffer ≡ l.fn.self.room;
  long : length l.self-inside.buffer.items ≡ buffer_len;
  limit : l.self-inside.place ≤ image_limit;
  passed : Passed l.fn.self.place l.fn.self.left (g.R.Read.remaining l.self-inside.device.now)
      l.self-inside.place;
}

abbrev pub decreases-loop-found : goal.decreases-loop-found
decreases-loop-found g l = image_limit - l.self-inside.place
