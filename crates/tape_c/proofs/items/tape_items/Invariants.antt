use Rattle.std.proofs.Common.{◌≡◌, ◌-◌, ◌≤◌, length}
use Rattle.tape_image.specs.{Begins.image_limit, Reader.going}
use Rattle.tape_c.proofs.Tables.{SoFar}
use Rattle.tape_c.proofs.items.tape_items.Given as goal

abbrev pub invariant-items : goal.invariant-items
invariant-items l = record {
  on : l.reader.status ≡ going;
  limit : l.reader.place ≤ image_limit;
  room : l.count ≤ length l.out;
  so_far : SoFar l.image l.reader.left l.reader.place l.count l.fn.out l.out;
}

abbrev pub decreases-items : goal.decreases-items
decreases-items l = image_limit - l.reader.place
