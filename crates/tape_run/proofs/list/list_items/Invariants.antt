use Rattle.std.proofs.Common.{◌≡◌, ◌-◌, ◌*◌, ◌≤◌}
use Rattle.tape_image.specs.{Begins.image_limit, Reader.going}
use Rattle.tape_run.proofs.ListedSoFar.{SoFar}
use Rattle.tape_run.proofs.list.list_items.Given as goal

abbrev pub invariant-items : goal.invariant-items
invariant-items g l = record {
  on : l.image.status ≡ going;
  limit : l.image.place ≤ image_limit;
  few : l.number * 4 ≤ l.image.place;
  here : l.from ≡ l.image.place;
  same_device : l.image.device ≡ l.fn.image.device;
  so_far : SoFar l.offsets l.fn.image.left l.image.left l.image.place l.number
      (g.W.Write.contents l.fn.writer) (g.W.Write.contents l.writer);
}

abbrev pub decreases-items : goal.decreases-items
decreases-items g l = image_limit - l.image.place
