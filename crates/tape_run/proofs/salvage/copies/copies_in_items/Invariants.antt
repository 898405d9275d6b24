use Rattle.std.proofs.Common.{◌≡◌, ◌-◌, ◌≤◌}
use Rattle.tape_image.specs.{Begins.image_limit, Reader.going}
use Rattle.tape_run.proofs.SalvageSeen.{SoFar}
use Rattle.tape_run.proofs.salvage.copies.copies_in_items.Given as goal

abbrev pub invariant-items : goal.invariant-items
invariant-items g l = record {
  on : l.image.status ≡ going;
  limit : l.image.place ≤ image_limit;
  same_device : l.image.device ≡ l.fn.image.device;
  so_far : SoFar l.set_id l.file l.number l.fn.image.left l.image.left l.image.place l.expected
      l.read l.fn.copies.items l.copies.items;
}

abbrev pub decreases-items : goal.decreases-items
decreases-items g l = image_limit - l.image.place
